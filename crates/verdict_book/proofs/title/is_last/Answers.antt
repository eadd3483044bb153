use Rattle.std.proofs.Common.{sym, ap, ◌∙◌, Some}
use Rattle.std.specs.Cmp.Lexicographic.{same_text}
use Rattle.verdict_book.proofs.title.is_last.Goals as goal

pub returns-in-Some : goal.returns-in-Some
returns-in-Some c = λ yes.
    let same = same_text c.as_slice.result.now c.as_slice-in-Some.result.now (sym yes ∙ c.eq.ensures) in
    sym c.in-Some.ensures.value ∙ ap Some (sym c.as_slice.ensures ∙ same ∙ c.as_slice-in-Some.ensures)
