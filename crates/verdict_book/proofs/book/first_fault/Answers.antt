use Rattle.std.proofs.Common.{ap, ◌∙◌, subst, sym}
use Rattle.std.specs.Prelude.{◌↔◌, IsNone}
use Rattle.board_core.specs.Machine.{marks_of}
use Rattle.verdict_book.specs.Books.{fault_of_end, IsWithoutFault}
use Rattle.verdict_book.proofs.Answered.{ends_by_itself, first_any, none_named}
use Rattle.verdict_book.proofs.book.first_fault.Goals as goal

pub returns-in-Some-clause-end : goal.returns-in-Some-clause-end
returns-in-Some-clause-end g c = λ clean. let t = first_any c.args.book.now.events c.in-Some.fault.0 c.in-Some.fault.1 c.in-Some.ensures.first in cc

pub returns-in-Some-clause-none : goal.returns-in-Some-clause-none
returns-in-Some-clause-none g c =
    let t = first_any c.args.book.now.events c.in-Some.fault.0 c.in-Some.fault.1 c.in-Some.ensures.first in
    (λ h. cc, λ w. let clean = w.0 in cc)

pub returns-in-None-clause-none : goal.returns-in-None-clause-none
returns-in-None-clause-none g c =
    let es = c.args.book.now.events in
    let own = ends_by_itself (marks_of c.args.book.now.jobs) es c.history.ensures.lawful c.requires.sealed c.in-None.ensures.none in
    subst (λ f. IsNone f ↔ IsWithoutFault es) (sym (c.end_fault.ensures ∙ ap (fault_of_end c.len.result) c.end.ensures)) (none_named es c.len.result c.in-None.ensures.none own)
