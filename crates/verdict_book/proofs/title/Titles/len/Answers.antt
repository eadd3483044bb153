use Rattle.std.proofs.Common.{◌≡◌, arith, length, sym, ap, ◌∙◌}
use Rattle.verdict_book.proofs.Naming.{titled_length}
use Rattle.verdict_book.proofs.title.Titles.len.Goals as goal

pub returns : goal.returns
returns c =
    let t = c.self.inside in
    let count : length t.spots.items ≡ length c.args.self.now = sym (titled_length t.modules.items t.texts.items t.spots.items) ∙ ap length c.self.view_is in
    omega (arith, count, c.len.ensures)
