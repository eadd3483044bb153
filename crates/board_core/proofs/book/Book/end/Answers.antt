use Rattle.std.proofs.Common.{sym, ◌∙◌}
use Rattle.board_core.proofs.book.Book.end.Goals as goal

pub returns : goal.returns
returns g c = rw (← c.self.view_is) (c.as_ref.ensures.value ∙ sym c.self.invariant.keeps.end_kept)
