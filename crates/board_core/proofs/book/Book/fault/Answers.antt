use Rattle.board_core.specs.Steps.{events_in}
use Rattle.board_core.proofs.Reading.{fault_first}
use Rattle.board_core.proofs.book.Book.fault.Goals as goal

pub returns-clause-first : goal.returns-clause-first
returns-clause-first g c = rw (← c.self.view_is) (fault_first (events_in c.self.inside.end c.self.inside.history.items) _ c.self.invariant.keeps.fault_kept)
