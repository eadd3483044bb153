use Rattle.std.proofs.Common.{◌≡◌, take}
use Rattle.std.specs.Arc.{arc_value}
use Rattle.board_core.specs.Shown.{blanks, part_of}
use Rattle.board_core.proofs.book.Book.replay.Given as goal

abbrev pub invariant-loop-at : goal.invariant-loop-at
invariant-loop-at g l = l.book ≡ part_of (blanks (arc_value l.blank) l.self.jobs) (take l.at l.self.events)
