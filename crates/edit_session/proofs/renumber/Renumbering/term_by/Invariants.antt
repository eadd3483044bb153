-- The nodes so far stand in the pool, with the new numbers.
use Rattle.std.proofs.Common.{◌≡◌, length}
use Rattle.edit_session.specs.Answers.{renumbered}
use Rattle.edit_session.specs.Renumbering.{AreRenumbered}
use Rattle.edit_session.proofs.renumber.Renumbering.term_by.Given as goal

abbrev pub invariant-loop-at : goal.invariant-loop-at
invariant-loop-at l = record {
  count : length l.places.items ≡ l.at;
  loaded : AreRenumbered (renumbered l.self.old.now l.self.new.now) l.term.0 l.pool l.places.items;
}
