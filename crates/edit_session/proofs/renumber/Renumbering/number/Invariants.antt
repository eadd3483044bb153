-- The number is among those that are left, as it is among all.
use Rattle.std.proofs.Common.{◌≡◌, length}
use Rattle.edit_session.specs.Answers.{renumbered}
use Rattle.edit_session.proofs.renumber.Renumbering.number.Given as goal

abbrev pub invariant-loop-first : goal.invariant-loop-first
invariant-loop-first l = record {
  same : renumbered l.self.old.now l.self.new.now l.symbol ≡ renumbered l.old l.new l.symbol;
}

abbrev pub decreases-loop-first : goal.decreases-loop-first
decreases-loop-first l = length l.old
