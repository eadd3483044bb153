use Rattle.std.proofs.Common.{subst, sym as flip}
use Rattle.rule_match.specs.Selecting.{IsMatcher}
use Rattle.conversion.proofs.selection.selection_before.Goals.{in-Some+in_ok-matcher-in-Some, in_default+in_ok-sides-in_default+in_ok-matcher-in_default}
use Rattle.conversion.proofs.selection.selection_before.Goals as goal

pub returns-clause-within : goal.returns-clause-within
returns-clause-within c = λ n h. elim c.match-tree.branch [
  | in-Some+in_ok-matcher-in-Some w ↦ subst (IsMatcher n) (flip w.matcher-is) (w.in_ok-matcher-in-Some.ensures.within n h)
  | in_default+in_ok-sides-in_default+in_ok-matcher-in_default w ↦ subst (IsMatcher n) (flip w.matcher-is) (w.in_ok-matcher-in_default.ensures.within n h)
]
