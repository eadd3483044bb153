use Rattle.std.proofs.Common.{◌≡◌, ◌+◌, ◌*◌, drop, map}
use Rattle.dk_model.specs.Trees.{tree}
use Rattle.signature_log.specs.Versions.{entries_of}
use Rattle.checked_steps.specs.Taken.{steps_taken, all_joined}
use Rattle.certificate_items.specs.Views.{plain_steps, plain_joins}
use Rattle.tree_steps.specs.Counts.{IsCounted}
use Rattle.tree_steps.specs.Views.{pair}
use Rattle.tree_steps.proofs.steps.Steps.+steps.Given as goal

-- each join is one level further in

abbrev pub decreases-steps_taken : goal.decreases-steps_taken
decreases-steps_taken l = 6 * l.self.depth + 4

abbrev pub decreases-step_taken : goal.decreases-step_taken
decreases-step_taken l = 6 * l.self.depth + 3

abbrev pub decreases-fired : goal.decreases-fired
decreases-fired l = 6 * l.self.depth + 2

abbrev pub decreases-all_joined : goal.decreases-all_joined
decreases-all_joined l = 6 * l.self.depth + 1

abbrev pub decreases-joined : goal.decreases-joined
decreases-joined l = 6 * l.self.depth

abbrev pub decreases-is_reached : goal.decreases-is_reached
decreases-is_reached l = 6 * l.self.depth + 5

abbrev pub invariant-steps_taken-loop-step : goal.invariant-steps_taken-loop-step
invariant-steps_taken-loop-step l =
    record {
      same : steps_taken (entries_of l.self.version.now) (plain_steps (drop l.step-index l.steps)) (tree l.counted.term) ≡ steps_taken (entries_of l.self.version.now) (plain_steps l.steps) (tree l.fn.term);
      counted : IsCounted l.counted;
    }

abbrev pub invariant-all_joined-loop-join : goal.invariant-all_joined-loop-join
invariant-all_joined-loop-join l =
    all_joined (entries_of l.self.version.now) (plain_joins (drop l.join-index l.joins)) (map pair l.pairs) ≡ all_joined (entries_of l.self.version.now) (plain_joins l.joins) (map pair l.fn.pairs)
