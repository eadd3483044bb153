use Rattle.std.proofs.Common.{length, ◌+◌, ◌*◌}
use Rattle.std.specs.Prelude.{max}
use Rattle.split_check.proofs.judging.+judging.Given as goal

abbrev pub decreases-judge_steps : goal.decreases-judge_steps
decreases-judge_steps g l = 5 * length l.steps.now

abbrev pub decreases-judge_halves : goal.decreases-judge_halves
decreases-judge_halves g l = 5 * max (length l.halves.front.now) (length l.halves.back.now) + 4

abbrev pub decreases-judge_beside : goal.decreases-judge_beside
decreases-judge_beside g l = 5 * max (length l.halves.front.now) (length l.halves.back.now) + 3

abbrev pub decreases-judge_beside-scope : goal.decreases-judge_beside-scope
decreases-judge_beside-scope g l = 5 * max (length l.front.now) (length l.back.now) + 2

abbrev pub decreases-judge_beside-scope-spawn_scoped_with : goal.decreases-judge_beside-scope-spawn_scoped_with
decreases-judge_beside-scope-spawn_scoped_with g l = 5 * length l.back.now + 1
