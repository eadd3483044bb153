use Rattle.std.proofs.Common.{length}
use Rattle.signature_log.specs.Versions.{entries_of}
use Rattle.infer_check.specs.Walks.{Follows}
use Rattle.split_check.specs.Steps.{steps_due}
use Rattle.split_check.proofs.Judged.{DueBehind}
use Rattle.split_check.proofs.judging.judge_here.Given as goal

abbrev pub invariant-loop-step : goal.invariant-loop-step
invariant-loop-step g l = record {
  follows : Follows g.R.Reducer.owns g.R.Reducer.denotes g.R.Reducer.serves (entries_of l.fn.crew.version.now) l.fn.r l.r;
  so_far : DueBehind (steps_due (entries_of l.fn.crew.version.now) l.whole l.rest) (steps_due (entries_of l.fn.crew.version.now) l.whole l.fn.steps) l.results.items;
}

abbrev pub decreases-loop-step : goal.decreases-loop-step
decreases-loop-step g l = length l.rest
