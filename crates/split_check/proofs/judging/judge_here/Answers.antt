use Rattle.signature_log.specs.Versions.{entries_of}
use Rattle.split_check.specs.Steps.{step_due, steps_due}
use Rattle.split_check.proofs.Judged.{due_ended}
use Rattle.split_check.proofs.judging.judge_here.Goals as goal

pub returns-clause-due : goal.returns-clause-due
returns-clause-due g c =
    let S = entries_of c.args.crew.now.version.now in
    due_ended (step_due S c.args.whole) c.loop-step.rest.now (steps_due S c.args.whole c.args.steps.now) c.loop-step.results.items c.in_default.ensures.cases c.loop-step.invariant.so_far
