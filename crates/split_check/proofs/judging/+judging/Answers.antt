use Rattle.std.proofs.Common.{subst}
use Rattle.std.specs.Prelude.{IfOk}
use denote.Ref.{NamedLft}
use denote.Param.{param}
use denote.Param.Send.{IsSend, IsSync, sendable}
use Rattle.std.proofs.Crossing.{crosses}
use Rattle.signature_log.specs.Versions.{entries_of}
use Rattle.split_check.specs.Due.{AreDue}
use Rattle.split_check.specs.Steps.{steps_due}
use Rattle.split_check.specs.contracts.crew.Crew as Crew
use Rattle.split_check.specs.contracts.step.Step as Step
use Rattle.split_check.proofs.Crosses.{step_sync, crew_sync}
use Rattle.split_check.proofs.judging.+judging.Goals as goal

pub judge_beside-scope-spawn_scoped_with-requires-send-F : goal.judge_beside-scope-spawn_scoped_with-requires-send-F
judge_beside-scope-spawn_scoped_with-requires-send-F g t c κs within =
    let s = step_sync in
    let w : (κ : NamedLft) → IsSync (Crew.the_row κ (param 1 g.row.W) (param 2 g.row.G)) = λ κ. crew_sync κ (param 1 g.row.W) (param 2 g.row.G) c.requires.1 c.requires.2 in
    let f : IsSync Step.the_row = search (sendable, crosses) depth 40 in
    let r : IsSend (param 0 g.row.R) = c.requires.0 in
    search (sendable, crosses) depth 40 fits 20000

pub judge_beside-scope-returns-in-Ok : goal.judge_beside-scope-returns-in-Ok
judge_beside-scope-returns-in-Ok g t c = (
  c.judge_steps-here.ensures.due,
  subst (λ p. IfOk c.join.result (λ v. AreDue (steps_due (entries_of p.version.now) p.whole p.steps.now) v.items)) c.in-Ok.ensures.ok c.join.ensures,
  c.judge_steps-here.ensures.serves,
)

pub judge_beside-scope-returns-in-Err : goal.judge_beside-scope-returns-in-Err
judge_beside-scope-returns-in-Err g t c = (
  c.judge_steps-here-in-Err.ensures.due,
  subst (λ f. IfOk c.spawn_scoped_with-in-Err.result (λ v. AreDue (steps_due (entries_of f.0.now.version.now) f.3 f.2.now) v.items)) c.in-Err.ensures.err c.spawn_scoped_with-in-Err.ensures,
  c.judge_steps-here-in-Err.ensures.serves,
)
