use Rattle.std.proofs.Common.{Some, subst as along_path}
use Rattle.std.specs.Prelude.{IfOk}
use Rattle.dk_model.specs.Verdicts.{declaration_checked}
use Rattle.shared_term.specs.Storage.{stored_term}
use Rattle.signature_log.specs.Versions.{entries_of}
use Rattle.split_check.specs.Due.{AreDue}
use Rattle.split_check.specs.Steps.{steps_due}
use Rattle.split_check.proofs.command.check_declared.Goals as goal

pub returns-then-left_over-lt2-clause-due : goal.returns-then-left_over-lt2-clause-due
returns-then-left_over-lt2-clause-due g c =
    let S = entries_of c.args.crew.now.version.now in
    let B = c.args.budget in
    c.told_by.ensures (declaration_checked S (Some (stored_term c.args.declared.typ.now)) (Some (stored_term c.args.declared.body.now)) B) (steps_due S B c.in-Ok.steps.items) c.in-Ok.ensures.steps
    (along_path (λ xs. IfOk c.judge_here-results.result (λ v. AreDue (steps_due S B xs) v.items)) c.as_slice-then-left_over-lt2.ensures.value c.judge_here-results.ensures.due)

pub returns-clause-due : goal.returns-clause-due
returns-clause-due g c =
    let S = entries_of c.args.crew.now.version.now in
    let B = c.args.budget in
    c.told_by-2.ensures (declaration_checked S (Some (stored_term c.args.declared.typ.now)) (Some (stored_term c.args.declared.body.now)) B) (steps_due S B c.in-Ok.steps.items) c.in-Ok.ensures.steps
    (along_path (λ xs. IfOk c.judge_steps-other.result.1 (λ v. AreDue (steps_due S B xs) v.items)) c.as_slice-2.ensures.value c.judge_steps-other.ensures.due)
