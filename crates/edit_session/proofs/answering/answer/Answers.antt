use Rattle.std.proofs.Common.{refl, subst}
use Rattle.edit_session.specs.Answering.{IsKeptAnswer, question_of}
use Rattle.edit_session.proofs.Serving.{checks_are, kept_listed, kept_right, none_checked, one_checked}
use Rattle.edit_session.proofs.answering.answer.Goals as goal

pub returns-in-Ok-Some-clause-right : goal.returns-in-Ok-Some-clause-right
returns-in-Ok-Some-clause-right g c = kept_right c.args.slot.now c.args.basis (question_of c.args.asked.now) c.args.slot.now.kept c.in-Ok-Some.findings (record { findings = c.in-Ok-Some.findings; checks = 0 }) refl
    (subst (IsKeptAnswer c.args.slot.now.kept c.args.basis) c.in-Ok-Some.field-0-is c.in-Ok-Some.ensures) refl

pub returns-in-Ok-Some-clause-list : goal.returns-in-Ok-Some-clause-list
returns-in-Ok-Some-clause-list g c = kept_listed c.args.slot.now c.args.basis (question_of c.args.asked.now) c.args.slot.now.kept c.in-Ok-Some.findings refl
    (subst (IsKeptAnswer c.args.slot.now.kept c.args.basis) c.in-Ok-Some.field-0-is c.in-Ok-Some.ensures)

pub returns-in-Ok-Some-clause-checks : goal.returns-in-Ok-Some-clause-checks
returns-in-Ok-Some-clause-checks g c = none_checked c.args.slot.now c.args.basis (question_of c.args.asked.now) c.args.slot.now.kept c.in-Ok-Some.findings refl
    (subst (IsKeptAnswer c.args.slot.now.kept c.args.basis) c.in-Ok-Some.field-0-is c.in-Ok-Some.ensures)

pub returns-in-Ok-None-clause-checks : goal.returns-in-Ok-None-clause-checks
returns-in-Ok-None-clause-checks g c = checks_are _ c.answer_anew.result c.answer_anew.ensures.one
    (one_checked c.args.slot.now c.args.basis (question_of c.args.asked.now) c.args.slot.now.kept refl (subst (IsKeptAnswer c.args.slot.now.kept c.args.basis) c.in-Ok-None.field-0-is c.in-Ok-None.ensures))
