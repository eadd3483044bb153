use Rattle.std.proofs.Common.{Ok, Err, ◌∙◌, subst, sym}
use Rattle.edit_session.specs.Folding.{forms_in}
use Rattle.edit_session.specs.Forms.{report_from_forms}
use Rattle.edit_session.specs.Reporting.{IsReported}
use Rattle.edit_session.proofs.Reported.{told_lists, told_text, told_texts}
use Rattle.edit_session.proofs.session.Session.report.Goals as goal

pub returns-in_default-clause-texts : goal.returns-in_default-clause-texts
returns-in_default-clause-texts g c = told_texts c.self.inside.limits c.self.inside.budget c.self.inside.slots.items c.fold_slots.new.slots.items c.args.self.now c.self.view_is c.in_default.ensures.slots

pub returns-in-Ok-write_report-clause-wrote : goal.returns-in-Ok-write_report-clause-wrote
returns-in-Ok-write_report-clause-wrote g c = (told_text c.self.inside.limits c.self.inside.budget c.self.inside.slots.items c.args.self.now c.self.view_is c.self.invariant (sym c.fits.ensures ∙ c.if-not-fits.false) (g.K.Sink.taken c.args.sink.now) (g.K.Sink.taken c.write_report.new.sink)
    (Ok c.in-Ok-write_report.field-0) (c.in-Ok-write_report.ensures.wrote (report_from_forms c.self.inside.limits c.self.inside.budget (forms_in c.self.inside.slots.items)) (subst (IsReported c.self.inside.limits c.self.inside.budget c.self.inside.slots.items c.fold_slots.new.slots.items) (sym c.deref.ensures) c.in-Ok.ensures.reported).report)).whole

pub returns-in-Ok-write_report-clause-checked : goal.returns-in-Ok-write_report-clause-checked
returns-in-Ok-write_report-clause-checked g c = λ n. told_lists c.self.inside.limits c.self.inside.budget c.self.inside.slots.items c.fold_slots.new.slots.items c.deref-in-Ok-write_report.result.now c.args.self.now c.self.view_is
    (subst (IsReported c.self.inside.limits c.self.inside.budget c.self.inside.slots.items c.fold_slots.new.slots.items) (sym c.deref-in-Ok-write_report.ensures) c.in-Ok.ensures.reported)

pub returns-in-Ok-write_report-clause-texts : goal.returns-in-Ok-write_report-clause-texts
returns-in-Ok-write_report-clause-texts g c = told_texts c.self.inside.limits c.self.inside.budget c.self.inside.slots.items c.fold_slots.new.slots.items c.args.self.now c.self.view_is c.in-Ok.ensures.slots

pub returns-clause-wrote : goal.returns-clause-wrote
returns-clause-wrote g c = (told_text c.self.inside.limits c.self.inside.budget c.self.inside.slots.items c.args.self.now c.self.view_is c.self.invariant (sym c.fits.ensures ∙ c.if-not-fits.false) (g.K.Sink.taken c.args.sink.now) (g.K.Sink.taken c.write_report.new.sink)
    (Err c.in-Err.field-0) (c.in-Err.ensures.wrote (report_from_forms c.self.inside.limits c.self.inside.budget (forms_in c.self.inside.slots.items)) (subst (IsReported c.self.inside.limits c.self.inside.budget c.self.inside.slots.items c.fold_slots.new.slots.items) (sym c.deref.ensures) c.in-Ok.ensures.reported).report)).front

pub returns-clause-checked : goal.returns-clause-checked
returns-clause-checked g c = λ n. let t = told_lists c.self.inside.limits c.self.inside.budget c.self.inside.slots.items c.fold_slots.new.slots.items c.in-Ok.fold.value c.args.self.now c.self.view_is c.in-Ok.ensures.reported in (t.0, t.1, tt, t.3)

pub returns-clause-texts : goal.returns-clause-texts
returns-clause-texts g c = told_texts c.self.inside.limits c.self.inside.budget c.self.inside.slots.items c.fold_slots.new.slots.items c.args.self.now c.self.view_is c.in-Ok.ensures.slots
