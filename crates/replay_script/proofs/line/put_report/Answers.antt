use Rattle.std.proofs.Common.{◌≡◌, ℕ, ap, subst}
use Rattle.std.specs.Prelude.{Result, Ok, Err}
use Rattle.edit_session.specs.Reporting.{WroteReport}
use Rattle.edit_session.specs.Sessions.{PlainSession, texts_of}
use Rattle.edit_session.specs.declared.report.ReportFault.{ReportFault}
use Rattle.edit_session.specs.declared.report.ReportFault.TheVariants.{Failed, NoMemory}
use Rattle.replay_script.specs.Replays.{report_text}
use Rattle.replay_script.specs.Standing.{output_of}
use Rattle.replay_script.proofs.Written.{report_cut, report_put}
use Rattle.replay_script.proofs.line.put_report.Goals as goal

made_whole : (count : ℕ) → (let r : Result ℕ ReportFault = Ok count in r ≡ Err NoMemory) → ⊥
made_whole count e = cc

write_failed : (fault : ReportFault) → fault ≡ Failed → (let r : Result ℕ ReportFault = Err fault in r ≡ Err NoMemory) → ⊥
write_failed fault is e = cc

pub returns-in-Ok-clause-takes : goal.returns-in-Ok-clause-takes
returns-in-Ok-clause-takes g c =
    let l = c.in-Ok.ensures.checked (made_whole c.in-Ok.checked) in
    report_put c.args.session.now c.report.new.self c.args.number (output_of g.K.Sink c.args.sink.now) l.0 l.1 (output_of g.K.Sink c.report.new.sink) _ c.in-Ok.checked c.put_numbered.result
    (ap (λ (s : PlainSession). s.slots) l.3) l.2 (record { taken = c.in-Ok.ensures.wrote; faults = c.in-Ok.ensures.held }) c.put_numbered.ensures

pub returns-in-Err-Failed-clause-takes : goal.returns-in-Err-Failed-clause-takes
returns-in-Err-Failed-clause-takes g c =
    let l = c.in-Err-Failed.ensures.checked (write_failed c.in-Err-Failed.field-0 c.in-Err-Failed.field-0-is) in
    report_cut c.args.session.now c.report.new.self c.args.number (output_of g.K.Sink c.args.sink.now) l.0 l.1 (output_of g.K.Sink c.report.new.sink)
    (record {
      taken = subst (λ (e : ReportFault). WroteReport (g.K.Sink.taken c.args.sink.now) (g.K.Sink.taken c.report.new.sink) (report_text c.args.session.now.limits c.args.session.now.budget (texts_of c.args.session.now.slots)) (Err e)) c.in-Err-Failed.field-0-is c.in-Err-Failed.ensures.wrote;
      faults = c.in-Err-Failed.ensures.cause (ap (λ (e : ReportFault). Err e) c.in-Err-Failed.field-0-is);
    })
