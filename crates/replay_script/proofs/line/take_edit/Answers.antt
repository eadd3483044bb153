use Rattle.std.proofs.Common.{ap, inl, inr, subst, sym}
use Rattle.std.specs.Prelude.{Err, []}
use Rattle.edit_session.specs.Sessions.{PlainSession}
use Rattle.edit_session.specs.declared.session.EditFault.{EditFault}
use Rattle.script_lines.specs.Reading.{plain_edit}
use Rattle.script_lines.specs.Scripts.{edits}
use Rattle.replay_script.specs.Replays.{Takes, bad_line, of_a_bad_edit, of_an_edit}
use Rattle.replay_script.specs.Standing.{output_of}
use Rattle.replay_script.proofs.Sending.{sends_none}
use Rattle.replay_script.proofs.Written.{bad_put}
use Rattle.replay_script.proofs.line.take_edit.Goals as goal

pub returns-in-Ok-clause-takes : goal.returns-in-Ok-clause-takes
returns-in-Ok-clause-takes g c = ([], of_an_edit (plain_edit c.args.edit.now) c.apply.new.session.slots c.in-Ok.ensures.ok, sends_none (output_of g.K.Sink c.args.sink.now))

pub returns-in-Err-Range-clause-takes : goal.returns-in-Err-Range-clause-takes
returns-in-Err-Range-clause-takes g c =
    let s = c.args.session.now in
    let e = plain_edit c.args.edit.now in
    bad_put s c.apply.new.session c.args.number (edits e) (output_of g.K.Sink c.args.sink.now) _ c.put_bad.result
    (subst (λ (t : PlainSession). Takes s.limits s.budget c.args.number s.slots (edits e) t.slots (bad_line c.args.number)) (sym c.in-Err-Range.ensures.err)
    (of_a_bad_edit e (c.in-Err-Range.ensures.bad (inl (ap (λ (f : EditFault). Err f) c.in-Err-Range.field-0-is)))))
    c.put_bad.ensures

pub returns-in-Err-Text-clause-takes : goal.returns-in-Err-Text-clause-takes
returns-in-Err-Text-clause-takes g c =
    let s = c.args.session.now in
    let e = plain_edit c.args.edit.now in
    bad_put s c.apply.new.session c.args.number (edits e) (output_of g.K.Sink c.args.sink.now) _ c.put_bad-in-Err-Text.result
    (subst (λ (t : PlainSession). Takes s.limits s.budget c.args.number s.slots (edits e) t.slots (bad_line c.args.number)) (sym c.in-Err-Text.ensures.err)
    (of_a_bad_edit e (c.in-Err-Text.ensures.bad (inr (ap (λ (f : EditFault). Err f) c.in-Err-Text.field-0-is)))))
    c.put_bad-in-Err-Text.ensures
