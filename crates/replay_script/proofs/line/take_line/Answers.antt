use Rattle.script_lines.specs.Scripts.{line_of}
use Rattle.replay_script.specs.Standing.{output_of}
use Rattle.replay_script.proofs.Edits.{nothing_taken}
use Rattle.replay_script.proofs.Written.{bad_put}
use Rattle.replay_script.proofs.line.take_line.Goals as goal

pub returns-in-Unreadable-clause-takes : goal.returns-in-Unreadable-clause-takes
returns-in-Unreadable-clause-takes g c =
    let s = c.args.session.now in
    bad_put s s c.args.number (line_of c.args.line.now) (output_of g.K.Sink c.args.sink.now) _ c.put_bad.result
    (nothing_taken s.limits s.budget c.args.number s.slots (line_of c.args.line.now) c.requires.few c.in-Unreadable.ensures) c.put_bad.ensures
