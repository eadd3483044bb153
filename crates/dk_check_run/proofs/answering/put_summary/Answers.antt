use Rattle.std.proofs.Common.{sym, ◌∙◌}
use Rattle.dk_check_run.specs.Run.{made_line, sink_of}
use Rattle.dk_check_run.proofs.Summaries.{at_once_text, later_text}
use Rattle.dk_check_run.proofs.answering.put_summary.Goals as goal

pub returns-then-is_at_once : goal.returns-then-is_at_once
returns-then-is_at_once g c =
    at_once_text (sink_of g.K.Sink c.args.sink.now) (sink_of g.K.Sink c.put_memory.new.sink) (made_line c.args.request.now.count c.args.size) c.args.request.now.budget c.args.outcome.now _
    (sym c.is_at_once.ensures ∙ c.if-is_at_once.true) c.put_memory.ensures

pub returns : goal.returns
returns g c =
    later_text (sink_of g.K.Sink c.args.sink.now) (sink_of g.K.Sink c.put_last.new.sink) (made_line c.args.request.now.count c.args.size) c.args.request.now.budget c.args.outcome.now _
    (sym c.is_at_once.ensures ∙ c.if-is_at_once.false) c.put_last.ensures
