use Rattle.std.proofs.Common.{◌≡◌, drop}
use Rattle.certificate_items.specs.Texts.{steps_lines, joins_lines}
use Rattle.certificate_items.specs.Views.{plain_steps, plain_joins}
use Rattle.certificate_text.proofs.Texts.{ArePut}
use Rattle.certificate_text.proofs.item.+steps.Given as goal

abbrev pub invariant-put_steps-loop-step : goal.invariant-put_steps-loop-step
invariant-put_steps-loop-step g l = record {
  put : ArePut (g.K.Sink.taken l.initial.sink) l.initial.buffer (g.K.Sink.taken l.sink) l.buffer (steps_lines (plain_steps l.steps)) (steps_lines (plain_steps (drop l.step-index l.steps)));
  faults : g.K.Sink.faults l.sink ≡ g.K.Sink.faults l.initial.sink;
}

abbrev pub invariant-put_joins-loop-join : goal.invariant-put_joins-loop-join
invariant-put_joins-loop-join g l = record {
  put : ArePut (g.K.Sink.taken l.initial.sink) l.initial.buffer (g.K.Sink.taken l.sink) l.buffer (joins_lines (plain_joins l.joins)) (joins_lines (plain_joins (drop l.join-index l.joins)));
  faults : g.K.Sink.faults l.sink ≡ g.K.Sink.faults l.initial.sink;
}
