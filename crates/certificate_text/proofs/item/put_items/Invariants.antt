use Rattle.std.proofs.Common.{◌≡◌, drop}
use Rattle.certificate_items.specs.Texts.{lines_of}
use Rattle.certificate_items.specs.Views.{plain_items}
use Rattle.certificate_text.proofs.Texts.{ArePut}
use Rattle.certificate_text.proofs.item.put_items.Given as goal

abbrev pub invariant-loop-item : goal.invariant-loop-item
invariant-loop-item g l = record {
  put : ArePut (g.K.Sink.taken l.initial.sink) l.initial.buffer (g.K.Sink.taken l.sink) l.buffer (lines_of (plain_items l.items)) (lines_of (plain_items (drop l.item-index l.items)));
  faults : g.K.Sink.faults l.sink ≡ g.K.Sink.faults l.initial.sink;
}
