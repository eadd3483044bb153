use Rattle.std.proofs.Common.{length}
use Rattle.certificate_items.specs.Texts.{lines_of, BeginsWith}
use Rattle.certificate_items.specs.Views.{plain_items}
use Rattle.certificate_items.proofs.reading.take_items.Given as goal

abbrev pub invariant-loop-items : goal.invariant-loop-items
invariant-loop-items l = BeginsWith (lines_of (plain_items l.items)) l.fn.bytes l.reader.rest.now

abbrev pub decreases-loop-items : goal.decreases-loop-items
decreases-loop-items l = length l.reader.rest.now
