use Rattle.std.proofs.Common.{length}
use Rattle.certificate_items.specs.Texts.{lines_of, BeginsWith}
use Rattle.certificate_items.specs.Views.{plain_items}
use Rattle.certificate_items.proofs.reading.read_items.Given as goal

abbrev pub invariant-loop-reader : goal.invariant-loop-reader
invariant-loop-reader l = BeginsWith (lines_of (plain_items l.items)) l.fn.bytes l.reader.rest.now

abbrev pub decreases-loop-reader : goal.decreases-loop-reader
decreases-loop-reader l = length l.reader.rest.now
