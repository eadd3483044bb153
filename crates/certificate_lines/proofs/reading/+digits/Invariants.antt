use Rattle.std.proofs.Common.{length}
use Rattle.certificate_lines.proofs.reading.+digits.Given as goal

abbrev pub decreases-digits : goal.decreases-digits
decreases-digits l = length l.bytes.now
