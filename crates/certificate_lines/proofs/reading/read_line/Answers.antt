use Rattle.certificate_lines.proofs.Lines.{all_is_none}
use Rattle.certificate_lines.proofs.reading.read_line.Goals as goal

pub returns-clause-none : goal.returns-clause-none
returns-clause-none c = all_is_none c.args.bytes.now c.line.result c.line.ensures
