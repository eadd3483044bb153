use Rattle.dk_parser.proofs.Exact.{one_command}
use Rattle.dk_parser.proofs.laws.grammar_law.Goals as goal

pub returns : goal.returns
returns c = one_command
