use Rattle.dk_parser.proofs.Exact.{exact, only, read_extends}
use Rattle.dk_parser.proofs.laws.reading_law.Goals as goal

pub returns-clause-exact : goal.returns-clause-exact
returns-clause-exact c = exact

pub returns-clause-only : goal.returns-clause-only
returns-clause-only c = λ limits ts r h. only h

pub returns-clause-extends : goal.returns-clause-extends
returns-clause-extends c = read_extends
