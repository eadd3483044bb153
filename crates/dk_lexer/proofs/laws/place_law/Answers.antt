use Rattle.dk_lexer.proofs.Places.{place_start}
use Rattle.dk_lexer.proofs.laws.place_law.Goals as goal

pub returns : goal.returns
returns c = place_start
