use Rattle.std.proofs.Common.{[]}
use Rattle.typing_model.proofs.Captures.{capture_gives_part}
use Rattle.typing_model.proofs.laws.capture_gives_part.Goals as goal

pub returns : goal.returns
returns c = λ depth xs t s. capture_gives_part [] 0 depth t xs s
