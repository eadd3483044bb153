use Rattle.dk_model.specs.Typing.{by_units}
use Rattle.typing_model.proofs.Rules.{units_reduce}
use Rattle.typing_model.proofs.Queries.{found_is_so}
use Rattle.typing_model.proofs.laws.found_is_so.Goals as goal

pub returns : goal.returns
returns c = λ S numbered. found_is_so S (by_units S) (units_reduce S numbered)
