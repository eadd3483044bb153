use Rattle.prune_theory.proofs.Whole.{read_have}
use Rattle.prune_theory.proofs.laws.read_have_type_or_body.Goals as goal

pub returns : goal.returns
returns c = read_have
