use Rattle.prune_file.proofs.Pruned.{is_reported}
use Rattle.prune_file.proofs.laws.accepted_is_reported.Goals as goal

pub returns : goal.returns
returns c = λ limits most own budget bytes lib file is. is_reported limits own budget most bytes lib file is
