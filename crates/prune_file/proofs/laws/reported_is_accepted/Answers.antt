use Rattle.prune_file.proofs.Pruned.{is_accepted}
use Rattle.prune_file.proofs.laws.reported_is_accepted.Goals as goal

pub returns : goal.returns
returns c = λ limits own budget bytes lib count is reported. is_accepted limits own budget bytes lib count is reported
