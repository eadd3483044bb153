use Rattle.prune_file.proofs.Pruned.{stands_alone}
use Rattle.prune_file.proofs.laws.pruned_stands_alone.Goals as goal

pub returns : goal.returns
returns c = λ limits own budget name bytes text p short. stands_alone limits own budget name bytes text p c.pruned_are_accepted.ensures c.chosen_texts_are_read.ensures short
