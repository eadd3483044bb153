use Rattle.prune_file.proofs.Needs.{needs_told}
use Rattle.prune_file.proofs.laws.needs_are_told.Goals as goal

pub returns : goal.returns
returns c = λ own lib items tail is. needs_told own lib items tail is
