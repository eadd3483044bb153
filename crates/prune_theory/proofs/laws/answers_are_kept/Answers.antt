use Rattle.prune_theory.proofs.Replays.{same_answer}
use Rattle.prune_theory.proofs.laws.answers_are_kept.Goals as goal

pub returns : goal.returns
returns c = same_answer
