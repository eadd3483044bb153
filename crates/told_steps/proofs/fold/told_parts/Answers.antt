use Rattle.dk_model.specs.Trees.{tree}
use Rattle.told_steps.proofs.Folding.{spine_parts}
use Rattle.told_steps.proofs.fold.told_parts.Goals as goal

pub returns-in_default : goal.returns-in_default
returns-in_default c = spine_parts (tree c.args.value.now) c.args.ends c.in_ok-told.told c.in_default.ensures c.in_ok-told.ensures
