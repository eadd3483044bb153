use Rattle.dk_model.specs.Signatures.{pattern}
use Rattle.pattern_compile.proofs.Variables.{has_arguments}
use Rattle.pattern_compile.proofs.pattern.unapplied.Goals as goal

pub returns-else-is_empty : goal.returns-else-is_empty
returns-else-is_empty c = has_arguments (pattern c.args.pattern) c.args.arguments.now c.if-is_empty.ensures
