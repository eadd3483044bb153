use Rattle.std.proofs.Common.{refl}
use Rattle.command_line.specs.Usage.{usage_text}
use Rattle.command_line.proofs.usage.usage_text.Goals as goal

pub returns : goal.returns
unfolding usage_text
returns c = refl
