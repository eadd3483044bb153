use Rattle.std.proofs.Common.{refl, map}
use Rattle.dk_model.specs.Scoping.{plain_command}
use Rattle.recheck_theory.specs.Answers.{of_no_first_line}
use Rattle.recheck_theory.proofs.Turns.{all_answered}
use Rattle.recheck_theory.proofs.theory.recheck.Goals as goal

pub returns-in-Some : goal.returns-in-Some
returns-in-Some c = all_answered (map plain_command c.args.commands.now) c.args.bytes.now c.in-Some.rest.now c.recheck_parts.result c.in-Some.ensures.some c.recheck_parts.ensures

pub returns-in-None : goal.returns-in-None
returns-in-None c = of_no_first_line (c.in-None.ensures.none refl)
