use Rattle.std.proofs.Common.{◌≡◌, ◌∙◌, ap, refl, true, map, subst}
use Rattle.std.specs.String.{string_bytes}
use Rattle.clap.specs.Kinds.{FailsBy}
use Rattle.clap.specs.Words.{App, app_of, fault_of, is_simple_and_free}
use Rattle.command_line.specs.Words.{program}
use Rattle.command_line.proofs.command.found_in.Goals as goal

is_free : is_simple_and_free program ≡ true
unfolding program
is_free = refl

pub returns-clause-faults : goal.returns-clause-faults
returns-clause-faults c =
    let program_is : app_of c.in_ok-program.program ≡ program = c.in_ok-program.ensures in
    let texts = map string_bytes c.args.words.now in
    subst (λ (a : App). FailsBy (fault_of a texts) c.try_get_matches_from.result) program_is
    (c.try_get_matches_from.ensures.kinds (ap is_simple_and_free program_is ∙ is_free))
