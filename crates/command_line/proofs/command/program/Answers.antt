use Rattle.std.proofs.Common.{IfOk, refl}
use Rattle.clap.specs.Words.{with_subcommand}
use Rattle.command_line.specs.Parts.{IsApp}
use Rattle.command_line.specs.Words.{certify, check, checking, make, program, prune, recheck, rechecking, replay}
use Rattle.command_line.proofs.command.program.Goals as goal

pub returns : goal.returns
unfolding program
returns c =
    let one = c.with_command-command.ensures _ check c.program_alone.ensures c.check_command.ensures refl in
    let two : IfOk c.with_command-command-2.result (IsApp checking) = c.with_command-command-2.ensures _ make one c.make_command.ensures refl in
    let three = c.with_command-command-3.ensures checking certify two c.certify_command.ensures refl in
    let four : IfOk c.with_command-command-4.result (IsApp rechecking) = c.with_command-command-4.ensures _ recheck three c.recheck_command.ensures refl in
    let five : IfOk c.with_command-command-5.result (IsApp (with_subcommand rechecking prune.top)) = c.with_command-command-5.ensures rechecking prune four c.prune_command.ensures refl in
    c.with_command.ensures (with_subcommand rechecking prune.top) replay five c.replay_command.ensures refl
