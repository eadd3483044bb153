use Rattle.std.proofs.Common.{rules, ◌∙◌, ap, ap₂}
use Rattle.std.proofs.lemmas.Result.{IfOk-weaker}
use Rattle.clap.specs.Words.{App, with_subcommand}
use Rattle.command_line.specs.Parts.{IsApp}
use Rattle.command_line.proofs.Parts.{third}
use Rattle.command_line.proofs.command.with_command.Goals as goal

pub returns : goal.returns
returns c a b h k plain =
    let above : IsApp a c.in_ok-command.field-0 = search (h, rules) in
    let below : IsApp b c.in_ok-below.field-0 = search (k, rules) in
    let is_plain = third _ _ _ _ (ap (λ (x : App). x.top.is_plain) below ∙ plain) in
    IfOk-weaker c.subcommand.result _ _ (λ r s. s.shape is_plain ∙ ap₂ (λ (x y : App). with_subcommand x y.top) above below) c.subcommand.ensures
