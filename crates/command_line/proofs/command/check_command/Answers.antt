use Rattle.std.proofs.Common.{IfOk, codes}
use Rattle.clap.specs.Words.{App, new_app, with_rule}
use Rattle.command_line.specs.Parts.{IsApp}
use Rattle.command_line.specs.Words.{budget, quiet, split, workers}
use Rattle.command_line.proofs.Parts.{told}
use Rattle.command_line.proofs.command.check_command.Goals as goal

abbrev one : App
one = with_rule (new_app (codes "check")) workers

abbrev two : App
two = with_rule one split

abbrev three : App
three = with_rule two budget

abbrev four : App
four = with_rule three quiet

pub returns : goal.returns
returns c =
    let none = new_app (codes "check") in
    let to_one : IfOk c.with_argument-command.result (IsApp one) = told _ none _ _ c.workers_argument.ensures.rule (c.with_argument-command.ensures none c.command_named.ensures) in
    let to_two : IfOk c.with_argument-command-2.result (IsApp two) = told _ one _ _ c.number_argument.ensures.rule (c.with_argument-command-2.ensures one to_one) in
    let to_three : IfOk c.with_argument-command-3.result (IsApp three) = told _ two _ _ c.budget_argument.ensures.rule (c.with_argument-command-3.ensures two to_two) in
    let to_four : IfOk c.with_argument-command-4.result (IsApp four) = told _ three _ _ c.quiet_argument.ensures.rule (c.with_argument-command-4.ensures three to_three) in
    told _ four _ _ c.needed_argument.ensures.rule (c.with_argument.ensures four to_four)
