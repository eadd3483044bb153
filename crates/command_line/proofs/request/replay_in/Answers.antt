use Rattle.std.proofs.Common.{◌≡◌, ◌∙◌, ap, codes, Some, None, sym}
use Rattle.std.specs.Option.{option_map}
use Rattle.clap.proofs.WalkLemmas.{first_value-rows}
use Rattle.clap.specs.Words.{found_of, rows_of}
use Rattle.command_line.specs.Requests.{budget_in, script_in}
use Rattle.command_line.specs.Views.{plain_replay}
use Rattle.command_line.proofs.RequestParts.{replay_all, replay_no_budget, replay_no_script}
use Rattle.command_line.proofs.request.replay_in.Goals as goal

pub returns-in_err-script-clause-value : goal.returns-in_err-script-clause-value
returns-in_err-script-clause-value c =
    let found = found_of c.args.replay.now in
    let script : script_in (rows_of found) ≡ None = sym (first_value-rows found (codes "script")) ∙ (sym c.get_str.ensures ∙ ap (option_map (λ s. s.now)) c.in_err-script.was) in
    ap (option_map plain_replay) c.from_residual.ensures ∙ sym (replay_no_script (rows_of found) script)

pub returns-in_err-budget-clause-value : goal.returns-in_err-budget-clause-value
returns-in_err-budget-clause-value c =
    let rows = rows_of (found_of c.args.replay.now) in
    let budget : budget_in rows ≡ None = sym c.budget_in.ensures.value ∙ c.in_err-budget.was in
    ap (option_map plain_replay) c.from_residual-in_err-budget.ensures ∙ sym (replay_no_budget rows budget)

pub returns-clause-value : goal.returns-clause-value
returns-clause-value c =
    let found = found_of c.args.replay.now in
    let rows = rows_of found in
    let script : script_in rows ≡ Some c.in_ok-script.script.now = sym (first_value-rows found (codes "script")) ∙ (sym c.get_str.ensures ∙ ap (option_map (λ s. s.now)) c.in_ok-script.was) in
    let budget : budget_in rows ≡ Some c.in_ok-budget.budget = sym c.budget_in.ensures.value ∙ c.in_ok-budget.was in
    sym (replay_all rows c.in_ok-script.script.now c.in_ok-budget.budget script budget)
