use Rattle.std.proofs.Common.{◌≡◌, ◌∙◌, ap, ap₂, codes, Some, None, sym}
use Rattle.std.specs.Option.{option_map}
use Rattle.clap.proofs.WalkLemmas.{first_value-rows}
use Rattle.clap.specs.Words.{found_of, rows_of}
use Rattle.command_line.specs.Requests.{budget_in, file_in, workers_in}
use Rattle.command_line.specs.Views.{plain_check}
use Rattle.command_line.proofs.RequestParts.{check_all, check_no_budget, check_no_file, check_no_workers}
use Rattle.command_line.proofs.request.check_in.Goals as goal

pub returns-in_err-file-clause-value : goal.returns-in_err-file-clause-value
returns-in_err-file-clause-value c =
    let found = found_of c.args.check.now in
    let file : file_in (rows_of found) ≡ None = sym (first_value-rows found (codes "file")) ∙ (sym c.get_str.ensures ∙ ap (option_map (λ s. s.now)) c.in_err-file.was) in
    ap (option_map plain_check) c.from_residual.ensures ∙ sym (check_no_file (rows_of found) file)

pub returns-in_err-workers-clause-value : goal.returns-in_err-workers-clause-value
returns-in_err-workers-clause-value c =
    let rows = rows_of (found_of c.args.check.now) in
    let workers : workers_in rows ≡ None = sym c.workers_in.ensures.value ∙ c.in_err-workers.was in
    ap (option_map plain_check) c.from_residual-in_err-workers.ensures ∙ sym (check_no_workers rows workers)

pub returns-in_err-budget-clause-value : goal.returns-in_err-budget-clause-value
returns-in_err-budget-clause-value c =
    let rows = rows_of (found_of c.args.check.now) in
    let budget : budget_in rows ≡ None = sym c.budget_in.ensures.value ∙ c.in_err-budget.was in
    ap (option_map plain_check) c.from_residual-in_err-budget.ensures ∙ sym (check_no_budget rows budget)

pub returns-clause-value : goal.returns-clause-value
returns-clause-value c =
    let found = found_of c.args.check.now in
    let rows = rows_of found in
    let file : file_in rows ≡ Some c.in_ok-file.file.now = sym (first_value-rows found (codes "file")) ∙ (sym c.get_str.ensures ∙ ap (option_map (λ s. s.now)) c.in_ok-file.was) in
    let workers : workers_in rows ≡ Some c.in_ok-workers.workers = sym c.workers_in.ensures.value ∙ c.in_ok-workers.was in
    let budget : budget_in rows ≡ Some c.in_ok-budget.budget = sym c.budget_in.ensures.value ∙ c.in_ok-budget.was in
    ap₂ (λ s q. Some (record { file = c.in_ok-file.file.now; workers = c.in_ok-workers.workers; split = s; budget = c.in_ok-budget.budget; quiet = q })) c.split_in-split.ensures.value c.quiet_in-quiet.ensures
    ∙ sym (check_all rows c.in_ok-file.file.now c.in_ok-workers.workers c.in_ok-budget.budget file workers budget)
