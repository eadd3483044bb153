use Rattle.std.proofs.Common.{◌≡◌, ◌∙◌, ap, Some, None, sym}
use Rattle.std.specs.Option.{option_map}
use Rattle.clap.specs.Words.{found_of, rows_of}
use Rattle.command_line.specs.Requests.{budget_in, count_in, workers_in}
use Rattle.command_line.specs.Views.{plain_make}
use Rattle.command_line.proofs.RequestParts.{make_all, make_no_budget, make_no_count, make_no_workers}
use Rattle.command_line.proofs.request.make_in.Goals as goal

pub returns-in_err-count-clause-value : goal.returns-in_err-count-clause-value
returns-in_err-count-clause-value c =
    let rows = rows_of (found_of c.args.make.now) in
    let count : count_in rows ≡ None = sym c.count_in.ensures.value ∙ c.in_err-count.was in
    ap (option_map plain_make) c.from_residual.ensures ∙ sym (make_no_count rows count)

pub returns-in_err-workers-clause-value : goal.returns-in_err-workers-clause-value
returns-in_err-workers-clause-value c =
    let rows = rows_of (found_of c.args.make.now) in
    let workers : workers_in rows ≡ None = sym c.workers_in.ensures.value ∙ c.in_err-workers.was in
    ap (option_map plain_make) c.from_residual-in_err-workers.ensures ∙ sym (make_no_workers rows workers)

pub returns-in_err-budget-clause-value : goal.returns-in_err-budget-clause-value
returns-in_err-budget-clause-value c =
    let rows = rows_of (found_of c.args.make.now) in
    let budget : budget_in rows ≡ None = sym c.budget_in.ensures.value ∙ c.in_err-budget.was in
    ap (option_map plain_make) c.from_residual-in_err-budget.ensures ∙ sym (make_no_budget rows budget)

pub returns-clause-value : goal.returns-clause-value
returns-clause-value c =
    let rows = rows_of (found_of c.args.make.now) in
    let count : count_in rows ≡ Some c.in_ok-count.count = sym c.count_in.ensures.value ∙ c.in_ok-count.was in
    let workers : workers_in rows ≡ Some c.in_ok-workers.workers = sym c.workers_in.ensures.value ∙ c.in_ok-workers.was in
    let budget : budget_in rows ≡ Some c.in_ok-budget.budget = sym c.budget_in.ensures.value ∙ c.in_ok-budget.was in
    sym (make_all rows c.in_ok-count.count c.in_ok-workers.workers c.in_ok-budget.budget count workers budget)
