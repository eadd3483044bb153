use Rattle.std.proofs.Common.{◌≡◌, ◌∙◌, ℕ, Option, ap, codes, sym}
use Rattle.std.specs.Option.{option_and_then}
use Rattle.std.specs.Str.Parse.{ExplainsUnsignedError, HasUnsignedDigitsIfOk, ParsesUnsigned}
use Rattle.clap.proofs.WalkLemmas.{one_text-rows}
use Rattle.clap.specs.Words.{found_of, one_text, rows_of}
use Rattle.clap.specs.declared.parser.matches.Found.{Found}
use Rattle.command_line.specs.Words.{budgets}
use Rattle.command_line.specs.Requests.{budget_in, number_of}
use Rattle.command_line.proofs.ReadValues.{kept, kept-inside, kept-outside, number_read}
use Rattle.command_line.proofs.request.budget_in.Goals as goal

-- what the rows say, by what the getter read
as_read : (found : Found) (r : Option ℕ) → option_and_then (number_of budgets) (one_text found (codes "budget")) ≡ option_and_then (kept 4611686018427387904) r
    → budget_in (rows_of found) ≡ option_and_then (kept 4611686018427387904) r
as_read found r read = ap (option_and_then (number_of budgets)) (sym (one_text-rows found (codes "budget"))) ∙ read

pub returns-in_err-budget-clause-value : goal.returns-in_err-budget-clause-value
returns-in_err-budget-clause-value c =
    let found = found_of c.args.found.now in
    let read = number_read 4611686018427387904 (one_text found (codes "budget")) c.get_one.result
    (λ t r. ParsesUnsigned 64 10 t r × ExplainsUnsignedError 10 t r × HasUnsignedDigitsIfOk t r) (λ t x g. g.0) c.get_one.ensures.none c.get_one.ensures.value in
    c.from_residual.ensures ∙ sym (as_read found c.get_one.result read ∙ ap (option_and_then (kept 4611686018427387904)) c.in_err-budget.was)

pub returns-then-budget-le-LARGEST_BUDGET-clause-value : goal.returns-then-budget-le-LARGEST_BUDGET-clause-value
returns-then-budget-le-LARGEST_BUDGET-clause-value c =
    let found = found_of c.args.found.now in
    let read = number_read 4611686018427387904 (one_text found (codes "budget")) c.get_one.result
    (λ t r. ParsesUnsigned 64 10 t r × ExplainsUnsignedError 10 t r × HasUnsignedDigitsIfOk t r) (λ t x g. g.0) c.get_one.ensures.none c.get_one.ensures.value in
    sym (as_read found c.get_one.result read ∙ (ap (option_and_then (kept 4611686018427387904)) c.in_ok-budget.was ∙ kept-inside 4611686018427387904 c.in_ok-budget.budget c.if-budget-ge1.true c.if-budget-le-LARGEST_BUDGET.true))

pub returns-else-budget-ge1-clause-value : goal.returns-else-budget-ge1-clause-value
returns-else-budget-ge1-clause-value c =
    let found = found_of c.args.found.now in
    let read = number_read 4611686018427387904 (one_text found (codes "budget")) c.get_one.result
    (λ t r. ParsesUnsigned 64 10 t r × ExplainsUnsignedError 10 t r × HasUnsignedDigitsIfOk t r) (λ t x g. g.0) c.get_one.ensures.none c.get_one.ensures.value in
    sym (as_read found c.get_one.result read ∙ (ap (option_and_then (kept 4611686018427387904)) c.in_ok-budget.was ∙ kept-outside 4611686018427387904 c.in_ok-budget.budget c.else-budget-ge1.either))
