use Rattle.std.proofs.Common.{◌≡◌, ◌∙◌, ℕ, Option, ap, codes, sym}
use Rattle.std.specs.Option.{option_and_then}
use Rattle.std.specs.Str.Parse.{ExplainsUnsignedError, HasUnsignedDigitsIfOk, ParsesUnsigned}
use Rattle.clap.proofs.WalkLemmas.{one_text-rows}
use Rattle.clap.specs.Words.{found_of, one_text, rows_of}
use Rattle.clap.specs.declared.parser.matches.Found.{Found}
use Rattle.command_line.specs.Words.{worker_counts}
use Rattle.command_line.specs.Requests.{workers_in, number_of}
use Rattle.command_line.proofs.ReadValues.{kept, kept-inside, kept-outside, number_read}
use Rattle.command_line.proofs.request.workers_in.Goals as goal

-- what the rows say, by what the getter read
as_read : (found : Found) (r : Option ℕ) → option_and_then (number_of worker_counts) (one_text found (codes "workers")) ≡ option_and_then (kept 64) r
    → workers_in (rows_of found) ≡ option_and_then (kept 64) r
as_read found r read = ap (option_and_then (number_of worker_counts)) (sym (one_text-rows found (codes "workers"))) ∙ read

pub returns-in_err-workers-clause-value : goal.returns-in_err-workers-clause-value
returns-in_err-workers-clause-value c =
    let found = found_of c.args.found.now in
    let read = number_read 64 (one_text found (codes "workers")) c.get_one.result
    (λ t r. ParsesUnsigned 64 10 t r × ExplainsUnsignedError 10 t r × HasUnsignedDigitsIfOk t r) (λ t x g. g.0) c.get_one.ensures.none c.get_one.ensures.value in
    c.from_residual.ensures ∙ sym (as_read found c.get_one.result read ∙ ap (option_and_then (kept 64)) c.in_err-workers.was)

pub returns-then-workers-le-MOST_WORKERS-clause-value : goal.returns-then-workers-le-MOST_WORKERS-clause-value
returns-then-workers-le-MOST_WORKERS-clause-value c =
    let found = found_of c.args.found.now in
    let read = number_read 64 (one_text found (codes "workers")) c.get_one.result
    (λ t r. ParsesUnsigned 64 10 t r × ExplainsUnsignedError 10 t r × HasUnsignedDigitsIfOk t r) (λ t x g. g.0) c.get_one.ensures.none c.get_one.ensures.value in
    sym (as_read found c.get_one.result read ∙ (ap (option_and_then (kept 64)) c.in_ok-workers.was ∙ kept-inside 64 c.in_ok-workers.workers c.if-workers-ge1.true c.if-workers-le-MOST_WORKERS.true))

pub returns-else-workers-ge1-clause-value : goal.returns-else-workers-ge1-clause-value
returns-else-workers-ge1-clause-value c =
    let found = found_of c.args.found.now in
    let read = number_read 64 (one_text found (codes "workers")) c.get_one.result
    (λ t r. ParsesUnsigned 64 10 t r × ExplainsUnsignedError 10 t r × HasUnsignedDigitsIfOk t r) (λ t x g. g.0) c.get_one.ensures.none c.get_one.ensures.value in
    sym (as_read found c.get_one.result read ∙ (ap (option_and_then (kept 64)) c.in_ok-workers.was ∙ kept-outside 64 c.in_ok-workers.workers c.else-workers-ge1.either))
