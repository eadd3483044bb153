use Rattle.std.proofs.Common.{◌≡◌, ◌∙◌, ℕ, Option, ap, codes, sym}
use Rattle.std.specs.Option.{option_and_then}
use Rattle.std.specs.Str.Parse.{ExplainsUnsignedError, HasUnsignedDigitsIfOk, ParsesUnsigned}
use Rattle.clap.proofs.WalkLemmas.{one_text-rows}
use Rattle.clap.specs.Words.{found_of, one_text, rows_of}
use Rattle.clap.specs.declared.parser.matches.Found.{Found}
use Rattle.command_line.specs.Words.{theorem_counts}
use Rattle.command_line.specs.Requests.{count_in, number_of}
use Rattle.command_line.proofs.ReadValues.{kept, kept-inside, kept-outside, number_read}
use Rattle.command_line.proofs.request.count_in.Goals as goal

-- what the rows say, by what the getter read
as_read : (found : Found) (r : Option ℕ) → option_and_then (number_of theorem_counts) (one_text found (codes "count")) ≡ option_and_then (kept 100000) r
    → count_in (rows_of found) ≡ option_and_then (kept 100000) r
as_read found r read = ap (option_and_then (number_of theorem_counts)) (sym (one_text-rows found (codes "count"))) ∙ read

pub returns-in_err-count-clause-value : goal.returns-in_err-count-clause-value
returns-in_err-count-clause-value c =
    let found = found_of c.args.make.now in
    let read = number_read 100000 (one_text found (codes "count")) c.get_one.result
    (λ t r. ParsesUnsigned 64 10 t r × ExplainsUnsignedError 10 t r × HasUnsignedDigitsIfOk t r) (λ t x g. g.0) c.get_one.ensures.none c.get_one.ensures.value in
    c.from_residual.ensures ∙ sym (as_read found c.get_one.result read ∙ ap (option_and_then (kept 100000)) c.in_err-count.was)

pub returns-then-count-le-MOST_THEOREMS-clause-value : goal.returns-then-count-le-MOST_THEOREMS-clause-value
returns-then-count-le-MOST_THEOREMS-clause-value c =
    let found = found_of c.args.make.now in
    let read = number_read 100000 (one_text found (codes "count")) c.get_one.result
    (λ t r. ParsesUnsigned 64 10 t r × ExplainsUnsignedError 10 t r × HasUnsignedDigitsIfOk t r) (λ t x g. g.0) c.get_one.ensures.none c.get_one.ensures.value in
    sym (as_read found c.get_one.result read ∙ (ap (option_and_then (kept 100000)) c.in_ok-count.was ∙ kept-inside 100000 c.in_ok-count.count c.if-count-ge1.true c.if-count-le-MOST_THEOREMS.true))

pub returns-else-count-ge1-clause-value : goal.returns-else-count-ge1-clause-value
returns-else-count-ge1-clause-value c =
    let found = found_of c.args.make.now in
    let read = number_read 100000 (one_text found (codes "count")) c.get_one.result
    (λ t r. ParsesUnsigned 64 10 t r × ExplainsUnsignedError 10 t r × HasUnsignedDigitsIfOk t r) (λ t x g. g.0) c.get_one.ensures.none c.get_one.ensures.value in
    sym (as_read found c.get_one.result read ∙ (ap (option_and_then (kept 100000)) c.in_ok-count.was ∙ kept-outside 100000 c.in_ok-count.count c.else-count-ge1.either))
