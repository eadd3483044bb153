use Rattle.std.proofs.Common.{◌≡◌, ◌∙◌, ℕ, Option, ap, codes, sym}
use Rattle.std.specs.Option.{option_and_then}
use Rattle.std.specs.Str.Parse.{ExplainsUnsignedError, HasUnsignedDigitsIfOk, ParsesUnsigned}
use Rattle.clap.proofs.WalkLemmas.{one_text-rows}
use Rattle.clap.specs.Words.{found_of, one_text, rows_of}
use Rattle.clap.specs.declared.parser.matches.Found.{Found}
use Rattle.command_line.specs.Words.{split_sizes}
use Rattle.command_line.specs.Requests.{split_in, number_of}
use Rattle.command_line.proofs.ReadValues.{kept, kept-inside, kept-outside, number_read}
use Rattle.command_line.proofs.request.split_in.Goals as goal

-- what the rows say, by what the getter read
as_read : (found : Found) (r : Option ℕ) → option_and_then (number_of split_sizes) (one_text found (codes "split")) ≡ option_and_then (kept 4294967295) r
    → split_in (rows_of found) ≡ option_and_then (kept 4294967295) r
as_read found r read = ap (option_and_then (number_of split_sizes)) (sym (one_text-rows found (codes "split"))) ∙ read

pub returns-in_err-nodes-clause-value : goal.returns-in_err-nodes-clause-value
returns-in_err-nodes-clause-value c =
    let found = found_of c.args.check.now in
    let read = number_read 4294967295 (one_text found (codes "split")) c.get_one.result
    (λ t r. ParsesUnsigned 64 10 t r × ExplainsUnsignedError 10 t r × HasUnsignedDigitsIfOk t r) (λ t x g. g.0) c.get_one.ensures.none c.get_one.ensures.value in
    c.from_residual.ensures ∙ sym (as_read found c.get_one.result read ∙ ap (option_and_then (kept 4294967295)) c.in_err-nodes.was)

pub returns-then-nodes-le-LARGEST_SPLIT-clause-value : goal.returns-then-nodes-le-LARGEST_SPLIT-clause-value
returns-then-nodes-le-LARGEST_SPLIT-clause-value c =
    let found = found_of c.args.check.now in
    let read = number_read 4294967295 (one_text found (codes "split")) c.get_one.result
    (λ t r. ParsesUnsigned 64 10 t r × ExplainsUnsignedError 10 t r × HasUnsignedDigitsIfOk t r) (λ t x g. g.0) c.get_one.ensures.none c.get_one.ensures.value in
    sym (as_read found c.get_one.result read ∙ (ap (option_and_then (kept 4294967295)) c.in_ok-nodes.was ∙ kept-inside 4294967295 c.in_ok-nodes.nodes c.if-nodes-ge1.true c.if-nodes-le-LARGEST_SPLIT.true))

pub returns-else-nodes-ge1-clause-value : goal.returns-else-nodes-ge1-clause-value
returns-else-nodes-ge1-clause-value c =
    let found = found_of c.args.check.now in
    let read = number_read 4294967295 (one_text found (codes "split")) c.get_one.result
    (λ t r. ParsesUnsigned 64 10 t r × ExplainsUnsignedError 10 t r × HasUnsignedDigitsIfOk t r) (λ t x g. g.0) c.get_one.ensures.none c.get_one.ensures.value in
    sym (as_read found c.get_one.result read ∙ (ap (option_and_then (kept 4294967295)) c.in_ok-nodes.was ∙ kept-outside 4294967295 c.in_ok-nodes.nodes c.else-nodes-ge1.either))
