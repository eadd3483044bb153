-- What was given of a book, and what is due behind it.
use Rattle.std.proofs.Common.{◌≡◌, ℕ, ◌+◌, List, [], ◌∷◌, ◌++◌, length, drop, refl, sym, ap, ◌∙◌, arith, length-append}
use Rattle.std.proofs.lemmas.List.{append_assoc}
use Rattle.std.proofs.Math.Seq.{drop-append_seam}
use Rattle.std.specs.Prelude.{Option}
use Rattle.dk_model.specs.declared.limits.Limits.{Limits}
use Rattle.dk_lexer.specs.Tokens.{broken, tokens, whole}
use Rattle.dk_lexer.specs.Given.{begun_line}
use Rattle.dk_parser.specs.FileReading.{read}
use Rattle.dk_parser.specs.Steps.{read_tokens}
use Rattle.dk_parser.specs.Written.{WrittenCommand}
use Rattle.theory_walk.specs.Lines.{IsNextLine, next_line}
use Rattle.file_reader.specs.declared.reader.Reader.{Reader}
use Rattle.file_reader.specs.Held.{MemoryIn}
use Rattle.file_reader.specs.Progress.{IsBehind, ending_at}
use Rattle.file_reader.proofs.Begins.{begins, given_begin}

-- the bytes given begin with the items that were read
pub begins_given : (limits : Limits) (bytes : List ℕ) (d : List WrittenCommand) (left : Option (List ℕ)) (r : Reader) (b : IsBehind limits bytes d left r)
    → (later : List WrittenCommand) × ((read limits b.given (ending_at r)).commands ≡ d ++ later)
begins_given = given_begin

-- and so does the whole book
pub begins_whole : (limits : Limits) (bytes : List ℕ) (d : List WrittenCommand) (left : Option (List ℕ)) (r : Reader) (b : IsBehind limits bytes d left r)
    → (later : List WrittenCommand) × ((read limits bytes whole).commands ≡ d ++ later)
begins_whole = begins

-- memory ended at this line, that of the next item
pub memory_line : (limits : Limits) (bytes : List ℕ) (d : List WrittenCommand) (line : ℕ) → MemoryIn limits bytes whole d line → IsNextLine limits bytes whole (length d) line
memory_line limits bytes d line m = record {
  given = m.given;
  rest = m.rest;
  bytes_are = m.bytes_are;
  ending = m.ending;
  last = m.last;
  read_are = let e : length (read_tokens limits (tokens limits m.given m.ending).tokens).commands ≡ length d + length m.later = ap length m.commands_are ∙ length-append d m.later in omega (arith, e);
  line_is = m.line_is ∙ ap (λ cs. next_line cs (read_tokens limits (tokens limits m.given m.ending).tokens).begun (begun_line limits m.given))
      (sym (ap (drop (length d)) m.commands_are ∙ drop-append_seam d m.later));
}

-- the last item that was read stands at its line
pub next_line_is : (limits : Limits) (bytes : List ℕ) (d : List WrittenCommand) (c : WrittenCommand) (left : Option (List ℕ)) (r : Reader) → IsBehind limits bytes (d ++ c ∷ []) left r
    → IsNextLine limits bytes whole (length d) c.line
next_line_is limits bytes d c left r b =
    let at = begins_given limits bytes (d ++ c ∷ []) left r b in
    let now = read_tokens limits (tokens limits b.given (ending_at r)).tokens in
    let commands : now.commands ≡ d ++ c ∷ at.0 = at.1 ∙ append_assoc d (c ∷ []) at.0 in
    record {
      given = b.given;
      rest = b.rest;
      bytes_are = b.bytes_are;
      ending = ending_at r;
      last = λ is. (b.last is, refl);
      read_are = let e : length now.commands ≡ length d + length (c ∷ at.0) = ap length commands ∙ length-append d (c ∷ at.0) in omega (arith, e);
      line_is = sym (ap (λ cs. next_line cs now.begun (begun_line limits b.given)) (ap (drop (length d)) commands ∙ drop-append_seam d (c ∷ at.0)));
    }

-- nothing was read of a book, and its first line is due
pub first_line_is : (limits : Limits) (bytes : List ℕ) → IsNextLine limits bytes whole 0 1
unfolding tokens
first_line_is limits bytes = record {
  given = [];
  rest = bytes;
  bytes_are = refl;
  ending = broken;
  last = λ is. absurd (let b : broken ≡ whole = is in cc);
  read_are = omega arith;
  line_is = refl;
}
