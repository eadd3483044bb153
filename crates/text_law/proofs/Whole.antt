-- A file that is read whole: no fault stands in its bytes or its tokens, and none of its commands is left open.
use Rattle.std.proofs.Common.{List, ℕ, ◌≡◌, Option, Some, None, refl}
use Rattle.dk_model.specs.declared.code.Code.{Code}
use Rattle.dk_model.specs.declared.limits.Limits.{Limits}
use Rattle.dk_lexer.specs.Tokens.{Lexed, tokens, whole}
use Rattle.dk_parser.specs.FileReading.{read, tail_by_bytes, tail_by_tokens}
use Rattle.dk_parser.specs.FileReading as reading
use Rattle.dk_parser.specs.Reading.{TokenReading}
use Rattle.dk_parser.specs.Steps.{read_tokens}

record IsWholeTail (o : Option (ℕ × Code)) (f : Option Code) (begun : Option ℕ) : Type 0 where
  pub no_token_fault : o ≡ None
  pub no_fault : f ≡ None
  pub nothing_begun : begun ≡ None

bytes_tail : (f : Option Code) (line : ℕ) (begun : Option ℕ) → tail_by_bytes f line whole begun ≡ reading.whole → (f ≡ None) × (begun ≡ None)
bytes_tail (Some code) line begun e = absurd cc
bytes_tail None line (Some n) e = absurd cc
bytes_tail None line None e = (refl, refl)

whole_tail : (o : Option (ℕ × Code)) (x : Lexed) (begun : Option ℕ) → tail_by_tokens o x whole begun ≡ reading.whole → IsWholeTail o x.fault begun
whole_tail (Some p) x begun e = absurd cc
whole_tail None x begun e = let q : (x.fault ≡ None) × (begun ≡ None) = bytes_tail x.fault x.line begun e in record { no_token_fault = refl; no_fault = q.0; nothing_begun = q.1 }

pub record IsWholeFile (limits : Limits) (bytes : List ℕ) : Type 0 where
  pub no_fault : (tokens limits bytes whole).fault ≡ None
  pub begun : (read_tokens limits (tokens limits bytes whole).tokens).begun ≡ None
  pub fault : (read_tokens limits (tokens limits bytes whole).tokens).fault ≡ None

pub whole_file : (limits : Limits) (bytes : List ℕ) → (read limits bytes whole).tail ≡ reading.whole → IsWholeFile limits bytes
whole_file limits bytes e =
    let lexed : Lexed = tokens limits bytes whole in
    let r : TokenReading = read_tokens limits lexed.tokens in
    let tail : IsWholeTail r.fault lexed.fault r.begun = whole_tail r.fault lexed r.begun e in
    record { no_fault = tail.no_fault; begun = tail.nothing_begun; fault = tail.no_token_fault }
