-- For proofs: the places of the texts that some tokens end, token by token.
use Rattle.std.specs.Prelude.{ℕ, ◌+◌, ◌≡◌, List, [], ◌∷◌, ◌++◌, Option, Some, None, unwrap_or}
use Rattle.dk_lexer.specs.declared.token.Token.{Token}
use Rattle.dk_lexer.specs.declared.token.TokenKind.{TokenKind}
use Rattle.dk_lexer.specs.declared.token.TokenKind.TheVariants as kind
use Rattle.dk_lexer.specs.declared.token.Sign.TheVariants as sign
use Rattle.command_texts.specs.declared.span.Span.{Span}
use Rattle.command_texts.specs.declared.cutting.Texts.{Texts}

-- the text that a token at this offset ends, where one began there or begins with it; a dot alone ends one
abbrev pub ended_by : TokenKind → ℕ → Option ℕ → List Span
ended_by (kind.Sign sign.Dot) offset begun = record { begin = unwrap_or begun offset; end = offset + 1 } ∷ []
ended_by k offset begun = []

-- where the text begins that has begun behind the token
abbrev pub begun_behind : TokenKind → ℕ → Option ℕ → Option ℕ
begun_behind (kind.Sign sign.Dot) offset begun = None
begun_behind k offset begun = Some (unwrap_or begun offset)

-- the same for some tokens
abbrev pub spans_of : Option ℕ → List Token → List Span
spans_of begun [] = []
spans_of begun (t ∷ ts) = ended_by t.kind t.offset begun ++ spans_of (begun_behind t.kind t.offset begun) ts

abbrev pub begun_after : Option ℕ → List Token → Option ℕ
begun_after begun [] = begun
begun_after begun (t ∷ ts) = begun_after (begun_behind t.kind t.offset begun) ts

-- a token was looked at
pub record Adds (old : Texts) (k : TokenKind) (offset : ℕ) (new : Texts) : Type 0 where
  pub ended : new.ended.items ≡ old.ended.items ++ ended_by k offset old.begun
  pub begun : new.begun ≡ begun_behind k offset old.begun
