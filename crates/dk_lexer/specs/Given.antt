-- For callers: what is known of the tokens where an input breaks off.
use Rattle.std.specs.Prelude.{◌≡◌, ℕ, List, ◌++◌, Option, Some, None}
use Rattle.dk_model.specs.declared.code.Code.{Code}
use Rattle.dk_model.specs.declared.limits.Limits.{Limits}
use Rattle.dk_lexer.specs.declared.token.Token.{Token}
use Rattle.dk_lexer.specs.Tokens.{Lexed, broken, tokens}

-- the line of the fault; else of the first byte of the token or comment that is begun; else of the next byte
abbrev pub begun_line : Limits → List ℕ → ℕ
begun_line limits bytes = (tokens limits bytes broken).line

-- a fault that stands stays, with its line, and no token comes after it
abbrev pub Stays : Option Code → Lexed → Lexed → Type 0
Stays None old new = Unit {0}
Stays (Some code) old new = new ≡ old

-- tokens that are a front of others
pub record IsFrontOf (old new : Lexed) : Type 0 where
  pub more : List Token
  pub tokens : new.tokens ≡ old.tokens ++ more
  pub fault : Stays old.fault old new
