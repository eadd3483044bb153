-- Trusted: the tokens of a list of bytes (Dedukti manual, lexical conventions; the limits are our own; docs/syntax.md).
use Rattle.std.specs.Prelude.{ℕ, ◌+◌, min, max, Bool, true, false, List, [], ◌∷◌, length, Option, Some, None, if◌then◌else◌, ◌==◌, nat_le, nat_lt}
use Rattle.dk_model.specs.declared.code.Code.{Code}
use Rattle.dk_model.specs.declared.code.Code.TheVariants.{E03, E05, E07}
use Rattle.dk_model.specs.declared.limits.Limits.{Limits}
use Rattle.dk_lexer.specs.declared.token.Token.{Token}
use Rattle.dk_lexer.specs.declared.token.TokenKind.{TokenKind}
use Rattle.dk_lexer.specs.declared.token.TokenKind.TheVariants as kind
use Rattle.dk_lexer.specs.declared.token.Sign.TheVariants as sign
use Rattle.dk_lexer.specs.declared.place.Place.{Place}
use Rattle.dk_lexer.specs.Spelling.{Spelling, blank, token, run_and_dot, wrong, comment_open, unsettled, late, kind_of, spelled}

-- How the bytes end: with the input, or where it broke off, so that more may follow.
pub data Ending : Type 0 where
  whole : Ending
  broken : Ending

-- The tokens of some bytes, and then a fault or none. The line is that of the fault; else that of what is begun and
-- not settled, a token or a comment; else that of the next byte.
pub record Lexed : Type 0 where
  pub tokens : List Token
  pub fault : Option Code
  pub line : ℕ

-- A bound: so many bytes of the input may stand before it, and the fault of the byte behind them.
pub record Bound : Type 0 where
  pub last : ℕ
  pub code : Code

-- the bytes that an input and a command may have; an offset and a line are below 2 ^ 32 (docs/DECISIONS.md)
abbrev pub input_limit : Limits → ℕ
input_limit limits = min limits.input_bytes 4294967294

abbrev pub command_limit : Limits → ℕ
command_limit limits = max limits.command_bytes 1

-- of the bound of a command and that of the input the nearer one; the command's where both fall on one byte
abbrev pub nearer : ℕ → ℕ → Bound
nearer command input = if nat_le command input then record { last = command; code = E05 } else record { last = input; code = E07 }

-- the bound for what stands in a command that begins at this offset, or in none
unfoldable pub bound : Limits → Option ℕ → Bound
bound limits None = record { last = input_limit limits; code = E07 }
bound limits (Some begin) = nearer (begin + command_limit limits) (input_limit limits)

-- the next line; `input_limit` keeps the lines of an input below 2 ^ 32
abbrev pub next_line : ℕ → ℕ
next_line line = min (line + 1) 4294967295

-- the place behind a byte
unfoldable pub behind : Place → ℕ → Place
behind here b = record { offset = here.offset + 1; line = if b == 10 then next_line here.line else here.line }

-- where the command begins that a token at this offset belongs to
abbrev pub begin_of : Option ℕ → ℕ → ℕ
begin_of None offset = offset
begin_of (Some begin) offset = begin

-- a dot ends its command, and the next token begins one
abbrev pub command_after : TokenKind → ℕ → Option ℕ
command_after (kind.Sign sign.Dot) begin = None
command_after _ begin = Some begin

-- Where a spelling stands: the limits, how the bytes end, how many there are, the place of the spelling's first byte,
-- and where its command begins.
pub record Setting : Type 0 where
  pub limits : Limits
  pub ending : Ending
  pub total : ℕ
  pub here : Place
  pub command : Option ℕ

abbrev pub fault_at : Place → Code → Lexed
fault_at here code = record { tokens = []; fault = Some code; line = here.line }

abbrev pub nothing_at : Place → Lexed
nothing_at here = record { tokens = []; fault = None; line = here.line }

abbrev pub gives : Token → Lexed → Lexed
gives t lexed = record lexed { tokens = t ∷ lexed.tokens }

abbrev pub token_at : Place → TokenKind → List ℕ → Token
token_at here kind text = record { kind = kind; spelling = text; offset = here.offset; line = here.line }

-- the dot behind a run
abbrev pub dot_at : Place → List ℕ → Token
dot_at here text = record { kind = kind.Sign sign.Dot; spelling = []; offset = here.offset + length text; line = here.line }

-- within the bound the bytes give what they give; else the byte behind the bound is at fault
abbrev pub by_bound : Place → Code → Bool → Lexed → Lexed
by_bound here code true lexed = lexed
by_bound here code false lexed = fault_at here code

abbrev pub within : Setting → Bound → ℕ → Lexed → Lexed
within s bound left lexed = by_bound s.here bound.code (nat_le s.total (bound.last + left)) lexed

abbrev pub at_end : Ending → Lexed → Lexed → Lexed
at_end whole settled begun = settled
at_end broken settled begun = begun

-- The bound behind a brace that may belong to a name. The brace itself is within the input; where the bound of the
-- command falls on it, that is settled a byte later.
abbrev pub late_bound : Setting → ℕ → ℕ → Bound
late_bound s begin left =
    let last = begin + command_limit s.limits in
    nearer (if last + left == s.total then last + 1 else last) (input_limit s.limits)

-- what a spelling gives: its tokens, and then what the bytes behind it give, read on in the command that is open there
abbrev pub outcome : Setting → ℕ → Bound → Spelling → (Option ℕ → ℕ → Lexed) → Lexed
outcome s begin bound (token kind text left) more = within s bound left (gives (token_at s.here kind text) (more (command_after kind begin) left))
outcome s begin bound (run_and_dot text left) more =
    within s bound left (gives (token_at s.here (kind_of text) text) (gives (dot_at s.here text) (more None left)))
outcome s begin bound (wrong code left) more = within s bound left (fault_at s.here code)
outcome s begin bound (unsettled settled) more = at_end s.ending (outcome s begin bound settled more) (within s bound 0 (nothing_at s.here))
outcome s begin bound (late left spelling) more =
    within s bound left (by_bound s.here E07 (nat_lt s.total (input_limit s.limits + left)) (outcome s begin (late_bound s begin left) spelling more))
outcome s begin _ (blank left) more = within s (bound s.limits s.command) left (more s.command left)
outcome s begin _ comment_open more = within s (bound s.limits s.command) 0 (at_end s.ending (fault_at s.here E03) (nothing_at s.here))

abbrev pub outcome_at : Setting → Spelling → (Option ℕ → ℕ → Lexed) → Lexed
outcome_at s spelling more = let begin = begin_of s.command s.here.offset in outcome s begin (bound s.limits (Some begin)) spelling more

-- the tokens from a place on: the next spelling begins where so many bytes are left
abbrev pub tokens_from : Limits → Ending → ℕ → Place → Option ℕ → ℕ → List ℕ → Lexed
tokens_from limits ending total here command left [] = nothing_at here
tokens_from limits ending total here command left (b ∷ bs) = elim (nat_le left (length bs)) [
  | true ↦ tokens_from limits ending total (behind here b) command left bs
  | false ↦ outcome_at (record { limits = limits; ending = ending; total = total; here = here; command = command }) (spelled limits.name_bytes b bs)
      (λ command left. tokens_from limits ending total (behind here b) command left bs)
]

-- the tokens of the bytes of an input
unfoldable pub tokens : Limits → List ℕ → Ending → Lexed
tokens limits bytes ending = tokens_from limits ending (length bytes) (record { offset = 0; line = 1 }) None (length bytes) bytes
