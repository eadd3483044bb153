-- For callers: what is known in the midst of an input: the tokens so far, and the bytes that are left to read.
use Rattle.std.specs.Prelude.{◌≡◌, ◌≤◌, ℕ, ◌+◌, ◌-◌, Bool, true, false, List, [], ◌++◌, length, drop, Option}
use Rattle.dk_model.specs.declared.code.Code.{Code}
use Rattle.dk_model.specs.declared.limits.Limits.{Limits}
use Rattle.dk_lexer.specs.declared.class.Class.{Class}
use Rattle.dk_lexer.specs.declared.token.Token.{Token}
use Rattle.dk_lexer.specs.declared.place.Place.{Place}
use Rattle.dk_lexer.specs.Spelling.{comment}
use Rattle.dk_lexer.specs.Tokens.{Ending, whole, Lexed, Setting, bound, fault_at, outcome_at, tokens, tokens_from}

abbrev pub adds : List Token → Lexed → Lexed
adds ts lexed = record lexed { tokens = ts ++ lexed.tokens }

-- the last so many of some bytes
abbrev pub last_of : ℕ → List ℕ → List ℕ
last_of left bytes = drop (length bytes - left) bytes

-- how an input may go on and end: in any way, or, where its end was met, not at all
abbrev pub MayCome : Bool → List ℕ → Ending → Type 0
MayCome false more e = Unit {0}
MayCome true more e = (more ≡ []) × (e ≡ whole)

abbrev pub setting_at : Limits → Ending → ℕ → Place → Option ℕ → Setting
setting_at limits e total here command = record { limits = limits; ending = e; total = total; here = here; command = command }

-- These bytes gave these tokens; the rest of them, which isn't looked at, begins at this place, in this command.
-- However the input may go on and end, the tokens behind are those of the rest.
pub record Reads (over : Bool) (limits : Limits) (bytes : List ℕ) (ts : List Token) (here : Place) (command : Option ℕ) (rest : List ℕ) : Type 0 where
  pub total : length bytes ≡ here.offset + length rest
  pub onward : (more : List ℕ) (e : Ending) → MayCome over more e → tokens limits (bytes ++ more) e
      ≡ adds ts (tokens_from limits e (length (bytes ++ more)) here command (length (rest ++ more)) (rest ++ more))

-- These bytes gave these tokens; at `here` a comment begins, and the rest, at `next`, is within it: so many comments
-- are open, and the class of the byte before is this one.
pub record ReadsComment (over : Bool) (limits : Limits) (bytes : List ℕ) (ts : List Token) (here : Place) (command : Option ℕ) (next : Place) (depth : ℕ) (last : Class) (rest : List ℕ) : Type 0 where
  pub total : length bytes ≡ next.offset + length rest
  pub deep : depth ≤ next.offset
  pub fits : next.offset ≤ (bound limits command).last
  pub onward : (more : List ℕ) (e : Ending) → MayCome over more e → tokens limits (bytes ++ more) e
      ≡ adds ts (outcome_at (setting_at limits e (length (bytes ++ more)) here command) (comment depth last (rest ++ more))
      (λ command left. tokens_from limits e (length (bytes ++ more)) next command left (rest ++ more)))

-- these bytes gave these tokens and then, at this place, this fault, however the input may go on and end
pub record Fails (over : Bool) (limits : Limits) (bytes : List ℕ) (ts : List Token) (here : Place) (code : Code) : Type 0 where
  pub stands : (more : List ℕ) (e : Ending) → MayCome over more e → tokens limits (bytes ++ more) e ≡ adds ts (fault_at here code)
