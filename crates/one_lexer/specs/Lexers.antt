-- For callers: what a lexer knows, and what it takes.
use Rattle.std.specs.Prelude.{◌≡◌, ◌<◌, ◌≤◌, ℕ, Bool, true, false, List, [], ◌∷◌, ◌++◌, length, take, Some, None}
use Rattle.dk_model.specs.declared.code.Code.{Code}
use Rattle.dk_model.specs.declared.limits.Limits.{Limits}
use Rattle.dk_lexer.specs.declared.place.Place.{Place}
use Rattle.dk_lexer.specs.declared.token.Token.{Token}
use Rattle.dk_lexer.specs.Spelling.{letters_of}
use Rattle.dk_lexer.specs.Tokens.{Ending, broken, whole, tokens}
use Rattle.one_lexer.specs.declared.lexer.Lexer.{Lexer}
use Rattle.one_lexer.specs.declared.lexer.State.{State}
use Rattle.one_lexer.specs.declared.lexer.State.TheVariants as state
use Rattle.one_lexer.specs.declared.lexer.Taken.{Taken}
use Rattle.one_lexer.specs.declared.lexer.Taken.TheVariants as taken
use Rattle.one_lexer.specs.declared.lexer.One.{One}
use Rattle.one_lexer.specs.declared.lexer.One.TheVariants as one
use Rattle.one_lexer.specs.declared.next.Standing.{Standing}
use Rattle.one_lexer.specs.Reading.{Fails, MayCome, Reads, ReadsComment, last_of}
use Rattle.one_lexer.specs.Steps.{token_of}

abbrev pub limits_of : Lexer → Limits
limits_of lexer = lexer.limits

abbrev pub line_of : Lexer → ℕ
line_of lexer = lexer.at.here.line

-- so many of the bytes, which are there, are letters
abbrev pub AreLetters : ℕ → List ℕ → Type 0
AreLetters known bytes = (known ≤ length bytes) × (letters_of (take known bytes) ≡ take known bytes)

-- the bytes begin with `#` and so many letters
abbrev pub BeginsWord : ℕ → List ℕ → Type 0
BeginsWord known [] = ⊥
BeginsWord known (b ∷ bs) = (b ≡ 35) × AreLetters known bs

abbrev pub KnowsBy : Bool → Limits → List ℕ → List Token → List ℕ → Standing → State → Type 0
KnowsBy over limits before ts rest at state.Between = Reads over limits before ts at.here at.command rest
KnowsBy over limits before ts rest at (state.Word known) = Reads over limits before ts at.here at.command rest × BeginsWord known rest
KnowsBy over limits before ts rest at (state.Comment inside) = ReadsComment over limits before ts at.here at.command inside.next inside.depth inside.last rest
KnowsBy over limits before ts rest at (state.Failed code) = Fails over limits before ts at.here code

-- These bytes gave these tokens; the rest of them isn't taken yet. However the input may go on and end, its tokens are
-- these and then those that the lexer finds.
unfoldable pub Knows : Bool → List ℕ → List Token → List ℕ → Lexer → Type 0
Knows over before ts rest lexer = KnowsBy over lexer.limits before ts rest lexer.at lexer.state

-- the ending at which nothing more comes
abbrev pub ending_of : Bool → Ending
ending_of false = broken
ending_of true = whole

-- the tokens of these bytes are these, there is no fault, and this is the line of what is begun, or of the next byte
abbrev pub HasAll : Bool → Limits → List ℕ → List Token → ℕ → Type 0
HasAll over limits before ts line = tokens limits before (ending_of over) ≡ record { tokens = ts; fault = None; line = line }

-- the tokens of these bytes, however the input may go on and end, are these and then a fault, at this line
pub record HasFault (over : Bool) (limits : Limits) (before : List ℕ) (ts : List Token) (code : Code) (line : ℕ) : Type 0 where
  pub stands : (more : List ℕ) (e : Ending) → MayCome over more e → tokens limits (before ++ more) e ≡ record { tokens = ts; fault = Some code; line = line }

-- What is taken of some bytes: a token at their front, with blanks before it; or all of them but those that are carried,
-- which the next piece goes behind, and the tokens so far are those of all bytes so far; or a fault.
abbrev pub Takes : Bool → List ℕ → List Token → List ℕ → Lexer → Taken → Type 0
Takes over before ts bytes new (taken.Token spelt left) = Knows over before (ts ++ token_of spelt ∷ []) (last_of left bytes) new
Takes over before ts bytes new (taken.More left) = Knows over before ts (last_of left bytes) new × HasAll over new.limits before ts new.at.here.line
Takes over before ts bytes new (taken.Failed code) = Knows over before ts [] new × HasFault over new.limits before ts code new.at.here.line

-- for proofs: the same lexer, standing elsewhere
abbrev pub standing_at : Standing → Lexer → Lexer
standing_at at lexer = record lexer { at = at }

-- for proofs: the same lexer at another place
abbrev pub moved_to : Place → Lexer → Lexer
moved_to place lexer = record lexer { at = record { here = place; command = lexer.at.command } }

-- a token leaves fewer bytes than there are, and at the end none is carried
abbrev pub IsLeft : Bool → ℕ → Taken → Type 0
IsLeft over size (taken.Token spelt left) = left < size
IsLeft false size (taken.More left) = left ≤ size
IsLeft true size (taken.More left) = left ≡ 0
IsLeft over size (taken.Failed code) = Unit {0}

-- for proofs: what one spelling comes to
abbrev pub Passes : Bool → List ℕ → List Token → List ℕ → Lexer → One → Type 0
Passes over before ts bytes new (one.Taken taken) = Takes over before ts bytes new taken
Passes over before ts bytes new (one.Passed left) = Knows over before ts (last_of left bytes) new

abbrev pub IsFewer : Bool → ℕ → One → Type 0
IsFewer over size (one.Taken taken) = IsLeft over size taken
IsFewer over size (one.Passed left) = left < size
