-- For proofs: reading goes on behind blanks.
use Rattle.std.specs.Prelude.{◌≤◌, ℕ, Bool, true, false, List, Option}
use Rattle.dk_model.specs.declared.limits.Limits.{Limits}
use Rattle.dk_lexer.specs.declared.class.Class.{Class}
use Rattle.dk_lexer.specs.declared.class.Class.TheVariants as class
use Rattle.dk_lexer.specs.declared.place.Place.{Place}
use Rattle.dk_lexer.specs.declared.token.Token.{Token}
use Rattle.dk_lexer.specs.Tokens.{bound}
use Rattle.one_lexer.specs.Reading.{Reads}

-- it stands between tokens
abbrev pub is_blank_class : Class → Bool
is_blank_class class.Blank = true
is_blank_class class.Newline = true
is_blank_class _ = false

-- where the bound is no nearer than this, what reads on at the one place reads on at the other
abbrev pub GoesOver : ℕ → Place → List ℕ → Place → List ℕ → Type 0
GoesOver last here bytes place rest = (over : Bool) (limits : Limits) (before : List ℕ) (ts : List Token) (command : Option ℕ)
    → last ≤ (bound limits command).last → Reads over limits before ts here command bytes → Reads over limits before ts place command rest
