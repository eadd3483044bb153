-- For proofs: patterns as a list, and the head of a left side.
use Rattle.std.specs.Prelude.{ℕ, Option, Some, None, Bool, true, false, List, [], ◌∷◌, map}
use Rattle.dk_model.specs.Signatures.{Pattern, Patterns, no_patterns, more_patterns, variable_pattern, pattern}
use Rattle.dk_model.specs.Scoping.{PlainLeft, left_apply}
use Rattle.dk_model.specs.declared.signature.Pat.{Pat}
use Rattle.dk_model.specs.declared.term.Term.{Term}

-- the patterns of a list
abbrev pub as_patterns : List Pattern → Patterns
as_patterns [] = no_patterns
as_patterns (p ∷ ps) = more_patterns p (as_patterns ps)

-- these as plain data
abbrev pub plain_patterns : List (Pat Term) → Patterns
plain_patterns ps = as_patterns (map pattern ps)

-- the number of a pattern that is a bound variable without arguments
abbrev pub bare_variable : Pattern → Option ℕ
bare_variable (variable_pattern k no_patterns) = Some k
bare_variable p = None

-- what is applied in a left side, without its arguments
abbrev pub head_of : PlainLeft → PlainLeft
head_of (left_apply f a) = head_of f
head_of l = l

abbrev pub is_application : PlainLeft → Bool
is_application (left_apply f a) = true
is_application l = false
