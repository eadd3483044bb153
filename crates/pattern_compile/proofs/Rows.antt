-- Shapes at the rows of docs/rules.md, by computation.
use Rattle.std.proofs.Common.{◌≡◌, List, [], ◌∷◌, length, refl}
use Rattle.std.specs.Prelude.{Option, Some, None, Result, Ok, Err}
use Rattle.dk_model.specs.Trees.{Tree, star, symbol, rule_variable, apply}
use Rattle.dk_model.specs.Signatures.{no_patterns, rule_variable_pattern, wildcard_pattern, guard_pattern, symbol_pattern, variable_pattern, abstraction_pattern, more_patterns, PlainRule, PlainSignature, symbol_entry}
use Rattle.dk_model.specs.Scoping.{PlainLeft, left_symbol, left_rule_variable, left_variable, left_wildcard, left_guard, left_abstraction, left_apply, PlainScopedRule}
use Rattle.dk_model.specs.Shapes.{pattern_of, shapes_of}
use Rattle.dk_model.specs.declared.signature.SymSort.TheVariants.{Static, Definable}
use Rattle.dk_model.specs.declared.code.Code.{Code}
use Rattle.dk_model.specs.declared.code.Code.TheVariants.{E30, E31, E32, E33}

-- after `zero : nat. s : nat -> nat. def plus : nat -> nat -> nat.`; no shape looks at a type
abbrev before : PlainSignature
before = symbol_entry Static star None ∷ symbol_entry Static star None ∷ symbol_entry Definable star None ∷ []

abbrev zero_left : PlainLeft
zero_left = left_symbol 0

abbrev m : PlainLeft
m = left_rule_variable 0

abbrev n : PlainLeft
n = left_rule_variable 1

abbrev x : PlainLeft
x = left_variable 0

abbrev plus : PlainLeft → PlainLeft → PlainLeft
plus a b = left_apply (left_apply (left_symbol 2) a) b

-- `[context] l --> r.`, with the annotations of the context
abbrev rule : List (Option Tree) → PlainLeft → Tree → PlainScopedRule
rule notes l r = record { vars = length notes; notes = notes; left = l; right = r }

abbrev one : List (Option Tree)
one = None ∷ []

abbrev two : List (Option Tree)
two = None ∷ None ∷ []

abbrev given : List PlainScopedRule → Result (List PlainRule) Code
given rs = shapes_of before rs

-- ---- patterns

applied_to_a_variable : pattern_of 1 (left_abstraction (left_apply m x)) no_patterns ≡ Some (abstraction_pattern (rule_variable_pattern 0 (0 ∷ [])))
applied_to_a_variable = refl

variable_applied : pattern_of 1 (left_abstraction (left_apply x m)) no_patterns ≡ Some (abstraction_pattern (variable_pattern 0 (more_patterns (rule_variable_pattern 0 []) no_patterns)))
variable_applied = refl

variable_twice : pattern_of 1 (left_abstraction (left_apply (left_apply m x) x)) no_patterns ≡ None
variable_twice = refl

wildcard_applied : pattern_of 1 (left_apply left_wildcard m) no_patterns ≡ None
wildcard_applied = refl

guard_applied : pattern_of 1 (left_apply (left_guard (symbol 0)) m) no_patterns ≡ None
guard_applied = refl

abstraction_applied : pattern_of 1 (left_apply (left_abstraction x) m) no_patterns ≡ None
abstraction_applied = refl

-- under x => y => : m y x
variables_applied : pattern_of 1 (left_apply (left_apply m x) (left_variable 1)) no_patterns ≡ Some (rule_variable_pattern 0 (0 ∷ 1 ∷ []))
variables_applied = refl

-- ---- accepted rules

abbrev sum : Tree
sum = apply (symbol 1) (apply (apply (symbol 2) (rule_variable 0)) (rule_variable 1))

-- [m, n] plus (s m) n --> s (plus m n).
addition : given (rule two (plus (left_apply (left_symbol 1) m) n) sum ∷ []) ≡ Ok (record { head = 2; vars = 2; pats = symbol_pattern 1 (more_patterns (rule_variable_pattern 0 []) no_patterns) ∷ rule_variable_pattern 1 [] ∷ []; notes = two; right = sum } ∷ [])
addition = refl

-- [m] plus _ m --> m.
wildcard : given (rule one (plus left_wildcard m) (rule_variable 0) ∷ []) ≡ Ok (record { head = 2; vars = 1; pats = wildcard_pattern ∷ rule_variable_pattern 0 [] ∷ []; notes = one; right = rule_variable 0 } ∷ [])
wildcard = refl

-- [m : s, n] plus n zero --> n.
idle_entry : given (rule (Some (symbol 1) ∷ None ∷ []) (plus n zero_left) (rule_variable 1) ∷ []) ≡ Ok (record { head = 2; vars = 2; pats = rule_variable_pattern 1 [] ∷ symbol_pattern 0 no_patterns ∷ []; notes = Some (symbol 1) ∷ None ∷ []; right = rule_variable 1 } ∷ [])
idle_entry = refl

-- [m] plus (x => m x) zero --> zero.
abstraction : given (rule one (plus (left_abstraction (left_apply m x)) zero_left) (symbol 0) ∷ []) ≡ Ok (record { head = 2; vars = 1; pats = abstraction_pattern (rule_variable_pattern 0 (0 ∷ [])) ∷ symbol_pattern 0 no_patterns ∷ []; notes = one; right = symbol 0 } ∷ [])
abstraction = refl

-- [m] plus {zero} m --> m.
guard : given (rule one (plus (left_guard (symbol 0)) m) (rule_variable 0) ∷ []) ≡ Ok (record { head = 2; vars = 1; pats = guard_pattern (symbol 0) ∷ rule_variable_pattern 0 [] ∷ []; notes = one; right = rule_variable 0 } ∷ [])
guard = refl

-- [m] plus m m --> m.
twice : given (rule one (plus m m) (rule_variable 0) ∷ []) ≡ Ok (record { head = 2; vars = 1; pats = rule_variable_pattern 0 [] ∷ rule_variable_pattern 0 [] ∷ []; notes = one; right = rule_variable 0 } ∷ [])
twice = refl

-- ---- codes

-- [m] m zero --> zero.
variable_at_the_head : given (rule one (left_apply m zero_left) (symbol 0) ∷ []) ≡ Err E31
variable_at_the_head = refl

-- [] _ --> zero.
wildcard_at_the_head : given (rule [] left_wildcard (symbol 0) ∷ []) ≡ Err E31
wildcard_at_the_head = refl

-- [m] plus (m zero) zero --> zero.
applied_to_a_symbol : given (rule one (plus (left_apply m zero_left) zero_left) (symbol 0) ∷ []) ≡ Err E32
applied_to_a_symbol = refl

-- [m] plus (x => m x x) zero --> zero.
applied_twice : given (rule one (plus (left_abstraction (left_apply (left_apply m x) x)) zero_left) (symbol 0) ∷ []) ≡ Err E32
applied_twice = refl

-- [m, n] plus m zero --> n.
missing : given (rule two (plus m zero_left) (rule_variable 1) ∷ []) ≡ Err E33
missing = refl

-- [m] plus _ {m} --> zero.
missing_for_a_guard : given (rule one (plus left_wildcard (left_guard (rule_variable 0))) (symbol 0) ∷ []) ≡ Err E33
missing_for_a_guard = refl

-- [m, n : m] plus n zero --> n.
missing_for_a_note : given (rule (None ∷ Some (rule_variable 0) ∷ []) (plus n zero_left) (rule_variable 1) ∷ []) ≡ Err E33
missing_for_a_note = refl

-- [m] s m --> m.
static_head : given (rule one (left_apply (left_symbol 1) m) (rule_variable 0) ∷ []) ≡ Err E30
static_head = refl

-- [m, n] s m --> n.
missing_first : given (rule two (left_apply (left_symbol 1) m) (rule_variable 1) ∷ []) ≡ Err E33
missing_first = refl

-- [m] s m --> m [] _ --> zero.
first_rule_first : given (rule one (left_apply (left_symbol 1) m) (rule_variable 0) ∷ rule [] left_wildcard (symbol 0) ∷ []) ≡ Err E30
first_rule_first = refl
