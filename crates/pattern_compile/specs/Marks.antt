-- For proofs: marks of rule variables: a list with a Bool for each rule variable of a rule.
use Rattle.std.specs.Prelude.{ℕ, Option, Some, None, Bool, true, false, ◌&&◌, List, [], ◌∷◌, map, slice_set, slice_index_or}
use Rattle.dk_model.specs.Trees.{Tree, tree, rule_variable, apply, bare, annotated, product}
use Rattle.dk_model.specs.Signatures.{Pattern, Patterns, no_patterns, more_patterns, rule_variable_pattern, wildcard_pattern, guard_pattern, symbol_pattern, variable_pattern, abstraction_pattern, pattern, maybe_tree}
use Rattle.dk_model.specs.Shapes.{pattern_variables, patterns_variables}
use Rattle.dk_model.specs.declared.scoped.ScopedRule.{ScopedRule}
use Rattle.dk_model.specs.declared.signature.Pat.{Pat}
use Rattle.pattern_compile.specs.Patterns.{plain_patterns}
use Rattle.dk_model.specs.declared.term.Term.{Term}

-- the marks once these are marked too
abbrev pub marked : List Bool → List ℕ → List Bool
marked ms [] = ms
marked ms (k ∷ ks) = marked (slice_set ms k true) ks

-- the marks once the rule variables of a pattern are marked too
abbrev pub marked_pattern : List Bool → Pat Term → List Bool
marked_pattern ms p = marked ms (pattern_variables (pattern p))

-- the same for each of these in turn
abbrev pub marked_patterns : List Bool → List (Pat Term) → List Bool
marked_patterns ms ps = marked ms (patterns_variables (plain_patterns ps))

-- whether each rule variable of a term is marked
abbrev pub is_marked : List Bool → Tree → Bool
is_marked ms (rule_variable k) = slice_index_or ms k false
is_marked ms (apply f a) = is_marked ms f && is_marked ms a
is_marked ms (bare b) = is_marked ms b
is_marked ms (annotated n b) = is_marked ms n && is_marked ms b
is_marked ms (product a b) = is_marked ms a && is_marked ms b
is_marked ms t = true

abbrev mutual
  -- the same for the guards of a pattern
  pub guards_are_marked : List Bool → Pattern → Bool
  guards_are_marked ms (rule_variable_pattern k xs) = true
  guards_are_marked ms wildcard_pattern = true
  guards_are_marked ms (guard_pattern t) = is_marked ms t
  guards_are_marked ms (symbol_pattern k ps) = all_guards_are_marked ms ps
  guards_are_marked ms (variable_pattern k ps) = all_guards_are_marked ms ps
  guards_are_marked ms (abstraction_pattern p) = guards_are_marked ms p

  pub all_guards_are_marked : List Bool → Patterns → Bool
  all_guards_are_marked ms no_patterns = true
  all_guards_are_marked ms (more_patterns p ps) = guards_are_marked ms p && all_guards_are_marked ms ps

-- the same for annotations
abbrev pub are_marked : List Bool → List (Option Tree) → Bool
are_marked ms [] = true
are_marked ms (None ∷ ns) = are_marked ms ns
are_marked ms (Some n ∷ ns) = is_marked ms n && are_marked ms ns

-- whether each rule variable of the right side, the guards and the annotations is marked
abbrev pub rule_is_marked : List Bool → ScopedRule → List (Pat Term) → Bool
rule_is_marked ms r ps = is_marked ms (tree r.right) && (all_guards_are_marked ms (plain_patterns ps) && are_marked ms (map maybe_tree r.notes))
