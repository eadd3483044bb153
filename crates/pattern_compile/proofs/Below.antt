-- The rule variables of the patterns of a left side are below the number of rule variables.
use Rattle.std.proofs.Common.{◌≡◌, ◌<◌, ℕ, Bool, true, false, refl, subst, List, [], ◌∷◌, ◌++◌, if◌then◌else◌, ltb-true}
use Rattle.std.specs.Prelude.{Option, Some, None, ◌&&◌, nat_lt}
use Rattle.dk_model.specs.Signatures.{Pattern, Patterns, no_patterns, more_patterns, rule_variable_pattern, wildcard_pattern, guard_pattern, abstraction_pattern}
use Rattle.dk_model.specs.Scoping.{PlainLeft, left_symbol, left_rule_variable, left_variable, left_wildcard, left_guard, left_abstraction, left_apply}
use Rattle.dk_model.specs.Shapes.{bare_variables, are_distinct, applied_variable, unapplied, pattern_of, left_patterns, pattern_variables, patterns_variables}

-- each of these is below `n`
abbrev pub Below : ℕ → List ℕ → Type 0
Below n [] = Unit {0}
Below n (x ∷ xs) = (x < n) × Below n xs

below_both : (n : ℕ) (xs ys : List ℕ) → Below n xs → Below n ys → Below n (xs ++ ys)
below_both n [] ys h k = k
below_both n (x ∷ xs) ys h k = (h.0, below_both n xs ys h.1 k)

abbrev pub IsBelow : ℕ → Option Pattern → Type 0
IsBelow n None = Unit {0}
IsBelow n (Some p) = Below n (pattern_variables p)

abbrev pub AreBelow : ℕ → Option Patterns → Type 0
AreBelow n None = Unit {0}
AreBelow n (Some ps) = Below n (patterns_variables ps)

and_first : (a b : Bool) → (a && b) ≡ true → a ≡ true
and_first true b e = refl
and_first false b e = cc

module _ (vars : ℕ) where
  variable_below : (k : ℕ) (xs : List ℕ) (b : Bool) → (nat_lt k vars && are_distinct xs) ≡ b → IsBelow vars (if b then Some (rule_variable_pattern k xs) else None)
  variable_below k xs true e = (ltb-true k vars (and_first (nat_lt k vars) (are_distinct xs) e), tt)
  variable_below k xs false e = tt

  applied_below : (k : ℕ) (o : Option (List ℕ)) → IsBelow vars (applied_variable vars k o)
  applied_below k None = tt
  applied_below k (Some xs) = variable_below k xs (nat_lt k vars && are_distinct xs) refl

  unapplied_below : (p : Pattern) (ps : Patterns) → Below vars (pattern_variables p) → IsBelow vars (unapplied p ps)
  unapplied_below p no_patterns h = h
  unapplied_below p (more_patterns q qs) h = tt

  abstraction_below : (o : Option Pattern) (ps : Patterns) → IsBelow vars o → IsBelow vars (elim o [ None ↦ None | Some p ↦ unapplied (abstraction_pattern p) ps ])
  abstraction_below None ps h = tt
  abstraction_below (Some p) ps h = unapplied_below (abstraction_pattern p) ps h

  module _ {A : Type 0} (Holds : Option A → Type 0) (none : Holds None) where
    behind_below : (f : Patterns → Option A) → ((ps : Patterns) → Below vars (patterns_variables ps) → Holds (f ps)) → (o : Option Pattern) (ps : Patterns) → IsBelow vars o → Below vars (patterns_variables ps) → Holds (elim o [ None ↦ None | Some p ↦ f (more_patterns p ps) ])
    behind_below f h None ps is are = none
    behind_below f h (Some p) ps is are = h (more_patterns p ps) (below_both vars (pattern_variables p) (patterns_variables ps) is are)

  pattern_below : (l : PlainLeft) (ps : Patterns) → Below vars (patterns_variables ps) → IsBelow vars (pattern_of vars l ps)
  pattern_below (left_symbol k) ps h = h
  pattern_below (left_variable k) ps h = h
  pattern_below (left_rule_variable k) ps h = applied_below k (bare_variables ps)
  pattern_below left_wildcard ps h = unapplied_below wildcard_pattern ps tt
  pattern_below (left_guard t) ps h = unapplied_below (guard_pattern t) ps tt
  pattern_below (left_abstraction l) ps h = abstraction_below (pattern_of vars l no_patterns) ps (pattern_below l no_patterns tt)
  pattern_below (left_apply f a) ps h =
      behind_below (IsBelow vars) tt (pattern_of vars f) (λ qs. pattern_below f qs) (pattern_of vars a no_patterns) ps (pattern_below a no_patterns tt) h

  patterns_below : (l : PlainLeft) (ps : Patterns) → Below vars (patterns_variables ps) → AreBelow vars (left_patterns vars l ps)
  patterns_below (left_symbol k) ps h = h
  patterns_below (left_variable k) ps h = h
  patterns_below (left_rule_variable k) ps h = h
  patterns_below left_wildcard ps h = h
  patterns_below (left_guard t) ps h = h
  patterns_below (left_abstraction l) ps h = h
  patterns_below (left_apply f a) ps h =
      behind_below (AreBelow vars) tt (left_patterns vars f) (λ qs. patterns_below f qs) (pattern_of vars a no_patterns) ps (pattern_below a no_patterns tt) h

  pub variables_below : (l : PlainLeft) (ps : Patterns) → left_patterns vars l no_patterns ≡ Some ps → Below vars (patterns_variables ps)
  variables_below l ps e = subst (AreBelow vars) e (patterns_below l no_patterns tt)
