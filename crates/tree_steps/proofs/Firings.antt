-- A contraction at the root, and a rule that fires there.
use Rattle.std.proofs.Common.{◌≡◌, ◌∙◌, ℕ, refl, ap, List, Bool, true, false, Option, Some, None}
use Rattle.std.specs.Prelude.{if◌then◌else◌, slice_get}
use Rattle.dk_model.specs.PlainTerms.{Tree, star, kind, symbol, variable, rule_variable, apply, bare, annotated, product}
use Rattle.dk_model.specs.PlainEntries.{PlainRule, PlainSignature}
use Rattle.dk_model.specs.Substitution.{substitute}
use Rattle.dk_model.specs.Spines.{arguments, head_symbol, body_of}
use Rattle.dk_model.specs.SymbolRules.{rules_of}
use Rattle.dk_model.specs.RuleTypingOver.{patterns_of}
use Rattle.typing_model.specs.Steps.{Part, capture, instantiated}
use Rattle.checked_steps.specs.Matching.{all_matched, to_join}
use Rattle.checked_steps.specs.Taken.{and_then, contracted, fired, fired_with}
use Rattle.tree_steps.specs.Firing.{with_rule, firing_of}

pub contracted_some : (t a b : Tree) → body_of t ≡ Some b → contracted (apply t a) ≡ Some (substitute 0 a b)
contracted_some (bare c) a b e = let q : c ≡ b = cc in ap (λ (d : Tree). Some (substitute 0 a d)) q
contracted_some star a b e = cc
contracted_some kind a b e = cc
contracted_some (symbol k) a b e = cc
contracted_some (variable k) a b e = cc
contracted_some (rule_variable k) a b e = cc
contracted_some (apply f u) a b e = cc
contracted_some (annotated n c) a b e = cc
contracted_some (product c d) a b e = cc

pub contracted_none : (t a : Tree) → body_of t ≡ None → contracted (apply t a) ≡ None
contracted_none (bare c) a e = cc
contracted_none star a e = refl
contracted_none kind a e = refl
contracted_none (symbol k) a e = refl
contracted_none (variable k) a e = refl
contracted_none (rule_variable k) a e = refl
contracted_none (apply f u) a e = refl
contracted_none (annotated n c) a e = refl
contracted_none (product c d) a e = refl

module _ (S : PlainSignature) (met : List (Tree × Tree) → Bool) where
  -- a rule fires where its conditions are joined
  abbrev pub fires_then : Option (PlainRule × List Part) → Option Tree
  fires_then o = and_then o (λ m. fired_with met m.0 m.1)

  with_parts : (r : PlainRule) (o : Option (List Part)) → and_then o (fired_with met r) ≡ fires_then (with_rule r o)
  with_parts r None = refl
  with_parts r (Some ps) = refl

  with_rules : (ts : List Tree) (o : Option PlainRule)
      → and_then o (λ r. and_then (all_matched 0 (patterns_of r.pats) ts) (fired_with met r)) ≡ fires_then (and_then o (λ r. with_rule r (all_matched 0 (patterns_of r.pats) ts)))
  with_rules ts None = refl
  with_rules ts (Some r) = with_parts r (all_matched 0 (patterns_of r.pats) ts)

  with_symbol : (number : ℕ) (ts : List Tree) (o : Option ℕ)
      → and_then o (λ k. and_then (slice_get (rules_of S k) number) (λ r. and_then (all_matched 0 (patterns_of r.pats) ts) (fired_with met r)))
      ≡ fires_then (and_then o (λ k. and_then (slice_get (rules_of S k) number) (λ r. with_rule r (all_matched 0 (patterns_of r.pats) ts))))
  with_symbol number ts None = refl
  with_symbol number ts (Some k) = with_rules ts (slice_get (rules_of S k) number)

  fired_is : (number : ℕ) (t : Tree) → fired S number met t ≡ fires_then (firing_of S number t)
  fired_is number t = with_symbol number (arguments t) (head_symbol t)

  pub fires_not : (number : ℕ) (t : Tree) → firing_of S number t ≡ None → fired S number met t ≡ None
  fires_not number t e = fired_is number t ∙ ap fires_then e

  pub fires_unmet : (number : ℕ) (t : Tree) (r : PlainRule) (ps : List Part) → firing_of S number t ≡ Some (r, ps) → met (to_join ps) ≡ false → fired S number met t ≡ None
  fires_unmet number t r ps e q = fired_is number t ∙ ap fires_then e ∙ ap (λ b. if b then Some (instantiated (capture ps) 0 r.right) else None) q

  pub fires : (number : ℕ) (t : Tree) (r : PlainRule) (ps : List Part) → firing_of S number t ≡ Some (r, ps) → met (to_join ps) ≡ true
      → fired S number met t ≡ Some (instantiated (capture ps) 0 r.right)
  fires number t r ps e q = fired_is number t ∙ ap fires_then e ∙ ap (λ b. if b then Some (instantiated (capture ps) 0 r.right) else None) q
