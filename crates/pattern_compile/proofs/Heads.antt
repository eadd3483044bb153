-- The pattern of a left side by its head and the patterns that the head is applied to.
use Rattle.std.proofs.Common.{◌≡◌, ◌∙◌, ap, refl, ℕ, ◌+◌, ◌≤◌, arith, List, reverse}
use Rattle.std.specs.Prelude.{Option, Some, None}
use Rattle.dk_model.specs.Signatures.{Pattern, Patterns, no_patterns, more_patterns, abstraction_pattern}
use Rattle.dk_model.specs.declared.scoped.Left.{Left, Sym, Rvar, Var, Any, Guard, Abs', App'}
use Rattle.dk_model.specs.Scoping.{PlainLeft, plain_left, left_symbol, left_rule_variable, left_variable, left_wildcard, left_guard, left_abstraction, left_apply}
use Rattle.dk_model.specs.Shapes.{unapplied, pattern_of, left_head, left_patterns}
use Rattle.dk_model.specs.declared.signature.Pat.{Pat}
use Rattle.pattern_compile.specs.Patterns.{plain_patterns, head_of}
use Rattle.dk_model.specs.declared.term.Term.{Term}

-- how many parts a left side has
abbrev pub left_size : PlainLeft → ℕ
left_size (left_symbol k) = 1
left_size (left_rule_variable k) = 1
left_size (left_variable k) = 1
left_size left_wildcard = 1
left_size (left_guard t) = 1
left_size (left_abstraction l) = left_size l + 1
left_size (left_apply f a) = left_size f + left_size a + 1

pub head_size : (l : PlainLeft) → left_size (head_of l) ≤ left_size l
head_size (left_symbol k) = omega arith
head_size (left_rule_variable k) = omega arith
head_size (left_variable k) = omega arith
head_size left_wildcard = omega arith
head_size (left_guard t) = omega arith
head_size (left_abstraction l) = omega arith
head_size (left_apply f a) = let h : left_size (head_of f) ≤ left_size f = head_size f in omega arith

-- ---- the symbol at the head

abbrev pub symbol_in : PlainLeft → Option ℕ
symbol_in (left_symbol k) = Some k
symbol_in l = None

pub head_is : (l : PlainLeft) → left_head l ≡ symbol_in (head_of l)
head_is (left_symbol k) = refl
head_is (left_rule_variable k) = refl
head_is (left_variable k) = refl
head_is left_wildcard = refl
head_is (left_guard t) = refl
head_is (left_abstraction l) = refl
head_is (left_apply f a) = head_is f

pub no_symbol : (l : Left) → ((k : ℕ) → l ≡ Sym k → ⊥) → symbol_in (plain_left l) ≡ None
no_symbol (Sym k) h = absurd (h k refl)
no_symbol (Rvar k) h = refl
no_symbol (Var k) h = refl
no_symbol Any h = refl
no_symbol (Guard t) h = refl
no_symbol (Abs' p b) h = refl
no_symbol (App' p f q a) h = refl

-- ---- one pattern

abbrev applied_to : {A : Type 0} → (Patterns → Option A) → Option Pattern → Patterns → Option A
applied_to rest o ps = elim o [ None ↦ None | Some p ↦ rest (more_patterns p ps) ]

-- what a head is with the patterns, where there are some
abbrev pub with_head : ℕ → PlainLeft → Option Patterns → Option Pattern
with_head vars h None = None
with_head vars h (Some ps) = pattern_of vars h ps

module _ (vars : ℕ) where
  behind_head : (f : Patterns → Option Pattern) (g : Patterns → Option Patterns) (h : PlainLeft) (o : Option Pattern) (ps : Patterns) → ((qs : Patterns) → f qs ≡ with_head vars h (g qs)) → applied_to f o ps ≡ with_head vars h (applied_to g o ps)
  behind_head f g h None ps e = refl
  behind_head f g h (Some p) ps e = e (more_patterns p ps)

  pub pattern_is : (l : PlainLeft) (ps : Patterns) → pattern_of vars l ps ≡ with_head vars (head_of l) (left_patterns vars l ps)
  pattern_is (left_symbol k) ps = refl
  pattern_is (left_rule_variable k) ps = refl
  pattern_is (left_variable k) ps = refl
  pattern_is left_wildcard ps = refl
  pattern_is (left_guard t) ps = refl
  pattern_is (left_abstraction l) ps = refl
  pattern_is (left_apply f a) ps =
      behind_head (pattern_of vars f) (left_patterns vars f) (head_of f) (pattern_of vars a no_patterns) ps (λ qs. pattern_is f qs)

  module _ (l : PlainLeft) where
    pub pattern_by : (ps : Patterns) → left_patterns vars l no_patterns ≡ Some ps → pattern_of vars l no_patterns ≡ pattern_of vars (head_of l) ps
    pattern_by ps e = pattern_is l no_patterns ∙ ap (with_head vars (head_of l)) e

    pub no_pattern_by : left_patterns vars l no_patterns ≡ None → pattern_of vars l no_patterns ≡ None
    no_pattern_by e = pattern_is l no_patterns ∙ ap (with_head vars (head_of l)) e

  -- an abstraction by its body
  pub abstraction_by : (l : PlainLeft) (p : Pattern) (ps : Patterns) → pattern_of vars l no_patterns ≡ Some p → pattern_of vars (left_abstraction l) ps ≡ unapplied (abstraction_pattern p) ps
  abstraction_by l p ps e = ap (λ (o : Option Pattern). elim o [ None ↦ None | Some q ↦ unapplied (abstraction_pattern q) ps ]) e

  pub no_abstraction_by : (l : PlainLeft) (ps : Patterns) → pattern_of vars l no_patterns ≡ None → pattern_of vars (left_abstraction l) ps ≡ None
  no_abstraction_by l ps e = ap (λ (o : Option Pattern). elim o [ None ↦ None | Some q ↦ unapplied (abstraction_pattern q) ps ]) e

-- ---- the arguments, found from the last to the first

abbrev pub stacked : List (Pat Term) → Patterns
stacked found = plain_patterns (reverse found)

module _ (vars : ℕ) (whole : Option Patterns) (f a : PlainLeft) (found : List (Pat Term)) (at : whole ≡ left_patterns vars (left_apply f a) (stacked found)) where
  pub argument_lost : pattern_of vars a no_patterns ≡ None → whole ≡ None
  argument_lost e = at ∙ ap (λ (o : Option Pattern). applied_to (left_patterns vars f) o (stacked found)) e
