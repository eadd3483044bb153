-- The left side that a pattern is.
use Rattle.std.specs.Prelude.{map, eqb, nat_lt, length, ◌&&◌, ◌||◌, not, Bool, true, false, if◌then◌else◌}
use Rattle.std.proofs.Common.{List, [], ◌∷◌, ℕ, zero, suc, ◌+◌, ◌≡◌, ◌<◌, Option, Some, None, refl, ap, ◌∙◌, sym as flip, subst as along, arith}
use Rattle.std.proofs.lemmas.Bool.{eqb-true, eq-eqb}
use Rattle.dk_model.specs.Trees.{Tree, symbol, variable, rule_variable, apply, bare}
use Rattle.dk_model.specs.Substitution.{shift}
use Rattle.dk_model.specs.Erasure.{erased}
use Rattle.dk_model.specs.Signatures.{Pattern, Patterns, no_patterns, more_patterns, rule_variable_pattern, wildcard_pattern, guard_pattern, symbol_pattern, variable_pattern, abstraction_pattern, pattern_list}
use Rattle.dk_model.specs.Scoping.{PlainLeft, left_symbol, left_rule_variable, left_variable, left_wildcard, left_guard, left_abstraction, left_apply}
use Rattle.dk_model.specs.Captures.{is_in}
use Rattle.dk_model.specs.Spines.{applied}
use Rattle.dk_model.specs.Shapes.{bare_variables, are_distinct, applied_variable, unapplied, pattern_of, left_head, left_patterns, pattern_variables, patterns_variables}
use Rattle.dk_model.specs.RuleTypingOver.{outermost_first, occurrence}
use Rattle.typing_model.specs.Derivations.{bound_variables, wildcards, occurs_in}
use Rattle.typing_model.specs.Conditions.{IsNumberedPattern, AreNumberedPatterns}
use Rattle.dk_model.specs.Bindings.{Bindings, under}
use Rattle.typing_model.specs.Derivations.{left_term_by, is_without}
use Rattle.dk_model.proofs.Unders.{Settled, under_again, under_applied}

-- a left side below `depth` of its binders, read as a term, where nothing is bound
abbrev pub left_term : ℕ → ℕ → PlainLeft → Tree
left_term depth next (left_symbol k) = symbol k
left_term depth next (left_rule_variable k) = rule_variable k
left_term depth next (left_variable k) = variable k
left_term depth next left_wildcard = applied (rule_variable next) (bound_variables depth)
left_term depth next (left_guard t) = shift 0 depth (erased t)
left_term depth next (left_abstraction p) = bare (left_term (depth + 1) next p)
left_term depth next (left_apply f a) = apply (left_term depth next f) (left_term depth (next + wildcards f) a)

abbrev pub to_variables : PlainLeft → List ℕ → PlainLeft
to_variables l [] = l
to_variables l (x ∷ xs) = to_variables (left_apply l (left_variable x)) xs

abbrev mutual
  pub left_of : Pattern → PlainLeft
  left_of (rule_variable_pattern k xs) = to_variables (left_rule_variable k) xs
  left_of wildcard_pattern = left_wildcard
  left_of (guard_pattern t) = left_guard t
  left_of (symbol_pattern k ps) = applied_left (left_symbol k) ps
  left_of (variable_pattern k ps) = applied_left (left_variable k) ps
  left_of (abstraction_pattern p) = left_abstraction (left_of p)

  pub applied_left : PlainLeft → Patterns → PlainLeft
  applied_left l no_patterns = l
  applied_left l (more_patterns p ps) = applied_left (left_apply l (left_of p)) ps

-- ---- a rule variable applied to variables

pub to_term : (d n : ℕ) (l : PlainLeft) (xs : List ℕ) → left_term d n (to_variables l xs) ≡ applied (left_term d n l) (map variable xs)
to_term d n l [] = refl
to_term d n l (x ∷ xs) = to_term d n (left_apply l (left_variable x)) xs

pub to_term_by : (s : Bindings) (d n : ℕ) (l : PlainLeft) (xs : List ℕ) → left_term_by s d n (to_variables l xs) ≡ applied (left_term_by s d n l) (map variable xs)
to_term_by s d n l [] = refl
to_term_by s d n l (x ∷ xs) = to_term_by s d n (left_apply l (left_variable x)) xs

pub to_wildcards : (l : PlainLeft) (xs : List ℕ) → wildcards (to_variables l xs) ≡ wildcards l
to_wildcards l [] = refl
to_wildcards l (x ∷ xs) = to_wildcards (left_apply l (left_variable x)) xs ∙ (let e : wildcards l + 0 ≡ wildcards l = omega arith in e)

pub or_nothing : (b : Bool) → (b || false) ≡ b
or_nothing true = refl
or_nothing false = refl

pub to_occurs : (k : ℕ) (l : PlainLeft) (xs : List ℕ) → occurs_in k (to_variables l xs) ≡ occurs_in k l
to_occurs k l [] = refl
to_occurs k l (x ∷ xs) = to_occurs k (left_apply l (left_variable x)) xs ∙ or_nothing (occurs_in k l)

pub to_without : (seen : ℕ → Bool) (l : PlainLeft) (xs : List ℕ) → is_without seen (to_variables l xs) ≡ is_without seen l
to_without seen l [] = refl
to_without seen l (x ∷ xs) = to_without seen (left_apply l (left_variable x)) xs

-- ---- guards under bindings

pub term_by_under : (s : Bindings) → Settled s → (d n : ℕ) (l : PlainLeft) → under s (left_term_by s d n l) ≡ under s (left_term d n l)
term_by_under s g d n (left_symbol k) = refl
term_by_under s g d n (left_rule_variable k) = refl
term_by_under s g d n (left_variable k) = refl
term_by_under s g d n left_wildcard = refl
term_by_under s g d n (left_guard t) = under_again s g (shift 0 d (erased t))
term_by_under s g d n (left_abstraction p) = ap bare (term_by_under s g (d + 1) n p)
term_by_under s g d n (left_apply f a) = rw (term_by_under s g d n f, term_by_under s g d (n + wildcards f) a) refl

-- all variables bound at a place
pub all_bound : (depth : ℕ) → map variable (outermost_first depth) ≡ bound_variables depth
all_bound zero = refl
all_bound (suc depth) = ap (λ ts. variable depth ∷ ts) (all_bound depth)

-- ---- a left side that is a pattern

same_left : (l : PlainLeft) (q p : Pattern) → left_of q ≡ l → Some q ≡ Some p → left_of p ≡ l
same_left l q p h e = let g : q ≡ p = cc in along (λ x. left_of x ≡ l) g h

unapplied_left : (l : PlainLeft) (q : Pattern) (ps : Patterns) (p : Pattern) → left_of q ≡ l → unapplied q ps ≡ Some p → left_of p ≡ applied_left l ps
unapplied_left l q no_patterns p h e = same_left l q p h e
unapplied_left l q (more_patterns a ps) p h e = cc

bare_more : (k : ℕ) (ps : Patterns) (o : Option (List ℕ)) (xs : List ℕ) → ((ys : List ℕ) → o ≡ Some ys → (l : PlainLeft) → to_variables l ys ≡ applied_left l ps)
    → elim o as (λ _. Option (List ℕ)) [ None ↦ None | Some ys ↦ Some (k ∷ ys) ] ≡ Some xs → (l : PlainLeft) → to_variables l xs ≡ applied_left (left_apply l (left_variable k)) ps
bare_more k ps None xs h e l = cc
bare_more k ps (Some ys) xs h e l = let q : k ∷ ys ≡ xs = cc in along (λ zs. to_variables l zs ≡ applied_left (left_apply l (left_variable k)) ps) q (h ys refl (left_apply l (left_variable k)))

bare_left : (ps : Patterns) (xs : List ℕ) → bare_variables ps ≡ Some xs → (l : PlainLeft) → to_variables l xs ≡ applied_left l ps
bare_left no_patterns xs e l = let q : [] ≡ xs = cc in along (λ zs. to_variables l zs ≡ l) q refl
bare_left (more_patterns (variable_pattern k no_patterns) ps) xs e l = bare_more k ps (bare_variables ps) xs (bare_left ps) e l
bare_left (more_patterns p ps) xs e l = cc

variable_left : (k : ℕ) (ps : Patterns) (xs : List ℕ) (b : Bool) (p : Pattern) → ((l : PlainLeft) → to_variables l xs ≡ applied_left l ps)
    → (if b then Some (rule_variable_pattern k xs) else None) ≡ Some p → left_of p ≡ applied_left (left_rule_variable k) ps
variable_left k ps xs true p h e = same_left (applied_left (left_rule_variable k) ps) (rule_variable_pattern k xs) p (h (left_rule_variable k)) e
variable_left k ps xs false p h e = cc

applied_variable_left : (vars k : ℕ) (ps : Patterns) (o : Option (List ℕ)) (p : Pattern) → bare_variables ps ≡ o → applied_variable vars k o ≡ Some p
    → left_of p ≡ applied_left (left_rule_variable k) ps
applied_variable_left vars k ps None p q e = cc
applied_variable_left vars k ps (Some xs) p q e = variable_left k ps xs (nat_lt k vars && are_distinct xs) p (bare_left ps xs q) e

module _ (vars : ℕ) where
  abstraction_left : (l : PlainLeft) (o : Option Pattern) (ps : Patterns) (p : Pattern) → ((q : Pattern) → o ≡ Some q → left_of q ≡ l)
      → elim o [ None ↦ None | Some q ↦ unapplied (abstraction_pattern q) ps ] ≡ Some p → left_of p ≡ applied_left (left_abstraction l) ps
  abstraction_left l None ps p h e = cc
  abstraction_left l (Some q) ps p h e = unapplied_left (left_abstraction l) (abstraction_pattern q) ps p (ap left_abstraction (h q refl)) e

  argument_left : (f a : PlainLeft) (o : Option Pattern) (ps : Patterns) (p : Pattern) → ((q : Pattern) → o ≡ Some q → left_of q ≡ a)
      → ((qs : Patterns) → pattern_of vars f qs ≡ Some p → left_of p ≡ applied_left f qs)
      → elim o [ None ↦ None | Some q ↦ pattern_of vars f (more_patterns q ps) ] ≡ Some p → left_of p ≡ applied_left (left_apply f a) ps
  argument_left f a None ps p h k e = cc
  argument_left f a (Some q) ps p h k e = k (more_patterns q ps) e ∙ ap (λ x. applied_left (left_apply f x) ps) (h q refl)

  pub pattern_left : (l : PlainLeft) (ps : Patterns) (p : Pattern) → pattern_of vars l ps ≡ Some p → left_of p ≡ applied_left l ps
  pattern_left (left_symbol k) ps p e = same_left (applied_left (left_symbol k) ps) (symbol_pattern k ps) p refl e
  pattern_left (left_variable k) ps p e = same_left (applied_left (left_variable k) ps) (variable_pattern k ps) p refl e
  pattern_left (left_rule_variable k) ps p e = applied_variable_left vars k ps (bare_variables ps) p refl e
  pattern_left left_wildcard ps p e = unapplied_left left_wildcard wildcard_pattern ps p refl e
  pattern_left (left_guard t) ps p e = unapplied_left (left_guard t) (guard_pattern t) ps p refl e
  pattern_left (left_abstraction l) ps p e = abstraction_left l (pattern_of vars l no_patterns) ps p (pattern_left l no_patterns) e
  pattern_left (left_apply f a) ps p e = argument_left f a (pattern_of vars a no_patterns) ps p (pattern_left a no_patterns) (λ qs. pattern_left f qs p) e

  spine_left : (f a : PlainLeft) (k : ℕ) (o : Option Pattern) (ps qs : Patterns) → ((q : Pattern) → o ≡ Some q → left_of q ≡ a)
      → ((rs : Patterns) → left_patterns vars f rs ≡ Some qs → applied_left (left_symbol k) qs ≡ applied_left f rs)
      → elim o [ None ↦ None | Some q ↦ left_patterns vars f (more_patterns q ps) ] ≡ Some qs → applied_left (left_symbol k) qs ≡ applied_left (left_apply f a) ps
  spine_left f a k None ps qs h g e = cc
  spine_left f a k (Some q) ps qs h g e = g (more_patterns q ps) e ∙ ap (λ x. applied_left (left_apply f x) ps) (h q refl)

  -- a left side is its head applied to its patterns
  pub head_left : (l : PlainLeft) (k : ℕ) (ps qs : Patterns) → left_head l ≡ Some k → left_patterns vars l ps ≡ Some qs → applied_left (left_symbol k) qs ≡ applied_left l ps
  head_left (left_symbol j) k ps qs h e = let i : j ≡ k = cc in let q : ps ≡ qs = cc in ap (λ x. applied_left (left_symbol x) qs) (flip i) ∙ ap (applied_left (left_symbol j)) (flip q)
  head_left (left_apply f a) k ps qs h e = spine_left f a k (pattern_of vars a no_patterns) ps qs (pattern_left a no_patterns) (λ rs. head_left f k rs qs h) e
  head_left (left_variable j) k ps qs h e = cc
  head_left (left_rule_variable j) k ps qs h e = cc
  head_left left_wildcard k ps qs h e = cc
  head_left (left_guard t) k ps qs h e = cc
  head_left (left_abstraction l) k ps qs h e = cc
