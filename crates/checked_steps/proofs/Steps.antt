-- What the steps of items give is a reduct, and what they join is joinable.
use Rattle.std.specs.Prelude.{slice_get, Contains, nat_lt, ◌&&◌, Bool, true, false, if◌then◌else◌}
use Rattle.std.proofs.Common.{List, [], ◌∷◌, ◌++◌, ℕ, zero, suc, ◌+◌, ◌-◌, ◌≡◌, Option, Some, None, refl, ap, ◌∙◌, sym as flip, subst as along, arith}
use Rattle.std.proofs.lemmas.Bool.{eqb-true}
use Rattle.dk_model.specs.Trees.{Tree, star, kind, symbol, variable, rule_variable, apply, bare, annotated, product}
use Rattle.dk_model.specs.Substitution.{substitute}
use Rattle.dk_model.specs.Signatures.{Pattern, Patterns, no_patterns, more_patterns, pattern_list, rule_variable_pattern, wildcard_pattern, guard_pattern, symbol_pattern, variable_pattern, abstraction_pattern, PlainRule, PlainSignature}
use Rattle.dk_model.specs.Spines.{head, arguments, applied, head_symbol}
use Rattle.dk_model.specs.SymbolRules.{rules_of}
use Rattle.dk_model.specs.Matrix.{heads_same}
use Rattle.dk_model.specs.Captures.{mentions_others, captured}
use Rattle.dk_model.specs.RuleTypingOver.{patterns_of}
use Rattle.typing_model.specs.Steps.{Part, variable_part, guard_part, IsInstance, at_wildcard, at_guard, at_rule_variable, at_symbol, at_variable, at_abstraction, AreInstances, no_arguments, one_argument, capture, instantiated, later_occurrence, conditions_behind, conditions, beta, by_rule, no_step, one_step, ReducesTo, AreJoinable}
use Rattle.typing_model.specs.PlainSteps.{AreMet}
use Rattle.typing_model.proofs.Reduction.{reduces_itself, reduces_then, reduces_in_application, reduces_in_abstraction, reduces_in_annotated, reduces_in_product, joins}
use Rattle.typing_model.proofs.Evaluation.{JoinAll, all_before, all_behind, equal_trees, applied_append, applied_arguments}
use Rattle.typing_model.proofs.Rules.{all_met}
use Rattle.checked_steps.specs.Matching.{both_parts, matched, all_matched, laters, guards, to_join, nodes, within, at_place}
use Rattle.checked_steps.specs.Items.{ItemStep, beta_step, rule_step, ItemSteps, no_steps, more_steps, ItemJoins, no_joins, more_joins}
use Rattle.checked_steps.specs.Taken.{contracted, and_then, both_same, fired_with, fired, step_taken, steps_taken, all_joined}

pub from_and_then : {A B : Type 0} (P : Type 0) (o : Option A) (g : A → Option B) (b : B) → and_then o g ≡ Some b → ((a : A) → o ≡ Some a → g a ≡ Some b → P) → P
from_and_then P None g b e k = cc
from_and_then P (Some a) g b e k = k a refl e

pub from_within : (P : Type 0) (c : Tree → Tree) (o : Option Tree) (u : Tree) → within c o ≡ Some u → ((t : Tree) → o ≡ Some t → c t ≡ u → P) → P
from_within P c None u e k = cc
from_within P c (Some t) u e k = k t refl (let q : c t ≡ u = cc in q)

-- ---- instances

-- a term is its head applied to its arguments
pub whole : (t : Tree) → applied (head t) (arguments t) ≡ t
whole (apply f a) = applied_append (head f) (arguments f) (a ∷ []) ∙ ap (λ g. apply g a) (whole f)
whole star = refl
whole kind = refl
whole (symbol k) = refl
whole (variable k) = refl
whole (rule_variable k) = refl
whole (bare b) = refl
whole (annotated n b) = refl
whole (product a b) = refl

pub same_symbol : (x : Tree) (k : ℕ) → heads_same x (symbol k) ≡ true → x ≡ symbol k
same_symbol (symbol j) k e = ap symbol (eqb-true j k e)
same_symbol t k e = cc

pub same_variable : (x : Tree) (k : ℕ) → heads_same x (variable k) ≡ true → x ≡ variable k
same_variable (variable j) k e = ap variable (eqb-true j k e)
same_variable t k e = cc

pub from_both : (P : Type 0) (o q : Option (List Part)) (ps : List Part) → both_parts o q ≡ Some ps → ((xs ys : List Part) → o ≡ Some xs → q ≡ Some ys → xs ++ ys ≡ ps → P) → P
from_both P (Some xs) (Some ys) ps e k = k xs ys refl refl (let i : xs ++ ys ≡ ps = cc in i)
from_both P None q ps e k = cc
from_both P (Some xs) None ps e k = cc

pub stray_if : (depth k : ℕ) (xs : List ℕ) (t : Tree) (b : Bool) (ps : List Part) → mentions_others 0 depth xs t ≡ b
    → (if b then None else Some (variable_part k (captured depth xs t) ∷ [])) ≡ Some ps → IsInstance depth (rule_variable_pattern k xs) t ps
stray_if depth k xs t true ps q e = cc
stray_if depth k xs t false ps q e = let i : (variable_part k (captured depth xs t) ∷ []) ≡ ps = cc in along (IsInstance depth (rule_variable_pattern k xs) t) i (at_rule_variable q)

pub if_true : (b : Bool) (o : Option (List Part)) (ps : List Part) → (if b then o else None) ≡ Some ps → (b ≡ true) × (o ≡ Some ps)
if_true true o ps e = (refl, e)
if_true false o ps e = cc

mutual
  pub matched_is : (depth : ℕ) (p : Pattern) (t : Tree) (ps : List Part) → matched depth p t ≡ Some ps → IsInstance depth p t ps
  matched_is depth (rule_variable_pattern k xs) t ps e = stray_if depth k xs t (mentions_others 0 depth xs t) ps refl e
  matched_is depth wildcard_pattern t ps e = let i : [] ≡ ps = cc in along (IsInstance depth wildcard_pattern t) i at_wildcard
  matched_is depth (guard_pattern g) t ps e = let i : (guard_part depth g t ∷ []) ≡ ps = cc in along (IsInstance depth (guard_pattern g) t) i at_guard
  matched_is depth (symbol_pattern k qs) t ps e = let h : _ = if_true (heads_same (head t) (symbol k)) (all_matched depth qs (arguments t)) ps e in
      along (λ x. IsInstance depth (symbol_pattern k qs) x ps) (ap (λ x. applied x (arguments t)) (flip (same_symbol (head t) k h.0)) ∙ whole t) (at_symbol (all_matched_are depth qs (arguments t) ps h.1))
  matched_is depth (variable_pattern k qs) t ps e = let h : _ = if_true (heads_same (head t) (variable k)) (all_matched depth qs (arguments t)) ps e in
      along (λ x. IsInstance depth (variable_pattern k qs) x ps) (ap (λ x. applied x (arguments t)) (flip (same_variable (head t) k h.0)) ∙ whole t) (at_variable (all_matched_are depth qs (arguments t) ps h.1))
  matched_is depth (abstraction_pattern p) (bare b) ps e = at_abstraction (matched_is (depth + 1) p b ps e)
  matched_is depth (abstraction_pattern p) t ps e = cc

  pub all_matched_are : (depth : ℕ) (qs : Patterns) (ts : List Tree) (ps : List Part) → all_matched depth qs ts ≡ Some ps → AreInstances depth (pattern_list qs) ts ps
  all_matched_are depth no_patterns [] ps e = let i : [] ≡ ps = cc in along (AreInstances depth [] []) i no_arguments
  all_matched_are depth no_patterns (t ∷ ts) ps e = cc
  all_matched_are depth (more_patterns q qs) [] ps e = cc
  all_matched_are depth (more_patterns q qs) (t ∷ ts) ps e = from_both (AreInstances depth (q ∷ pattern_list qs) (t ∷ ts) ps) (matched depth q t) (all_matched depth qs ts) ps e (λ xs ys a b i.
      along (AreInstances depth (q ∷ pattern_list qs) (t ∷ ts)) i (one_argument (matched_is depth q t xs a) (all_matched_are depth qs ts ys b)))

pub listed : (ps : List Pattern) → pattern_list (patterns_of ps) ≡ ps
listed [] = refl
listed (p ∷ ps) = ap (λ qs. p ∷ qs) (listed ps)

module _ (S : PlainSignature) where
  -- ---- places

  abbrev pub IsSoundAt : (Tree → Option Tree) → Type 0
  IsSoundAt F = (t u : Tree) → F t ≡ Some u → ReducesTo S t u

  pub place_if : (b : Bool) (o q : Option Tree) (P : Type 0) (u : Tree) → (if b then o else q) ≡ Some u → (o ≡ Some u → P) → (q ≡ Some u → P) → P
  place_if true o q P u e f g = f e
  place_if false o q P u e f g = g e

  pub place_sound : (F : Tree → Option Tree) → IsSoundAt F → (p : ℕ) (t u : Tree) → at_place F p t ≡ Some u → ReducesTo S t u
  place_sound F h zero t u e = h t u e
  place_sound F h (suc p) (apply f a) u e = place_if (nat_lt p (nodes f)) (within (λ g. apply g a) (at_place F p f)) (within (apply f) (at_place F (p - nodes f) a)) (ReducesTo S (apply f a) u) u e
      (λ i. from_within (ReducesTo S (apply f a) u) (λ g. apply g a) (at_place F p f) u i (λ g j q. along (ReducesTo S (apply f a)) q (reduces_in_application S [] f g a a (place_sound F h p f g j) (reduces_itself S [] a))))
      (λ i. from_within (ReducesTo S (apply f a) u) (apply f) (at_place F (p - nodes f) a) u i (λ b j q. along (ReducesTo S (apply f a)) q (reduces_in_application S [] f f a b (reduces_itself S [] f) (place_sound F h (p - nodes f) a b j))))
  place_sound F h (suc p) (bare b) u e = from_within (ReducesTo S (bare b) u) bare (at_place F p b) u e (λ c j q. along (ReducesTo S (bare b)) q (reduces_in_abstraction S [] b c (place_sound F h p b c j)))
  place_sound F h (suc p) (annotated n b) u e = place_if (nat_lt p (nodes n)) (within (λ m. annotated m b) (at_place F p n)) (within (annotated n) (at_place F (p - nodes n) b)) (ReducesTo S (annotated n b) u) u e
      (λ i. from_within (ReducesTo S (annotated n b) u) (λ m. annotated m b) (at_place F p n) u i (λ g j q. along (ReducesTo S (annotated n b)) q (reduces_in_annotated S [] n b g b (place_sound F h p n g j) (reduces_itself S [] b))))
      (λ i. from_within (ReducesTo S (annotated n b) u) (annotated n) (at_place F (p - nodes n) b) u i (λ c j q. along (ReducesTo S (annotated n b)) q (reduces_in_annotated S [] n b n c (reduces_itself S [] n) (place_sound F h (p - nodes n) b c j))))
  place_sound F h (suc p) (product a b) u e = place_if (nat_lt p (nodes a)) (within (λ c. product c b) (at_place F p a)) (within (product a) (at_place F (p - nodes a) b)) (ReducesTo S (product a b) u) u e
      (λ i. from_within (ReducesTo S (product a b) u) (λ c. product c b) (at_place F p a) u i (λ g j q. along (ReducesTo S (product a b)) q (reduces_in_product S [] a b g b (place_sound F h p a g j) (reduces_itself S [] b))))
      (λ i. from_within (ReducesTo S (product a b) u) (product a) (at_place F (p - nodes a) b) u i (λ c j q. along (ReducesTo S (product a b)) q (reduces_in_product S [] a b a c (reduces_itself S [] a) (place_sound F h (p - nodes a) b c j))))
  place_sound F h (suc p) star u e = cc
  place_sound F h (suc p) kind u e = cc
  place_sound F h (suc p) (symbol k) u e = cc
  place_sound F h (suc p) (variable k) u e = cc
  place_sound F h (suc p) (rule_variable k) u e = cc

  pub contracted_sound : IsSoundAt contracted
  contracted_sound (apply (bare b) a) u e = let i : substitute 0 a b ≡ u = cc in along (ReducesTo S (apply (bare b) a)) i (0, one_step beta no_step)
  contracted_sound (apply star a) u e = cc
  contracted_sound (apply kind a) u e = cc
  contracted_sound (apply (symbol k) a) u e = cc
  contracted_sound (apply (variable k) a) u e = cc
  contracted_sound (apply (rule_variable k) a) u e = cc
  contracted_sound (apply (apply f b) a) u e = cc
  contracted_sound (apply (annotated n b) a) u e = cc
  contracted_sound (apply (product c b) a) u e = cc
  contracted_sound star u e = cc
  contracted_sound kind u e = cc
  contracted_sound (symbol k) u e = cc
  contracted_sound (variable k) u e = cc
  contracted_sound (rule_variable k) u e = cc
  contracted_sound (bare b) u e = cc
  contracted_sound (annotated n b) u e = cc
  contracted_sound (product a b) u e = cc

  -- ---- rules

  pub all_append : (ps qs : List (Tree × Tree)) → JoinAll S ps → JoinAll S qs → JoinAll S (ps ++ qs)
  all_append [] qs i j = j
  all_append (p ∷ ps) qs i j = (i.0, all_append ps qs i.1 j)

  -- the conditions in the order of certificates are the conditions
  pub behind_joined : (s : ℕ → Option Tree) (before parts : List Part) → JoinAll S (laters before parts) → JoinAll S (guards s parts) → JoinAll S (conditions_behind s before parts)
  behind_joined s before [] i j = tt
  behind_joined s before (variable_part k t ∷ ps) i j =
      let o : List (Tree × Tree) = later_occurrence (capture before k) t in
      let rest : List (Tree × Tree) = laters (before ++ (variable_part k t ∷ [])) ps in
      all_append o _ (all_before S o rest i) (behind_joined s (before ++ (variable_part k t ∷ [])) ps (all_behind S o rest i) j)
  behind_joined s before (guard_part d g t ∷ ps) i j = (j.0, behind_joined s (before ++ (guard_part d g t ∷ [])) ps i j.1)

  pub joined_conditions : (ps : List Part) → JoinAll S (to_join ps) → JoinAll S (conditions ps)
  joined_conditions ps h = behind_joined (capture ps) [] ps (all_before S (laters [] ps) (guards (capture ps) ps) h) (all_behind S (laters [] ps) (guards (capture ps) ps) h)

  pub fired_if : (b : Bool) (t u : Tree) → (if b then Some t else None) ≡ Some u → (b ≡ true) × (t ≡ u)
  fired_if true t u e = (refl, cc)
  fired_if false t u e = cc

  pub listed_at : (rs : List PlainRule) (n : ℕ) (r : PlainRule) → slice_get rs n ≡ Some r → Contains rs r
  listed_at [] n r e = cc
  listed_at (x ∷ rs) zero r e = (0, omega arith, (let q : x ≡ r = cc in q))
  listed_at (x ∷ rs) (suc n) r e = let h : Contains rs r = listed_at rs n r e in (suc h.0, omega arith, h.2)

  pub fired_sound : (number : ℕ) (met : List (Tree × Tree) → Bool) → ((cs : List (Tree × Tree)) → met cs ≡ true → JoinAll S cs) → IsSoundAt (fired S number met)
  fired_sound number met h t u e = from_and_then (ReducesTo S t u) (head_symbol t) _ u e (λ k ek g.
      from_and_then (ReducesTo S t u) (slice_get (rules_of S k) number) _ u g (λ r er g'.
      from_and_then (ReducesTo S t u) (all_matched 0 (patterns_of r.pats) (arguments t)) (fired_with met r) u g' (λ ps ep g''.
      let i : (met (to_join ps) ≡ true) × (instantiated (capture ps) 0 r.right ≡ u) = fired_if (met (to_join ps)) (instantiated (capture ps) 0 r.right) u g'' in
      let m : (n : ℕ) × AreMet S n (conditions ps) = all_met S (conditions ps) (joined_conditions ps (h (to_join ps) i.0)) in
      let a : AreInstances 0 r.pats (arguments t) ps = along (λ qs. AreInstances 0 qs (arguments t) ps) (listed r.pats) (all_matched_are 0 (patterns_of r.pats) (arguments t) ps ep) in
      along (λ x. ReducesTo S x u) (applied_arguments t k ek)
      (along (ReducesTo S (applied (symbol k) (arguments t))) i.1 (m.0, one_step (by_rule k r (arguments t) ps (listed_at (rules_of S k) number r er) a m.1) no_step)))))

  -- ---- steps

  pub same_if : (o q : Option Tree) → both_same o q ≡ true → (t : Tree) × (o ≡ Some t) × (q ≡ Some t)
  same_if (Some t) (Some u) e = (t, refl, ap Some (flip (equal_trees t u e)))
  same_if None q e = cc
  same_if (Some t) None e = cc

  pub and_true : (a b : Bool) → (a && b) ≡ true → (a ≡ true) × (b ≡ true)
  and_true true b e = (refl, e)
  and_true false b e = cc

  mutual
    pub step_sound : (x : ItemStep) (t u : Tree) → step_taken S x t ≡ Some u → ReducesTo S t u
    step_sound (beta_step p) t u e = place_sound contracted contracted_sound p t u e
    step_sound (rule_step p number js) t u e = place_sound (fired S number (all_joined S js)) (fired_sound number (all_joined S js) (λ cs h. joined_sound js cs h)) p t u e

    pub steps_sound : (xs : ItemSteps) (t u : Tree) → steps_taken S xs t ≡ Some u → ReducesTo S t u
    steps_sound no_steps t u e = let q : t ≡ u = cc in along (ReducesTo S t) q (reduces_itself S [] t)
    steps_sound (more_steps x xs) t u e = from_and_then (ReducesTo S t u) (step_taken S x t) (steps_taken S xs) u e (λ v a b. reduces_then S [] t v u (step_sound x t v a) (steps_sound xs v u b))

    pub joined_sound : (js : ItemJoins) (cs : List (Tree × Tree)) → all_joined S js cs ≡ true → JoinAll S cs
    joined_sound no_joins [] e = tt
    joined_sound no_joins (c ∷ cs) e = cc
    joined_sound (more_joins xs ys js) [] e = cc
    joined_sound (more_joins xs ys js) (c ∷ cs) e =
        let h : _ = and_true (both_same (steps_taken S xs c.0) (steps_taken S ys c.1)) (all_joined S js cs) e in
        let i : (t : Tree) × (steps_taken S xs c.0 ≡ Some t) × (steps_taken S ys c.1 ≡ Some t) = same_if (steps_taken S xs c.0) (steps_taken S ys c.1) h.0 in
        (joins S [] c.0 c.1 i.0 (steps_sound xs c.0 i.0 i.1) (steps_sound ys c.1 i.0 i.2), joined_sound js cs h.1)

  -- two terms that steps take to one term
  pub joined_is : (xs ys : ItemSteps) (t u : Tree) → both_same (steps_taken S xs t) (steps_taken S ys u) ≡ true → AreJoinable S t u
  joined_is xs ys t u e = let i : (v : Tree) × (steps_taken S xs t ≡ Some v) × (steps_taken S ys u ≡ Some v) = same_if (steps_taken S xs t) (steps_taken S ys u) e in
      joins S [] t u i.0 (steps_sound xs t i.0 i.1) (steps_sound ys u i.0 i.2)
