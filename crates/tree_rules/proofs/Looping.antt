-- Loops over patterns, annotations, guards and rules: what is due of those that are left is what was due of all.
use Rattle.std.proofs.Common.{ℕ, List, [], ◌∷◌, Option, Some, None, ◌≡◌, ◌≤◌, ◌<◌, ◌+◌, refl, map, ap, ◌∙◌, sym as flip, subst, arith}
use Rattle.dk_model.specs.Trees.{Tree}
use Rattle.dk_model.specs.Signatures.{maybe_tree, pattern, plain_rule, PlainSignature}
use Rattle.dk_model.specs.Bindings.{Bindings}
use Rattle.dk_model.specs.TypingOver.{Evaluator, JudgedIn, answer, next}
use Rattle.dk_model.specs.RuleTypingOver.{Walked, notes_agree, guards_fit, rule_checked, rules_typed}
use Rattle.dk_model.specs.declared.term.Term.{Term}
use Rattle.dk_model.specs.declared.signature.Pat.{Pat}
use Rattle.dk_model.specs.declared.signature.Rule.{Rule}
use Rattle.dk_model.specs.declared.stop.TypeFault.{TypeFault}
use Rattle.tree_typing.specs.Given.{Fails}
use Rattle.tree_rules.specs.declared.found.Guard.{Guard}
use Rattle.tree_rules.specs.Founds.{guard_of}
use Rattle.tree_rules.specs.Sides.{note_agrees, guard_fits}
use Rattle.tree_rules.specs.Walks.{spine_due, argument_due}
use Rattle.tree_rules.proofs.Sizes.{pattern_size, patterns_size, plain_patterns}
use Rattle.tree_rules.proofs.Steps.{fails_is, fails_next, spine_by_argument}

module _ {X A B : Type 0} (D : JudgedIn X B) (x : JudgedIn X A) (g : A → X → JudgedIn X B) (s : next x g ≡ D) where
  first_fails : (f : TypeFault) (l : X) → Fails f x l → Fails f D l
  first_fails f l q = fails_is f D (next x g) l (flip s) (fails_next f x g l q)

  first_given : (a : A) (m : X) → x ≡ answer a m → g a m ≡ D
  first_given a m q = flip (ap (λ y. next y g) q) ∙ s

module _ {X : Type 0} (E : Evaluator X) (S : PlainSignature) where
  -- patterns
  module _ (G : List Tree) (D : JudgedIn X Walked) (h : Walked) (rest behind : List (Pat Term)) (p : Pat Term) (n : X) (e : rest ≡ p ∷ behind) (s : spine_due E S G h (plain_patterns rest) n ≡ D) where
    spine_left : next (argument_due E S G h (pattern p) n) (λ a i. spine_due E S G a (plain_patterns behind) i) ≡ D
    spine_left = flip (ap (λ ps. spine_due E S G h (plain_patterns ps) n) e ∙ spine_by_argument E S G h (pattern p) (plain_patterns behind) n) ∙ s

    pub pattern_fails : (f : TypeFault) (l : X) → Fails f (argument_due E S G h (pattern p) n) l → Fails f D l
    pattern_fails = first_fails D (argument_due E S G h (pattern p) n) (λ a i. spine_due E S G a (plain_patterns behind) i) spine_left

    pub pattern_given : (a : Walked) (m : X) → argument_due E S G h (pattern p) n ≡ answer a m → spine_due E S G a (plain_patterns behind) m ≡ D
    pattern_given = first_given D (argument_due E S G h (pattern p) n) (λ a i. spine_due E S G a (plain_patterns behind) i) spine_left

  -- guards
  module _ (b : Bindings) (V : List Tree) (D : JudgedIn X (Unit {0})) (rest behind : List Guard) (q : Guard) (n : X) (e : rest ≡ q ∷ behind) (s : guards_fit E S b V (map guard_of rest) n ≡ D) where
    guards_left : next (guard_fits E S b V (guard_of q) n) (λ u m. guards_fit E S b V (map guard_of behind) m) ≡ D
    guards_left = flip (ap (λ gs. guards_fit E S b V (map guard_of gs) n) e) ∙ s

    pub guard_fails : (f : TypeFault) (l : X) → Fails f (guard_fits E S b V (guard_of q) n) l → Fails f D l
    guard_fails = first_fails D (guard_fits E S b V (guard_of q) n) (λ u m. guards_fit E S b V (map guard_of behind) m) guards_left

    pub guard_given : (u : Unit {0}) (m : X) → guard_fits E S b V (guard_of q) n ≡ answer u m → guards_fit E S b V (map guard_of behind) m ≡ D
    guard_given = first_given D (guard_fits E S b V (guard_of q) n) (λ u m. guards_fit E S b V (map guard_of behind) m) guards_left

  -- rules
  module _ (D : JudgedIn X (Unit {0})) (rest behind : List (Rule Term)) (r : Rule Term) (n : X) (e : rest ≡ r ∷ behind) (s : rules_typed E S (map plain_rule rest) n ≡ D) where
    rules_left : next (rule_checked E S (plain_rule r) n) (λ u m. rules_typed E S (map plain_rule behind) m) ≡ D
    rules_left = flip (ap (λ rs. rules_typed E S (map plain_rule rs) n) e) ∙ s

    pub rule_fails : (f : TypeFault) (l : X) → Fails f (rule_checked E S (plain_rule r) n) l → Fails f D l
    rule_fails = first_fails D (rule_checked E S (plain_rule r) n) (λ u m. rules_typed E S (map plain_rule behind) m) rules_left

    pub rule_given : (u : Unit {0}) (m : X) → rule_checked E S (plain_rule r) n ≡ answer u m → rules_typed E S (map plain_rule behind) m ≡ D
    rule_given = first_given D (rule_checked E S (plain_rule r) n) (λ u m. rules_typed E S (map plain_rule behind) m) rules_left

module _ {X : Type 0} (E : Evaluator X) where
  notes_by_note : (b : Bindings) (a T : Option Tree) (notes types : List (Option Tree)) (n : X)
      → notes_agree E b (a ∷ notes) (T ∷ types) n ≡ next (note_agrees E b a T n) (λ u m. notes_agree E b notes types m)
  notes_by_note b (Some a) (Some T) notes types n = refl
  notes_by_note b (Some a) None notes types n = refl
  notes_by_note b None T notes types n = refl

  module _ (b : Bindings) (D : JudgedIn X (Unit {0})) (notes notes_behind types types_behind : List (Option Term)) (a T : Option Term) (n : X)
      (e : notes ≡ a ∷ notes_behind) (f : types ≡ T ∷ types_behind) (s : notes_agree E b (map maybe_tree notes) (map maybe_tree types) n ≡ D) where
    notes_left : next (note_agrees E b (maybe_tree a) (maybe_tree T) n) (λ u m. notes_agree E b (map maybe_tree notes_behind) (map maybe_tree types_behind) m) ≡ D
    notes_left = flip (notes_by_note b (maybe_tree a) (maybe_tree T) (map maybe_tree notes_behind) (map maybe_tree types_behind) n)
        ∙ flip (ap (λ ns. notes_agree E b (map maybe_tree ns) (map maybe_tree types) n) e ∙ ap (λ ts. notes_agree E b (map maybe_tree (a ∷ notes_behind)) (map maybe_tree ts) n) f) ∙ s

    pub note_fails : (g : TypeFault) (l : X) → Fails g (note_agrees E b (maybe_tree a) (maybe_tree T) n) l → Fails g D l
    note_fails = first_fails D (note_agrees E b (maybe_tree a) (maybe_tree T) n) (λ u m. notes_agree E b (map maybe_tree notes_behind) (map maybe_tree types_behind) m) notes_left

    pub note_given : (u : Unit {0}) (m : X) → note_agrees E b (maybe_tree a) (maybe_tree T) n ≡ answer u m → notes_agree E b (map maybe_tree notes_behind) (map maybe_tree types_behind) m ≡ D
    note_given = first_given D (note_agrees E b (maybe_tree a) (maybe_tree T) n) (λ u m. notes_agree E b (map maybe_tree notes_behind) (map maybe_tree types_behind) m) notes_left

-- sizes, by which a walk ends

module _ (rest behind : List (Pat Term)) (p : Pat Term) (n : ℕ) (e : rest ≡ p ∷ behind) (h : patterns_size (plain_patterns rest) ≤ n) where
  within : pattern_size (pattern p) + patterns_size (plain_patterns behind) + 1 ≤ n
  within = subst (λ ps. patterns_size (plain_patterns ps) ≤ n) e h

  pub pattern_within : pattern_size (pattern p) < n
  pattern_within = let q = within in omega (arith, q)

  pub behind_within : patterns_size (plain_patterns behind) ≤ n
  behind_within = let q = within in omega (arith, q)
