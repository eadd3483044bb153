-- What typing over one evaluation answers it answers over items, where each evaluation has its item.
use Rattle.std.specs.Prelude.{length, map, Bool, true, false, if◌then◌else◌, Result, Ok, Err}
use Rattle.std.proofs.Common.{List, [], ◌∷◌, ◌++◌, append_assoc, ℕ, ◌≡◌, Option, Some, None, refl, ap, ◌∙◌}
use Rattle.dk_model.specs.declared.code.Code.{Code}
use Rattle.dk_model.specs.declared.code.Code.TheVariants.{E20, E21, E22, E23, E24, E25, E34, E35}
use Rattle.dk_model.specs.Trees.{Tree, star, kind, symbol, variable, rule_variable, apply, bare, annotated, product}
use Rattle.dk_model.specs.Substitution.{shift, substitute}
use Rattle.dk_model.specs.Erasure.{erased}
use Rattle.dk_model.specs.Signatures.{Pattern, Patterns, no_patterns, more_patterns, rule_variable_pattern, wildcard_pattern, guard_pattern, symbol_pattern, variable_pattern, abstraction_pattern, PlainRule, PlainSignature}
use Rattle.dk_model.specs.Captures.{mentions_others, renamed}
use Rattle.dk_model.specs.Bindings.{Bindings, under}
use Rattle.dk_model.specs.TypingOver.{Evaluator, JudgedIn, answer, refused, ended, after, next, parts_of_product, a_sort, the_star, agreed, not_kind, symbol_type, variable_type, rule_variable_type, as_product, as_sort, as_star, as_convertible, against, application_type, product_type, abstraction_type, annotated_fits, inferred, checked, sort_of}
use Rattle.dk_model.specs.RuleTypingOver.{Guard, Found, Walked, found_type, with_type, with_wildcard, with_bindings, types_under, outermost_first, occurrence, guard_walked, patterns_of, allowed, confined, bound_type, first_type, later_type, first_typed, rule_variable_walked, wildcard_walked, as_expected, walked, spine_walked, notes_agree, guards_fit, sides_fit, left_walked, rule_checked, rules_typed}
use Rattle.dk_model.specs.CommandTypingOver.{body_checked, body_type, declaration_checked, rules_checked}

no_answer : {X : Type 0} (c : Code) (n m : X) (b : Unit {0}) → agreed c false n ≡ answer b m → ⊥
no_answer c n m b e = cc

abbrev paired : {X : Type 0} → Bool → X → Option (Bool × X)
paired b n = Some (b, n)

module _ {X Y : Type 0} where
  -- what the first answers, the second answers by spending some items
  abbrev pub Follows : {A : Type 0} → (X → JudgedIn X A) → (List Y → JudgedIn (List Y) A) → Type 0
  Follows {A} f g = (n m : X) (a : A) → f n ≡ answer a m → (ys : List Y) × ((rest : List Y) → g (ys ++ rest) ≡ answer a rest)

  -- the same of an evaluation
  abbrev pub Gives : {A : Type 0} → (X → Option (A × X)) → (List Y → Option (A × List Y)) → Type 0
  Gives {A} f g = (n m : X) (a : A) → f n ≡ Some (a, m) → (ys : List Y) × ((rest : List Y) → g (ys ++ rest) ≡ Some (a, rest))

  given : {A : Type 0} (a : A) → Follows (answer a) (answer a)
  given a n m b e = ([], λ rest. (let q : a ≡ b = cc in ap (λ x. answer x rest) q))

  never : {A : Type 0} (c : Code) → Follows {A = A} (refused c) (refused c)
  never c n m a e = cc

  next_follows : {A B : Type 0} (f : X → JudgedIn X A) (g : List Y → JudgedIn (List Y) A) (h : A → X → JudgedIn X B) (k : A → List Y → JudgedIn (List Y) B)
      → Follows f g → ((a : A) → Follows (h a) (k a)) → Follows (λ n. next (f n) h) (λ n. next (g n) k)
  next_follows {A} {B} f g h k i j n m b e = by_case (f n) refl e
    where
      by_case : (x : JudgedIn X A) → f n ≡ x → next x h ≡ answer b m → (ys : List Y) × ((rest : List Y) → next (g (ys ++ rest)) k ≡ answer b rest)
      by_case (answer a o) q e' =
          let u : (ys : List Y) × ((rest : List Y) → g (ys ++ rest) ≡ answer a rest) = i n o a q in
          let v : (ys : List Y) × ((rest : List Y) → k a (ys ++ rest) ≡ answer b rest) = j a o m b e' in
          (u.0 ++ v.0, λ rest. ap (λ z. next (g z) k) (append_assoc u.0 v.0 rest) ∙ ap (λ z. next z k) (u.1 (v.0 ++ rest)) ∙ v.1 rest)
      by_case (refused c o) q e' = cc
      by_case ended q e' = cc

  after_follows : {A B : Type 0} (f : X → Option (A × X)) (g : List Y → Option (A × List Y)) (h : A → X → JudgedIn X B) (k : A → List Y → JudgedIn (List Y) B)
      → Gives f g → ((a : A) → Follows (h a) (k a)) → Follows (λ n. after (f n) h) (λ n. after (g n) k)
  after_follows {A} {B} f g h k i j n m b e = by_case (f n) refl e
    where
      by_case : (x : Option (A × X)) → f n ≡ x → after x h ≡ answer b m → (ys : List Y) × ((rest : List Y) → after (g (ys ++ rest)) k ≡ answer b rest)
      by_case (Some p) q e' =
          let u : (ys : List Y) × ((rest : List Y) → g (ys ++ rest) ≡ Some (p.0, rest)) = i n p.1 p.0 q in
          let v : (ys : List Y) × ((rest : List Y) → k p.0 (ys ++ rest) ≡ answer b rest) = j p.0 p.1 m b e' in
          (u.0 ++ v.0, λ rest. ap (λ z. after (g z) k) (append_assoc u.0 v.0 rest) ∙ ap (λ z. after z k) (u.1 (v.0 ++ rest)) ∙ v.1 rest)
      by_case None q e' = cc

  -- what a comparison that says yes gives
  abbrev pub GivesYes : (X → Option (Bool × X)) → (List Y → Option (Bool × List Y)) → Type 0
  GivesYes f g = (n m : X) → f n ≡ Some (true, m) → (ys : List Y) × ((rest : List Y) → g (ys ++ rest) ≡ Some (true, rest))

  -- behind a comparison, of which nothing comes where it says no
  yes_follows : {B : Type 0} (f : X → Option (Bool × X)) (g : List Y → Option (Bool × List Y)) (h : Bool → X → JudgedIn X B) (k : Bool → List Y → JudgedIn (List Y) B)
      → GivesYes f g → Follows (h true) (k true) → ((n m : X) (b : B) → h false n ≡ answer b m → ⊥) → Follows (λ n. after (f n) h) (λ n. after (g n) k)
  yes_follows {B} f g h k i j z n m b e = by_case (f n) refl e
    where
      by_bool : (c : Bool) (o : X) → f n ≡ paired c o → h c o ≡ answer b m → (ys : List Y) × ((rest : List Y) → after (g (ys ++ rest)) k ≡ answer b rest)
      by_bool true o q e' =
          let u : (ys : List Y) × ((rest : List Y) → g (ys ++ rest) ≡ Some (true, rest)) = i n o q in
          let v : (ys : List Y) × ((rest : List Y) → k true (ys ++ rest) ≡ answer b rest) = j o m b e' in
          (u.0 ++ v.0, λ rest. ap (λ w. after (g w) k) (append_assoc u.0 v.0 rest) ∙ ap (λ w. after w k) (u.1 (v.0 ++ rest)) ∙ v.1 rest)
      by_bool false o q e' = absurd (z o m b e')

      by_case : (x : Option (Bool × X)) → f n ≡ x → after x h ≡ answer b m → (ys : List Y) × ((rest : List Y) → after (g (ys ++ rest)) k ≡ answer b rest)
      by_case (Some p) q e' = by_bool p.0 p.1 q e'
      by_case None q e' = cc

  -- ---- tests

  parts_follow : (c : Code) (t : Tree) → Follows (parts_of_product c t) (parts_of_product c t)
  parts_follow c (product a b) = given (a, b)
  parts_follow c star = never c
  parts_follow c kind = never c
  parts_follow c (symbol k) = never c
  parts_follow c (variable k) = never c
  parts_follow c (rule_variable k) = never c
  parts_follow c (apply f a) = never c
  parts_follow c (bare b) = never c
  parts_follow c (annotated n b) = never c

  sort_follows : (t : Tree) → Follows (a_sort t) (a_sort t)
  sort_follows star = given star
  sort_follows kind = given kind
  sort_follows (symbol k) = never E22
  sort_follows (variable k) = never E22
  sort_follows (rule_variable k) = never E22
  sort_follows (apply f a) = never E22
  sort_follows (bare b) = never E22
  sort_follows (annotated n b) = never E22
  sort_follows (product a b) = never E22

  star_follows : (t : Tree) → Follows (the_star t) (the_star t)
  star_follows star = given tt
  star_follows kind = never E22
  star_follows (symbol k) = never E22
  star_follows (variable k) = never E22
  star_follows (rule_variable k) = never E22
  star_follows (apply f a) = never E22
  star_follows (bare b) = never E22
  star_follows (annotated n b) = never E22
  star_follows (product a b) = never E22

  not_kind_follows : (t : Tree) → Follows (not_kind t) (not_kind t)
  not_kind_follows kind = never E25
  not_kind_follows star = given star
  not_kind_follows (symbol k) = given (symbol k)
  not_kind_follows (variable k) = given (variable k)
  not_kind_follows (rule_variable k) = given (rule_variable k)
  not_kind_follows (apply f a) = given (apply f a)
  not_kind_follows (bare b) = given (bare b)
  not_kind_follows (annotated n b) = given (annotated n b)
  not_kind_follows (product a b) = given (product a b)

  allowed_if : (t : Tree) (b : Bool) → Follows (λ n. if b then refused E35 n else answer t n) (λ n. if b then refused E35 n else answer t n)
  allowed_if t true = never E35
  allowed_if t false = given t

  -- the second has an item for each evaluation of the first
  pub record Followed (O : Evaluator X) (P : Evaluator (List Y)) : Type 0 where
    pub whnf : (t : Tree) → Gives (λ n. O.whnf n t) (λ n. P.whnf n t)
    pub same : (t u : Tree) → GivesYes (λ n. O.same n t u) (λ n. P.same n t u)
    pub normal : (t : Tree) → Gives (λ n. O.normal n t) (λ n. P.normal n t)
    pub solve : (s : Bindings) (t u : Tree) → Follows (λ n. O.solve n s t u) (λ n. P.solve n s t u)

  module _ (O : Evaluator X) (P : Evaluator (List Y)) (F : Followed O P) (S : PlainSignature) where
    product_follows : (c : Code) (T : Tree) → Follows (as_product O c T) (as_product P c T)
    product_follows c T = after_follows (λ n. O.whnf n T) (λ n. P.whnf n T) (parts_of_product c) (parts_of_product c) (F.whnf T) (parts_follow c)

    as_sort_follows : (T : Tree) → Follows (as_sort O T) (as_sort P T)
    as_sort_follows T = after_follows (λ n. O.whnf n T) (λ n. P.whnf n T) a_sort a_sort (F.whnf T) sort_follows

    as_star_follows : (T : Tree) → Follows (as_star O T) (as_star P T)
    as_star_follows T = after_follows (λ n. O.whnf n T) (λ n. P.whnf n T) the_star the_star (F.whnf T) star_follows

    convertible_follows : (c : Code) (T U : Tree) → Follows (as_convertible O c T U) (as_convertible P c T U)
    convertible_follows c T U = yes_follows (λ n. O.same n T U) (λ n. P.same n T U) (agreed c) (agreed c) (F.same T U) (given tt) (no_answer c)

    against_follows : (T : Tree) (f : X → JudgedIn X Tree) (g : List Y → JudgedIn (List Y) Tree) → Follows f g → Follows (λ n. against O T (f n)) (λ n. against P T (g n))
    against_follows T f g h = next_follows f g (λ U n. as_convertible O E21 U T n) (λ U n. as_convertible P E21 U T n) h (λ U. convertible_follows E21 U T)

    application_follows : (f : Tree → X → JudgedIn X (Unit {0})) (g : Tree → List Y → JudgedIn (List Y) (Unit {0})) → ((A : Tree) → Follows (f A) (g A)) → (a T : Tree)
        → Follows (application_type O f a T) (application_type P g a T)
    application_follows f g h a T = next_follows (as_product O E20 T) (as_product P E20 T) _ _ (product_follows E20 T) (λ p.
        next_follows (f p.0) (g p.0) _ _ (h p.0) (λ u. given (substitute 0 (erased a) p.1)))

    product_type_follows : (f : X → JudgedIn X Tree) (g : List Y → JudgedIn (List Y) Tree) → Follows f g → (T : Tree) → Follows (product_type O f T) (product_type P g T)
    product_type_follows f g h T = next_follows (as_star O T) (as_star P T) _ _ (as_star_follows T) (λ u. next_follows f g (as_sort O) (as_sort P) h as_sort_follows)

    abstraction_follows : (f : X → JudgedIn X Tree) (g : List Y → JudgedIn (List Y) Tree) → Follows f g → (d T : Tree) → Follows (abstraction_type O f d T) (abstraction_type P g d T)
    abstraction_follows f g h d T = next_follows (as_star O T) (as_star P T) _ _ (as_star_follows T) (λ u.
        next_follows f g _ _ h (λ B. next_follows (not_kind B) (not_kind B) _ _ (not_kind_follows B) (λ C. given (product (erased d) C))))

    annotated_follows : (f : X → JudgedIn X (Unit {0})) (g : List Y → JudgedIn (List Y) (Unit {0})) → Follows f g → (d A T : Tree) → Follows (annotated_fits O f d A T) (annotated_fits P g d A T)
    annotated_follows f g h d A T = next_follows (as_star O T) (as_star P T) _ _ (as_star_follows T) (λ u.
        next_follows (as_convertible O E21 (erased d) A) (as_convertible P E21 (erased d) A) _ _ (convertible_follows E21 (erased d) A) (λ v. h))

    module _ (V : List Tree) where
      mutual
        inferred_follows : (G : List Tree) (t : Tree) → Follows (inferred O S V G t) (inferred P S V G t)
        inferred_follows G star = given kind
        inferred_follows G kind = never E22
        inferred_follows G (symbol k) = given (symbol_type S k)
        inferred_follows G (variable k) = given (variable_type G k)
        inferred_follows G (rule_variable k) = given (shift 0 (length G) (rule_variable_type V k))
        inferred_follows G (apply f a) = next_follows (inferred O S V G f) (inferred P S V G f) _ _ (inferred_follows G f)
            (application_follows (checked O S V G a) (checked P S V G a) (checked_follows G a) a)
        inferred_follows G (bare b) = never E23
        inferred_follows G (annotated d b) = next_follows (inferred O S V G d) (inferred P S V G d) _ _ (inferred_follows G d)
            (abstraction_follows (inferred O S V (erased d ∷ G) b) (inferred P S V (erased d ∷ G) b) (inferred_follows (erased d ∷ G) b) d)
        inferred_follows G (product d b) = next_follows (inferred O S V G d) (inferred P S V G d) _ _ (inferred_follows G d)
            (product_type_follows (inferred O S V (erased d ∷ G) b) (inferred P S V (erased d ∷ G) b) (inferred_follows (erased d ∷ G) b))

        checked_follows : (G : List Tree) (t T : Tree) → Follows (checked O S V G t T) (checked P S V G t T)
        checked_follows G (bare b) T = next_follows (as_product O E24 T) (as_product P E24 T) _ _ (product_follows E24 T) (λ p. checked_follows (p.0 ∷ G) b p.1)
        checked_follows G (annotated d b) T = next_follows (as_product O E24 T) (as_product P E24 T) _ _ (product_follows E24 T) (λ p.
            next_follows (inferred O S V G d) (inferred P S V G d) _ _ (inferred_follows G d)
            (annotated_follows (checked O S V (p.0 ∷ G) b p.1) (checked P S V (p.0 ∷ G) b p.1) (checked_follows (p.0 ∷ G) b p.1) d p.0))
        checked_follows G (apply f a) T = against_follows T (λ n. next (inferred O S V G f n) (application_type O (checked O S V G a) a))
            (λ n. next (inferred P S V G f n) (application_type P (checked P S V G a) a))
            (next_follows (inferred O S V G f) (inferred P S V G f) (application_type O (checked O S V G a) a) (application_type P (checked P S V G a) a) (inferred_follows G f)
            (application_follows (checked O S V G a) (checked P S V G a) (checked_follows G a) a))
        checked_follows G (product d b) T = against_follows T (λ n. next (inferred O S V G d n) (product_type O (inferred O S V (erased d ∷ G) b)))
            (λ n. next (inferred P S V G d n) (product_type P (inferred P S V (erased d ∷ G) b)))
            (next_follows (inferred O S V G d) (inferred P S V G d) (product_type O (inferred O S V (erased d ∷ G) b)) (product_type P (inferred P S V (erased d ∷ G) b)) (inferred_follows G d)
            (product_type_follows (inferred O S V (erased d ∷ G) b) (inferred P S V (erased d ∷ G) b) (inferred_follows (erased d ∷ G) b)))
        checked_follows G star T = against_follows T (answer kind) (answer kind) (given kind)
        checked_follows G kind T = never E22
        checked_follows G (symbol k) T = against_follows T (answer (symbol_type S k)) (answer (symbol_type S k)) (given (symbol_type S k))
        checked_follows G (variable k) T = against_follows T (answer (variable_type G k)) (answer (variable_type G k)) (given (variable_type G k))
        checked_follows G (rule_variable k) T = against_follows T (answer (shift 0 (length G) (rule_variable_type V k))) (answer (shift 0 (length G) (rule_variable_type V k))) (given (shift 0 (length G) (rule_variable_type V k)))

    -- ---- rules

    confined_if : (d : ℕ) (xs : List ℕ) (T : Tree) (b : Bool)
        → Follows (λ n. if b then after (O.normal n T) (allowed d xs) else answer T n) (λ n. if b then after (P.normal n T) (allowed d xs) else answer T n)
    confined_if d xs T true = after_follows (λ n. O.normal n T) (λ n. P.normal n T) (allowed d xs) (allowed d xs) (F.normal T) (λ U. allowed_if U (mentions_others 0 d xs U))
    confined_if d xs T false = given T

    confined_follows : (d : ℕ) (xs : List ℕ) (T : Tree) → Follows (confined O d xs T) (confined P d xs T)
    confined_follows d xs T = confined_if d xs T (mentions_others 0 d xs T)

    bound_follows : (G : List Tree) (xs : List ℕ) (T : Tree) → Follows (bound_type O G xs T) (bound_type P G xs T)
    bound_follows G xs T = next_follows (confined O (length G) xs T) (confined P (length G) xs T) _ _ (confined_follows (length G) xs T) (λ U. given (renamed 0 (length G) xs U))

    first_follows : (G : List Tree) (before xs : List ℕ) (A : Tree) → Follows (first_type O G before xs A) (first_type P G before xs A)
    first_follows G before [] A = bound_follows G before A
    first_follows G before (x ∷ xs) A = next_follows (bound_type O G before (variable_type G x)) (bound_type P G before (variable_type G x)) _ _ (bound_follows G before (variable_type G x)) (λ D.
        next_follows (first_type O G (before ++ (x ∷ [])) xs A) (first_type P G (before ++ (x ∷ [])) xs A) _ _ (first_follows G (before ++ (x ∷ [])) xs A) (λ B. given (product D B)))

    later_follows : (G : List Tree) (xs : List ℕ) (T : Tree) (s : Bindings) → Follows (later_type O G xs T s) (later_type P G xs T s)
    later_follows G [] T s = given (record { typ = T; bindings = s })
    later_follows G (x ∷ xs) T s = next_follows (as_product O E34 (under s T)) (as_product P E34 (under s T)) _ _ (product_follows E34 (under s T)) (λ p.
        next_follows (λ n. O.solve n s (variable_type G x) p.0) (λ n. P.solve n s (variable_type G x) p.0) _ _ (F.solve s (variable_type G x) p.0) (λ r. later_follows G xs (substitute 0 (variable x) p.1) r))

    rule_variable_follows : (G : List Tree) (k : ℕ) (xs : List ℕ) (o : Option Tree) (A : Tree) (w : Found) → Follows (rule_variable_walked O G k xs o A w) (rule_variable_walked P G k xs o A w)
    rule_variable_follows G k xs None A w = next_follows (first_typed O w.bindings G xs A) (first_typed P w.bindings G xs A) _ _ (first_follows (map (under w.bindings) G) [] xs (under w.bindings A))
        (λ T. given (record { term = occurrence k xs; typ = A; found = with_type w k T }))
    rule_variable_follows G k xs (Some T) A w = next_follows (later_type O G xs (shift 0 (length G) T) w.bindings) (later_type P G xs (shift 0 (length G) T) w.bindings) _ _ (later_follows G xs (shift 0 (length G) T) w.bindings) (λ U.
        next_follows (λ n. O.solve n U.bindings U.typ A) (λ n. P.solve n U.bindings U.typ A) _ _ (F.solve U.bindings U.typ A) (λ s. given (record { term = occurrence k xs; typ = A; found = with_bindings w s })))

    wildcard_follows : (G : List Tree) (A : Tree) (w : Found) → Follows (wildcard_walked O G A w) (wildcard_walked P G A w)
    wildcard_follows G A w = next_follows (first_typed O w.bindings G (outermost_first (length G)) A) (first_typed P w.bindings G (outermost_first (length G)) A) _ _
        (first_follows (map (under w.bindings) G) [] (outermost_first (length G)) (under w.bindings A)) (λ T. given (record { term = occurrence (length w.types) (outermost_first (length G)); typ = A; found = with_wildcard w T }))

    expected_follows : (A : Tree) (w : Walked) → Follows (as_expected O A w) (as_expected P A w)
    expected_follows A w = next_follows (λ n. O.solve n w.found.bindings w.typ A) (λ n. P.solve n w.found.bindings w.typ A) _ _ (F.solve w.found.bindings w.typ A) (λ s. given (record { term = w.term; typ = A; found = with_bindings w.found s }))

    mutual
      walked_follows : (G : List Tree) (p : Pattern) (A : Tree) (w : Found) → Follows (walked O S G p A w) (walked P S G p A w)
      walked_follows G (rule_variable_pattern k xs) A w = rule_variable_follows G k xs (found_type w.types k) A w
      walked_follows G wildcard_pattern A w = wildcard_follows G A w
      walked_follows G (guard_pattern t) A w = given (guard_walked G t A w)
      walked_follows G (symbol_pattern k ps) A w = next_follows (spine_walked O S G (symbol k) (symbol_type S k) ps w) (spine_walked P S G (symbol k) (symbol_type S k) ps w) _ _ (spine_follows G (symbol k) (symbol_type S k) ps w) (expected_follows A)
      walked_follows G (variable_pattern k ps) A w = next_follows (spine_walked O S G (variable k) (variable_type G k) ps w) (spine_walked P S G (variable k) (variable_type G k) ps w) _ _ (spine_follows G (variable k) (variable_type G k) ps w) (expected_follows A)
      walked_follows G (abstraction_pattern p) A w = next_follows (as_product O E34 (under w.bindings A)) (as_product P E34 (under w.bindings A)) _ _ (product_follows E34 (under w.bindings A)) (λ q.
          next_follows (walked O S (q.0 ∷ G) p q.1 w) (walked P S (q.0 ∷ G) p q.1 w) _ _ (walked_follows (q.0 ∷ G) p q.1 w) (λ b. given (record { term = bare b.term; typ = A; found = b.found })))

      spine_follows : (G : List Tree) (t T : Tree) (ps : Patterns) (w : Found) → Follows (spine_walked O S G t T ps w) (spine_walked P S G t T ps w)
      spine_follows G t T no_patterns w = given (record { term = t; typ = T; found = w })
      spine_follows G t T (more_patterns p ps) w = next_follows (as_product O E34 (under w.bindings T)) (as_product P E34 (under w.bindings T)) _ _ (product_follows E34 (under w.bindings T)) (λ q.
          next_follows (walked O S G p q.0 w) (walked P S G p q.0 w) _ _ (walked_follows G p q.0 w) (λ a. spine_follows G (apply t a.term) (substitute 0 a.term q.1) ps a.found))

    notes_follow : (s : Bindings) (notes types : List (Option Tree)) → Follows (notes_agree O s notes types) (notes_agree P s notes types)
    notes_follow s [] types = given tt
    notes_follow s (None ∷ notes) [] = given tt
    notes_follow s (Some a ∷ notes) [] = given tt
    notes_follow s (None ∷ notes) (o ∷ types) = notes_follow s notes types
    notes_follow s (Some a ∷ notes) (None ∷ types) = notes_follow s notes types
    notes_follow s (Some a ∷ notes) (Some T ∷ types) = next_follows (as_convertible O E34 (under s (erased a)) (under s T)) (as_convertible P E34 (under s (erased a)) (under s T)) _ _ (convertible_follows E34 (under s (erased a)) (under s T)) (λ u. notes_follow s notes types)

    guards_follow : (s : Bindings) (V : List Tree) (gs : List Guard) → Follows (guards_fit O S s V gs) (guards_fit P S s V gs)
    guards_follow s V [] = given tt
    guards_follow s V (g ∷ gs) = next_follows (checked O S V (map (under s) g.context) (under s g.term) (under s g.typ)) (checked P S V (map (under s) g.context) (under s g.term) (under s g.typ)) _ _
        (checked_follows V (map (under s) g.context) (under s g.term) (under s g.typ)) (λ u. guards_follow s V gs)

    sides_follow : (notes : List (Option Tree)) (right : Tree) (w : Walked) → Follows (sides_fit O S notes right w) (sides_fit P S notes right w)
    sides_follow notes right w = let s : Bindings = w.found.bindings in let V : List Tree = types_under s w.found.types in
        next_follows (notes_agree O s notes w.found.types) (notes_agree P s notes w.found.types) _ _ (notes_follow s notes w.found.types) (λ u.
        next_follows (guards_fit O S s V w.found.guards) (guards_fit P S s V w.found.guards) _ _ (guards_follow s V w.found.guards) (λ v. checked_follows V [] (under s right) (under s w.typ)))

    rule_follows : (r : PlainRule) → Follows (rule_checked O S r) (rule_checked P S r)
    rule_follows r = next_follows (left_walked O S r) (left_walked P S r) _ _ (spine_follows [] (symbol r.head) (symbol_type S r.head) (patterns_of r.pats) _) (sides_follow r.notes r.right)

    rules_follow : (rs : List PlainRule) → Follows (rules_typed O S rs) (rules_typed P S rs)
    rules_follow [] = given tt
    rules_follow (r ∷ rs) = next_follows (rule_checked O S r) (rule_checked P S r) _ _ (rule_follows r) (λ u. rules_follow rs)

    -- ---- commands

    body_follows : (A : Tree) (b : Option Tree) → Follows (body_checked O S A b) (body_checked P S A b)
    body_follows A None = given tt
    body_follows A (Some b) = checked_follows [] [] b (erased A)

    -- the type of a definition without one is the same
    pub body_type_follows : (b : Tree) → Follows (body_type O S b) (body_type P S b)
    body_type_follows b = next_follows (inferred O S [] [] b) (inferred P S [] [] b) not_kind not_kind (inferred_follows [] [] b) not_kind_follows

    pub declaration_follows : (A b : Option Tree) → Follows (declaration_checked O S A b) (declaration_checked P S A b)
    declaration_follows (Some A) b = next_follows (sort_of O S [] [] A) (sort_of P S [] [] A) _ _
        (next_follows (inferred O S [] [] A) (inferred P S [] [] A) _ _ (inferred_follows [] [] A) as_sort_follows) (λ s. body_follows A b)
    declaration_follows None (Some b) = next_follows (body_type O S b) (body_type P S b) _ _ (body_type_follows b) (λ T. given tt)
    declaration_follows None None = given tt

    pub shaped_follow : (o : Result (List PlainRule) Code) → Follows (rules_checked O S o) (rules_checked P S o)
    shaped_follow (Ok rs) = rules_follow rs
    shaped_follow (Err c) = never c
