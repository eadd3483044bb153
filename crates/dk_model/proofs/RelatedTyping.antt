-- What holds of each evaluation holds of typing over it: one induction over typing for everything that is said of two
-- evaluations side by side, as that the same units are taken whatever is given, or that items follow units. What is said is
-- a relation of computations that answers, refusals and going on respect.
use Rattle.std.specs.Prelude.{length, map}
use Rattle.std.proofs.Common.{List, [], ◌∷◌, ◌++◌, ℕ, Bool, true, false, Option, Some, None, Result, Ok, Err, if◌then◌else◌}
use Rattle.dk_model.specs.Trees.{Tree, star, kind, symbol, variable, rule_variable, apply, bare, annotated, product}
use Rattle.dk_model.specs.Substitution.{shift, substitute}
use Rattle.dk_model.specs.Erasure.{erased}
use Rattle.dk_model.specs.Signatures.{Pattern, Patterns, no_patterns, more_patterns, rule_variable_pattern, wildcard_pattern, guard_pattern, symbol_pattern, variable_pattern, abstraction_pattern, PlainRule, PlainSignature}
use Rattle.dk_model.specs.Shapes.{shapes_of}
use Rattle.dk_model.specs.Scoping.{PlainAsked, typed, alike, type_of, value_of, PlainFound, yes, of_type, value, PlainCommand, declare, rule_command, query}
use Rattle.dk_model.specs.Captures.{mentions_others, renamed}
use Rattle.dk_model.specs.Bindings.{Bindings, under}
use Rattle.dk_model.specs.TypingOver.{Evaluator, JudgedIn, answer, refused, ended, after, next, symbol_type, variable_type, rule_variable_type, parts_of_product, a_sort, the_star, agreed, not_kind, as_product, as_sort, as_star, as_convertible, against, application_type, product_type, abstraction_type, annotated_fits, inferred, checked, sort_of}
use Rattle.dk_model.specs.RuleTypingOver.{Guard, Found, Walked, Posed, found_type, outermost_first, occurrence, with_type, with_wildcard, with_bindings, guard_walked, allowed, confined, bound_type, first_type, first_typed, later_type, rule_variable_walked, wildcard_walked, as_expected, walked, spine_walked, types_under, notes_agree, guards_fit, sides_fit, left_walked, rule_checked, rules_typed}
use Rattle.dk_model.specs.CommandTypingOver.{body_checked, body_type, declaration_checked, rules_checked, compared, evaluated, asked_found, query_found, command_checked}
use Rattle.dk_model.specs.declared.code.Code.{Code}
use Rattle.dk_model.specs.declared.code.Code.TheVariants.{E20, E21, E22, E23, E24, E25, E34, E35}

-- a relation of computations, over what the one and what the other spends, that typing respects where these are its evaluations
pub record IsRespected {X Y : Type 0} (Q : (A : Type 0) → (X → JudgedIn X A) → (Y → JudgedIn Y A) → Type 0) (E : Evaluator X) (E' : Evaluator Y) : Type 1 where
  pub answers : (A : Type 0) (a : A) → Q A (λ n. answer a n) (λ n. answer a n)
  pub refuses : (A : Type 0) (c : Code) → Q A (λ n. refused c n) (λ n. refused c n)
  pub goes_on : (A B : Type 0) (f : X → JudgedIn X A) (g : Y → JudgedIn Y A) (h : A → X → JudgedIn X B) (k : A → Y → JudgedIn Y B)
      → Q A f g → ((a : A) → Q B (h a) (k a)) → Q B (λ n. next (f n) h) (λ n. next (g n) k)
  pub whnf : (B : Type 0) (t : Tree) (h : Tree → X → JudgedIn X B) (k : Tree → Y → JudgedIn Y B) → ((u : Tree) → Q B (h u) (k u))
      → Q B (λ n. after (E.whnf n t) h) (λ n. after (E'.whnf n t) k)
  pub normal : (B : Type 0) (t : Tree) (h : Tree → X → JudgedIn X B) (k : Tree → Y → JudgedIn Y B) → ((u : Tree) → Q B (h u) (k u))
      → Q B (λ n. after (E.normal n t) h) (λ n. after (E'.normal n t) k)
  pub same : (c : Code) (t u : Tree) → Q (Unit {0}) (λ n. after (E.same n t u) (agreed c)) (λ n. after (E'.same n t u) (agreed c))

module _ {X Y : Type 0} (Q : (A : Type 0) → (X → JudgedIn X A) → (Y → JudgedIn Y A) → Type 0) (E : Evaluator X) (E' : Evaluator Y) (R : IsRespected Q E E') where
  answer_related : {A : Type 0} (a : A) → Q A (λ n. answer a n) (λ n. answer a n)
  answer_related {A} a = R.answers A a

  refused_related : {A : Type 0} (c : Code) → Q A (λ n. refused c n) (λ n. refused c n)
  refused_related {A} c = R.refuses A c

  next_related : {A B : Type 0} {f : X → JudgedIn X A} {g : Y → JudgedIn Y A} {h : A → X → JudgedIn X B} {k : A → Y → JudgedIn Y B}
      → Q A f g → ((a : A) → Q B (h a) (k a)) → Q B (λ n. next (f n) h) (λ n. next (g n) k)
  next_related {A} {B} {f} {g} {h} {k} x y = R.goes_on A B f g h k x y

  if_related : {A : Type 0} (b : Bool) {f f' : X → JudgedIn X A} {g g' : Y → JudgedIn Y A} → Q A f g → Q A f' g' → Q A (λ n. if b then f n else f' n) (λ n. if b then g n else g' n)
  if_related true x y = x
  if_related false x y = y

  product_related : (c : Code) (t : Tree) → Q (Tree × Tree) (parts_of_product c t) (parts_of_product c t)
  product_related c star = refused_related c
  product_related c kind = refused_related c
  product_related c (symbol k) = refused_related c
  product_related c (variable k) = refused_related c
  product_related c (rule_variable k) = refused_related c
  product_related c (apply f a) = refused_related c
  product_related c (bare b) = refused_related c
  product_related c (annotated d b) = refused_related c
  product_related c (product a b) = answer_related (a, b)

  sort_related : (t : Tree) → Q Tree (a_sort t) (a_sort t)
  sort_related star = answer_related star
  sort_related kind = answer_related kind
  sort_related (symbol k) = refused_related E22
  sort_related (variable k) = refused_related E22
  sort_related (rule_variable k) = refused_related E22
  sort_related (apply f a) = refused_related E22
  sort_related (bare b) = refused_related E22
  sort_related (annotated d b) = refused_related E22
  sort_related (product a b) = refused_related E22

  star_related : (t : Tree) → Q (Unit {0}) (the_star t) (the_star t)
  star_related star = answer_related tt
  star_related kind = refused_related E22
  star_related (symbol k) = refused_related E22
  star_related (variable k) = refused_related E22
  star_related (rule_variable k) = refused_related E22
  star_related (apply f a) = refused_related E22
  star_related (bare b) = refused_related E22
  star_related (annotated d b) = refused_related E22
  star_related (product a b) = refused_related E22

  not_kind_related : (t : Tree) → Q Tree (not_kind t) (not_kind t)
  not_kind_related star = answer_related star
  not_kind_related kind = refused_related E25
  not_kind_related (symbol k) = answer_related (symbol k)
  not_kind_related (variable k) = answer_related (variable k)
  not_kind_related (rule_variable k) = answer_related (rule_variable k)
  not_kind_related (apply f a) = answer_related (apply f a)
  not_kind_related (bare b) = answer_related (bare b)
  not_kind_related (annotated d b) = answer_related (annotated d b)
  not_kind_related (product a b) = answer_related (product a b)

  allowed_related : (d : ℕ) (xs : List ℕ) (T : Tree) → Q Tree (allowed d xs T) (allowed d xs T)
  allowed_related d xs T = if_related (mentions_others 0 d xs T) (refused_related E35) (answer_related T)

  pub as_product_related : (c : Code) (T : Tree) → Q (Tree × Tree) (as_product E c T) (as_product E' c T)
  as_product_related c T = R.whnf _ T _ _ (product_related c)

  as_sort_related : (T : Tree) → Q Tree (as_sort E T) (as_sort E' T)
  as_sort_related T = R.whnf _ T _ _ sort_related

  as_star_related : (T : Tree) → Q (Unit {0}) (as_star E T) (as_star E' T)
  as_star_related T = R.whnf _ T _ _ star_related

  as_convertible_related : (c : Code) (T U : Tree) → Q (Unit {0}) (as_convertible E c T U) (as_convertible E' c T U)
  as_convertible_related c T U = R.same c T U

  against_related : (T : Tree) {f : X → JudgedIn X Tree} {g : Y → JudgedIn Y Tree} → Q Tree f g → Q (Unit {0}) (λ n. against E T (f n)) (λ n. against E' T (g n))
  against_related T h = next_related h (λ U. as_convertible_related E21 U T)

  application_related : (f : Tree → X → JudgedIn X (Unit {0})) (g : Tree → Y → JudgedIn Y (Unit {0})) → ((A : Tree) → Q (Unit {0}) (f A) (g A))
      → (a T : Tree) → Q Tree (application_type E f a T) (application_type E' g a T)
  application_related f g k a T = next_related (as_product_related E20 T) (λ p. next_related (k p.0) (λ u. answer_related (substitute 0 (erased a) p.1)))

  product_type_related : (f : X → JudgedIn X Tree) (g : Y → JudgedIn Y Tree) → Q Tree f g → (s : Tree) → Q Tree (product_type E f s) (product_type E' g s)
  product_type_related f g k s = next_related (as_star_related s) (λ u. next_related k as_sort_related)

  abstraction_type_related : (f : X → JudgedIn X Tree) (g : Y → JudgedIn Y Tree) → Q Tree f g → (d s : Tree) → Q Tree (abstraction_type E f d s) (abstraction_type E' g d s)
  abstraction_type_related f g k d s = next_related (as_star_related s) (λ u. next_related k (λ B. next_related (not_kind_related B) (λ C. answer_related (product (erased d) C))))

  annotated_related : (f : X → JudgedIn X (Unit {0})) (g : Y → JudgedIn Y (Unit {0})) → Q (Unit {0}) f g → (d A s : Tree) → Q (Unit {0}) (annotated_fits E f d A s) (annotated_fits E' g d A s)
  annotated_related f g k d A s = next_related (as_star_related s) (λ u. next_related (as_convertible_related E21 (erased d) A) (λ v. k))

  module _ (S : PlainSignature) (V : List Tree) where
    mutual
      pub inferred_related : (G : List Tree) (t : Tree) → Q Tree (inferred E S V G t) (inferred E' S V G t)
      inferred_related G star = answer_related kind
      inferred_related G kind = refused_related E22
      inferred_related G (symbol k) = answer_related (symbol_type S k)
      inferred_related G (variable k) = answer_related (variable_type G k)
      inferred_related G (rule_variable k) = answer_related (shift 0 (length G) (rule_variable_type V k))
      inferred_related G (apply f a) = next_related (inferred_related G f) (application_related (checked E S V G a) (checked E' S V G a) (checked_related G a) a)
      inferred_related G (bare b) = refused_related E23
      inferred_related G (annotated d b) = next_related (inferred_related G d) (abstraction_type_related _ _ (inferred_related (erased d ∷ G) b) d)
      inferred_related G (product d b) = next_related (inferred_related G d) (product_type_related _ _ (inferred_related (erased d ∷ G) b))

      pub checked_related : (G : List Tree) (t T : Tree) → Q (Unit {0}) (checked E S V G t T) (checked E' S V G t T)
      checked_related G (bare b) T = next_related (as_product_related E24 T) (λ p. checked_related (p.0 ∷ G) b p.1)
      checked_related G (annotated d b) T = next_related (as_product_related E24 T) (λ p. next_related (inferred_related G d)
          (annotated_related _ _ (checked_related (p.0 ∷ G) b p.1) d p.0))
      checked_related G (apply f a) T = against_related T (next_related (inferred_related G f) (application_related (checked E S V G a) (checked E' S V G a) (checked_related G a) a))
      checked_related G (product d b) T = against_related T (next_related (inferred_related G d) (product_type_related _ _ (inferred_related (erased d ∷ G) b)))
      checked_related G star T = against_related T (answer_related kind)
      checked_related G kind T = refused_related E22
      checked_related G (symbol k) T = against_related T (answer_related (symbol_type S k))
      checked_related G (variable k) T = against_related T (answer_related (variable_type G k))
      checked_related G (rule_variable k) T = against_related T (answer_related (shift 0 (length G) (rule_variable_type V k)))

  -- ---- declarations and queries

  module _ (S : PlainSignature) where
    sort_of_related : (A : Tree) → Q Tree (sort_of E S [] [] A) (sort_of E' S [] [] A)
    sort_of_related A = next_related (inferred_related S [] [] A) as_sort_related

    body_checked_related : (A : Tree) (b : Option Tree) → Q (Unit {0}) (body_checked E S A b) (body_checked E' S A b)
    body_checked_related A None = answer_related tt
    body_checked_related A (Some b) = checked_related S [] [] b (erased A)

    pub body_type_related : (b : Tree) → Q Tree (body_type E S b) (body_type E' S b)
    body_type_related b = next_related (inferred_related S [] [] b) not_kind_related

    pub declaration_related : (A b : Option Tree) → Q (Unit {0}) (declaration_checked E S A b) (declaration_checked E' S A b)
    declaration_related (Some A) b = next_related (sort_of_related A) (λ t. body_checked_related A b)
    declaration_related None (Some b) = next_related (body_type_related b) (λ T. answer_related tt)
    declaration_related None None = answer_related tt

    compared_related : (t u : Tree) → Q (Unit {0}) (compared E S t u) (compared E' S t u)
    compared_related t u = next_related (inferred_related S [] [] t) (λ T. next_related (inferred_related S [] [] u) (λ U. as_convertible_related E21 (erased t) (erased u)))

    evaluated_related : (t : Tree) → Q Tree (evaluated E S t) (evaluated E' S t)
    evaluated_related t = next_related (inferred_related S [] [] t) (λ T. R.normal _ (erased t) _ _ answer_related)

    -- what the check of a query finds, before a refusal is made an answer
    pub asked_related : (a : PlainAsked) → Q PlainFound (asked_found E S a) (asked_found E' S a)
    asked_related (typed t A) = next_related (declaration_related (Some A) (Some t)) (λ v. answer_related yes)
    asked_related (alike t u) = next_related (compared_related t u) (λ v. answer_related yes)
    asked_related (type_of t) = next_related (inferred_related S [] [] t) (λ T. answer_related (of_type T))
    asked_related (value_of t) = next_related (evaluated_related t) (λ v. answer_related (value v))

  -- ---- rules, where equations are solved too

  module _ (solve_related : (s : Bindings) (t u : Tree) → Q Bindings (λ n. E.solve n s t u) (λ n. E'.solve n s t u)) where
    confined_related : (d : ℕ) (xs : List ℕ) (T : Tree) → Q Tree (confined E d xs T) (confined E' d xs T)
    confined_related d xs T = if_related (mentions_others 0 d xs T) (R.normal _ T _ _ (allowed_related d xs)) (answer_related T)

    bound_type_related : (G : List Tree) (xs : List ℕ) (T : Tree) → Q Tree (bound_type E G xs T) (bound_type E' G xs T)
    bound_type_related G xs T = next_related (confined_related (length G) xs T) (λ U. answer_related (renamed 0 (length G) xs U))

    first_type_related : (G : List Tree) (before xs : List ℕ) (A : Tree) → Q Tree (first_type E G before xs A) (first_type E' G before xs A)
    first_type_related G before [] A = bound_type_related G before A
    first_type_related G before (x ∷ xs) A = next_related (bound_type_related G before (variable_type G x)) (λ D.
        next_related (first_type_related G (before ++ (x ∷ [])) xs A) (λ B. answer_related (product D B)))

    later_type_related : (G : List Tree) (xs : List ℕ) (F : Tree) (s : Bindings) → Q Posed (later_type E G xs F s) (later_type E' G xs F s)
    later_type_related G [] F s = answer_related (record { typ = F; bindings = s })
    later_type_related G (x ∷ xs) F s = next_related (as_product_related E34 (under s F)) (λ p.
        next_related (solve_related s (variable_type G x) p.0) (λ r. later_type_related G xs (substitute 0 (variable x) p.1) r))

    first_typed_related : (s : Bindings) (G : List Tree) (xs : List ℕ) (A : Tree) → Q Tree (first_typed E s G xs A) (first_typed E' s G xs A)
    first_typed_related s G xs A = first_type_related (map (under s) G) [] xs (under s A)

    rule_variable_related : (G : List Tree) (k : ℕ) (xs : List ℕ) (o : Option Tree) (A : Tree) (w : Found) → Q Walked (rule_variable_walked E G k xs o A w) (rule_variable_walked E' G k xs o A w)
    rule_variable_related G k xs None A w = next_related (first_typed_related w.bindings G xs A) (λ T. answer_related (record { term = occurrence k xs; typ = A; found = with_type w k T }))
    rule_variable_related G k xs (Some F) A w = next_related (later_type_related G xs (shift 0 (length G) F) w.bindings) (λ T.
        next_related (solve_related T.bindings T.typ A) (λ s. answer_related (record { term = occurrence k xs; typ = A; found = with_bindings w s })))

    wildcard_related : (G : List Tree) (A : Tree) (w : Found) → Q Walked (wildcard_walked E G A w) (wildcard_walked E' G A w)
    wildcard_related G A w = next_related (first_typed_related w.bindings G (outermost_first (length G)) A) (λ T.
        answer_related (record { term = occurrence (length w.types) (outermost_first (length G)); typ = A; found = with_wildcard w T }))

    as_expected_related : (A : Tree) (w : Walked) → Q Walked (as_expected E A w) (as_expected E' A w)
    as_expected_related A w = next_related (solve_related w.found.bindings w.typ A) (λ s. answer_related (record { term = w.term; typ = A; found = with_bindings w.found s }))

    notes_related : (s : Bindings) (notes types : List (Option Tree)) → Q (Unit {0}) (notes_agree E s notes types) (notes_agree E' s notes types)
    notes_related s [] types = answer_related tt
    notes_related s (None ∷ notes) [] = answer_related tt
    notes_related s (Some b ∷ notes) [] = answer_related tt
    notes_related s (None ∷ notes) (o ∷ types) = notes_related s notes types
    notes_related s (Some b ∷ notes) (None ∷ types) = notes_related s notes types
    notes_related s (Some b ∷ notes) (Some U ∷ types) = next_related (as_convertible_related E34 (under s (erased b)) (under s U)) (λ u. notes_related s notes types)

    module _ (S : PlainSignature) where
      mutual
        walked_related : (G : List Tree) (p : Pattern) (A : Tree) (w : Found) → Q Walked (walked E S G p A w) (walked E' S G p A w)
        walked_related G (rule_variable_pattern k xs) A w = rule_variable_related G k xs (found_type w.types k) A w
        walked_related G wildcard_pattern A w = wildcard_related G A w
        walked_related G (guard_pattern t) A w = answer_related (guard_walked G t A w)
        walked_related G (symbol_pattern k ps) A w = next_related (spine_related G (symbol k) (symbol_type S k) ps w) (as_expected_related A)
        walked_related G (variable_pattern k ps) A w = next_related (spine_related G (variable k) (variable_type G k) ps w) (as_expected_related A)
        walked_related G (abstraction_pattern p) A w = next_related (as_product_related E34 (under w.bindings A)) (λ q.
            next_related (walked_related (q.0 ∷ G) p q.1 w) (λ b. answer_related (record { term = bare b.term; typ = A; found = b.found })))

        spine_related : (G : List Tree) (t F : Tree) (ps : Patterns) (w : Found) → Q Walked (spine_walked E S G t F ps w) (spine_walked E' S G t F ps w)
        spine_related G t F no_patterns w = answer_related (record { term = t; typ = F; found = w })
        spine_related G t F (more_patterns p ps) w = next_related (as_product_related E34 (under w.bindings F)) (λ q.
            next_related (walked_related G p q.0 w) (λ b. spine_related G (apply t b.term) (substitute 0 b.term q.1) ps b.found))

      guards_related : (s : Bindings) (V : List Tree) (gs : List Guard) → Q (Unit {0}) (guards_fit E S s V gs) (guards_fit E' S s V gs)
      guards_related s V [] = answer_related tt
      guards_related s V (g ∷ gs) = next_related (checked_related S V (map (under s) g.context) (under s g.term) (under s g.typ)) (λ u. guards_related s V gs)

      sides_related : (notes : List (Option Tree)) (right : Tree) (w : Walked) → Q (Unit {0}) (sides_fit E S notes right w) (sides_fit E' S notes right w)
      sides_related notes right w = let s : Bindings = w.found.bindings in let V : List Tree = types_under s w.found.types in next_related (notes_related s notes w.found.types) (λ u.
          next_related (guards_related s V w.found.guards) (λ v. checked_related S V [] (under s right) (under s w.typ)))

      rule_related : (r : PlainRule) → Q (Unit {0}) (rule_checked E S r) (rule_checked E' S r)
      rule_related r = next_related (spine_related [] _ _ _ _) (sides_related r.notes r.right)

      rules_related : (rs : List PlainRule) → Q (Unit {0}) (rules_typed E S rs) (rules_typed E' S rs)
      rules_related [] = answer_related tt
      rules_related (r ∷ rs) = next_related (rule_related r) (λ u. rules_related rs)

      -- ---- commands

      pub rules_checked_related : (rs : Result (List PlainRule) Code) → Q (Unit {0}) (rules_checked E S rs) (rules_checked E' S rs)
      rules_checked_related (Ok rs) = rules_related rs
      rules_checked_related (Err c) = refused_related c

      -- queries need not be related as the others are: a refusal may be the answer no
      pub command_related : ((demand : Bool) (a : PlainAsked) → Q (Unit {0}) (command_checked E S (query demand a)) (command_checked E' S (query demand a)))
          → (c : PlainCommand) → Q (Unit {0}) (command_checked E S c) (command_checked E' S c)
      command_related asked (declare s A b) = declaration_related S A b
      command_related asked (rule_command rs) = rules_checked_related (shapes_of S rs)
      command_related asked (query demand a) = asked demand a
