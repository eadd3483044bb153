-- Typing over similar signatures: terms that are alike have types that are alike, the same faults, and the same units.
use Rattle.std.proofs.Common.{List, length, ℕ, ◌≡◌, ◌+◌, Bool, true, false, refl, subst}
use Rattle.dk_model.specs.PlainTerms.{Tree}
use Rattle.dk_model.specs.Substitution.{shift}
use Rattle.dk_model.specs.PlainEntries.{PlainSignature}
use Rattle.dk_model.specs.Units.{Units}
use Rattle.dk_model.specs.TypingOver as over
use Rattle.dk_model.specs.Typing.{Judged, by_units, after, next, parts_of_product, a_sort, the_star, agreed, not_kind, variable_type, rule_variable_type, as_product, as_sort, as_star, as_convertible, against, application_type, inferred, checked, sort_of}
use Rattle.dk_model.specs.declared.code.Code.{Code}
use Rattle.dk_model.specs.declared.code.Code.TheVariants.{E20, E21, E24}
use Rattle.prune_theory.specs.Alike.{Each, one_more, InUnits, both_end, both_give, InJudged, both_answer, both_refused, both_ended, Alike, alike_star, alike_kind, alike_symbol, alike_variable, alike_rule_variable, alike_apply, alike_bare, alike_annotated, alike_product, AreSimilar}
use Rattle.prune_theory.proofs.Lists.{option_alike, each_get, each_length}
use Rattle.prune_theory.proofs.Terms.{AlikePair, shift_alike, substitute_alike, erased_alike}
use Rattle.prune_theory.proofs.Evaluation.{whnf_alike, comparison_alike}

pub after_alike : {A B C D : Type 0} {R : A → B → Type 0} {T : C → D → Type 0} {x : Units A} {y : Units B} {g : A → ℕ → Judged C} {h : B → ℕ → Judged D}
    → InUnits R x y → ((a : A) (b : B) (n : ℕ) → R a b → InJudged T (g a n) (h b n)) → InJudged T (after x g) (after y h)
after_alike both_end k = both_ended
after_alike (both_give {a} {b} {n} r) k = k a b n r

pub next_alike : {A B C D : Type 0} {R : A → B → Type 0} {T : C → D → Type 0} {x : Judged A} {y : Judged B} {g : A → ℕ → Judged C} {h : B → ℕ → Judged D}
    → InJudged R x y → ((a : A) (b : B) (n : ℕ) → R a b → InJudged T (g a n) (h b n)) → InJudged T (next x g) (next y h)
next_alike (both_answer {a} {b} {n} r) k = k a b n r
next_alike both_refused k = both_refused
next_alike both_ended k = both_ended

-- nothing but the units is answered
abbrev pub Passes : Judged (Unit {0}) → Judged (Unit {0}) → Type 0
Passes = InJudged ◌≡◌

module _ {Q : ℕ → ℕ → Type 0} where
  product_alike : (c : Code) (n : ℕ) {t u : Tree} → Alike Q t u → InJudged (AlikePair Q) (parts_of_product c t n) (parts_of_product c u n)
  product_alike c n (alike_product p q) = both_answer (p, q)
  product_alike c n p = both_refused

  sort_alike : (n : ℕ) {t u : Tree} → Alike Q t u → InJudged (Alike Q) (a_sort t n) (a_sort u n)
  sort_alike n alike_star = both_answer alike_star
  sort_alike n alike_kind = both_answer alike_kind
  sort_alike n p = both_refused

  star_alike : (n : ℕ) {t u : Tree} → Alike Q t u → Passes (the_star t n) (the_star u n)
  star_alike n alike_star = both_answer refl
  star_alike n p = both_refused

  pub not_kind_alike : (n : ℕ) {t u : Tree} → Alike Q t u → InJudged (Alike Q) (not_kind t n) (not_kind u n)
  not_kind_alike n alike_kind = both_refused
  not_kind_alike n alike_star = both_answer alike_star
  not_kind_alike n (alike_symbol q) = both_answer (alike_symbol q)
  not_kind_alike n alike_variable = both_answer alike_variable
  not_kind_alike n alike_rule_variable = both_answer alike_rule_variable
  not_kind_alike n (alike_apply p q) = both_answer (alike_apply p q)
  not_kind_alike n (alike_bare p) = both_answer (alike_bare p)
  not_kind_alike n (alike_annotated p q) = both_answer (alike_annotated p q)
  not_kind_alike n (alike_product p q) = both_answer (alike_product p q)

  pub variable_type_alike : {G H : List Tree} → Each (Alike Q) G H → (k : ℕ) → Alike Q (variable_type G k) (variable_type H k)
  variable_type_alike g k = option_alike (Alike Q) _ _ _ _ (each_get g k) alike_kind (λ t u p. shift_alike 0 (k + 1) p)

  rule_variable_type_alike : {V W : List Tree} → Each (Alike Q) V W → (k : ℕ) → Alike Q (rule_variable_type V k) (rule_variable_type W k)
  rule_variable_type_alike v k = option_alike (Alike Q) _ _ _ _ (each_get v k) alike_kind (λ t u p. p)

  -- a term that stands outside of all binders, at its place under these
  pub placed_alike : {G H : List Tree} {t u : Tree} → Each (Alike Q) G H → Alike Q t u → Alike Q (shift 0 (length G) t) (shift 0 (length H) u)
  placed_alike {G} {t} {u} g p = subst (λ z. Alike Q (shift 0 (length G) t) (shift 0 z u)) (each_length g) (shift_alike 0 (length G) p)

agreed_alike : (code : Code) (b c : Bool) → b ≡ c → (n : ℕ) → Passes (agreed code b n) (agreed code c n)
agreed_alike code b c e n = subst (λ z. Passes (agreed code b n) (agreed code z n)) e (itself b)
  where
    itself : (b : Bool) → Passes (agreed code b n) (agreed code b n)
    itself true = both_answer refl
    itself false = both_refused

module _ {Q : ℕ → ℕ → Type 0} {S S' : PlainSignature} (similar : AreSimilar Q S S') where
  pub as_product_alike : (c : Code) (n : ℕ) {T U : Tree} → Alike Q T U → InJudged (AlikePair Q) (as_product S c T n) (as_product S' c U n)
  as_product_alike c n p = after_alike (whnf_alike similar n p) (λ t u m r. product_alike c m r)

  pub as_sort_alike : (n : ℕ) {T U : Tree} → Alike Q T U → InJudged (Alike Q) (as_sort S T n) (as_sort S' U n)
  as_sort_alike n p = after_alike (whnf_alike similar n p) (λ t u m r. sort_alike m r)

  as_star_alike : (n : ℕ) {T U : Tree} → Alike Q T U → Passes (as_star S T n) (as_star S' U n)
  as_star_alike n p = after_alike (whnf_alike similar n p) (λ t u m r. star_alike m r)

  pub as_convertible_alike : (c : Code) (n : ℕ) {T T' U U' : Tree} → Alike Q T T' → Alike Q U U' → Passes (as_convertible S c T U n) (as_convertible S' c T' U' n)
  as_convertible_alike c n p q = after_alike (comparison_alike similar n p q) (λ b d m r. agreed_alike c b d r m)

  against_alike : {T U : Tree} {x y : Judged Tree} → Alike Q T U → InJudged (Alike Q) x y → Passes (against S T x) (against S' U y)
  against_alike p h = next_alike h (λ a b n r. as_convertible_alike E21 n r p)

  application_alike : (n : ℕ) {fits fits' : Tree → ℕ → Judged (Unit {0})} {a b F G : Tree} → ((A B : Tree) (m : ℕ) → Alike Q A B → Passes (fits A m) (fits' B m)) → Alike Q a b → Alike Q F G
      → InJudged (Alike Q) (application_type S fits a F n) (application_type S' fits' b G n)
  application_alike n k a p = next_alike (as_product_alike E20 n p) (λ p q m r. next_alike (k _ _ m r.0) (λ u v i s. both_answer (substitute_alike 0 (erased_alike a) r.1)))

  product_type_alike : (n : ℕ) {sort sort' : ℕ → Judged Tree} {s s' : Tree} → ((m : ℕ) → InJudged (Alike Q) (sort m) (sort' m)) → Alike Q s s'
      → InJudged (Alike Q) (over.product_type (by_units S) sort s n) (over.product_type (by_units S') sort' s' n)
  product_type_alike n k p = next_alike (as_star_alike n p) (λ u v m r. next_alike (k m) (λ a b i s. as_sort_alike i s))

  abstraction_alike : (n : ℕ) {typ typ' : ℕ → Judged Tree} {d d' s s' : Tree} → ((m : ℕ) → InJudged (Alike Q) (typ m) (typ' m)) → Alike Q d d' → Alike Q s s'
      → InJudged (Alike Q) (over.abstraction_type (by_units S) typ d s n) (over.abstraction_type (by_units S') typ' d' s' n)
  abstraction_alike n k d p = next_alike (as_star_alike n p) (λ u v m r. next_alike (k m) (λ a b i s. next_alike (not_kind_alike i s) (λ c e j q. both_answer (alike_product (erased_alike d) q))))

  annotated_alike : (n : ℕ) {fits fits' : ℕ → Judged (Unit {0})} {d d' A A' s s' : Tree} → ((m : ℕ) → Passes (fits m) (fits' m)) → Alike Q d d' → Alike Q A A' → Alike Q s s'
      → Passes (over.annotated_fits (by_units S) fits d A s n) (over.annotated_fits (by_units S') fits' d' A' s' n)
  annotated_alike n k d a p = next_alike (as_star_alike n p) (λ u v m r. next_alike (as_convertible_alike E21 m (erased_alike d) a) (λ x y i s. k i))

  module _ {V V' : List Tree} (vs : Each (Alike Q) V V') where
    mutual
      pub inferred_alike : (n : ℕ) {G G' : List Tree} {t u : Tree} → Each (Alike Q) G G' → Alike Q t u → InJudged (Alike Q) (inferred S V G t n) (inferred S' V' G' u n)
      inferred_alike n g alike_star = both_answer alike_kind
      inferred_alike n g alike_kind = both_refused
      inferred_alike n g (alike_symbol {j} {k} q) = both_answer (similar.types j k q)
      inferred_alike n g (alike_variable {k}) = both_answer (variable_type_alike g k)
      inferred_alike n g (alike_rule_variable {k}) = both_answer (placed_alike g (rule_variable_type_alike vs k))
      inferred_alike n g (alike_apply f a) = next_alike (inferred_alike n g f) (λ F F' m r. application_alike m (λ A B i s. checked_alike i g a s) a r)
      inferred_alike n g (alike_bare b) = both_refused
      inferred_alike n g (alike_annotated d b) = next_alike (inferred_alike n g d) (λ s s' m r. abstraction_alike m (λ i. inferred_alike i (one_more (erased_alike d) g) b) d r)
      inferred_alike n g (alike_product d b) = next_alike (inferred_alike n g d) (λ s s' m r. product_type_alike m (λ i. inferred_alike i (one_more (erased_alike d) g) b) r)

      pub checked_alike : (n : ℕ) {G G' : List Tree} {t u T U : Tree} → Each (Alike Q) G G' → Alike Q t u → Alike Q T U → Passes (checked S V G t T n) (checked S' V' G' u U n)
      checked_alike n g (alike_bare b) p = next_alike (as_product_alike E24 n p) (λ a c m r. checked_alike m (one_more r.0 g) b r.1)
      checked_alike n g (alike_annotated d b) p = next_alike (as_product_alike E24 n p) (λ a c m r. next_alike (inferred_alike m g d) (λ s s' i q.
          annotated_alike i (λ j. checked_alike j (one_more r.0 g) b r.1) d r.0 q))
      checked_alike n g (alike_apply f a) p = against_alike p (next_alike (inferred_alike n g f) (λ F F' m r. application_alike m (λ A B i s. checked_alike i g a s) a r))
      checked_alike n g (alike_product d b) p = against_alike p (next_alike (inferred_alike n g d) (λ s s' m r. product_type_alike m (λ i. inferred_alike i (one_more (erased_alike d) g) b) r))
      checked_alike n g alike_star p = against_alike p (both_answer alike_kind)
      checked_alike n g alike_kind p = both_refused
      checked_alike n g (alike_symbol {j} {k} q) p = against_alike p (both_answer (similar.types j k q))
      checked_alike n g (alike_variable {k}) p = against_alike p (both_answer (variable_type_alike g k))
      checked_alike n g (alike_rule_variable {k}) p = against_alike p (both_answer (placed_alike g (rule_variable_type_alike vs k)))

    pub sort_of_alike : (n : ℕ) {G G' : List Tree} {t u : Tree} → Each (Alike Q) G G' → Alike Q t u → InJudged (Alike Q) (sort_of S V G t n) (sort_of S' V' G' u n)
    sort_of_alike n g p = next_alike (inferred_alike n g p) (λ t u m r. as_sort_alike m r)
