-- The arguments of an application, one behind the other, and the body of an abstraction.
use Rattle.std.proofs.Common.{List, [], ◌∷◌, ◌++◌, ℕ, ◌≡◌, refl, ap, sym as flip, subst as along_path, ◌∙◌, Bool, true, false, Option, Some, None}
use Rattle.dk_model.specs.Trees.{Tree, star, kind, symbol, variable, rule_variable, apply, bare, annotated, product}
use Rattle.dk_model.specs.Signatures.{PlainSignature}
use Rattle.dk_model.specs.Substitution.{substitute}
use Rattle.dk_model.specs.Erasure.{erased}
use Rattle.dk_model.specs.Typing.{Judged, answer, refused, ended, next, application_type, inferred, checked, as_product, as_star, as_convertible, is_abstraction}
use Rattle.dk_model.specs.declared.code.Code.TheVariants.{E20, E21, E24}
use Rattle.dk_model.specs.declared.node.NodeOf.TheVariants.{Abs}
use Rattle.signature_log.specs.Reducers.{built}
use Rattle.infer_check.specs.Spine.{wound, along, argument_type}
use Rattle.infer_check.proofs.Judging.{next_next}
use Rattle.split_check.specs.Steps.{Onward, Stops, steps_due}
use Rattle.split_check.specs.Laying.{GoesOn, IsOver, LaysFit, domain_agrees}
use Rattle.split_check.specs.declared.laying.Laying.{Laying}
use Rattle.split_check.proofs.Joining.{goes_then, goes_over, goes_alike, over_alike, goes_next, over_next, fit_after}

next_alike : {A B : Type 0} (x : Judged A) (f g : A → ℕ → Judged B) → ((a : A) (n : ℕ) → f a n ≡ g a n) → next x f ≡ next x g
next_alike (answer a n) f g e = e a n
next_alike (refused c n) f g e = refl
next_alike ended f g e = refl

next_answer : {A : Type 0} (x : Judged A) → next x answer ≡ x
next_answer (answer a n) = refl
next_answer (refused c n) = refl
next_answer ended = refl

module _ (S : PlainSignature) (V G : List Tree) where
  inferred_wound : (h : Tree) (xs : List Tree) (n : ℕ) → inferred S V G (wound h xs) n ≡ next (inferred S V G h n) (along S V G xs)
  inferred_wound h [] n = flip (next_answer (inferred S V G h n))
  inferred_wound h (x ∷ xs) n =
      ap (λ y. next y (application_type S (checked S V G x) x)) (inferred_wound h xs n)
      ∙ next_next (inferred S V G h n) (along S V G xs) (application_type S (checked S V G x) x)

  along_pushed : (xs : List Tree) (x F : Tree) (n : ℕ) → along S V G (xs ++ (x ∷ [])) F n ≡ next (argument_type S V G x F n) (along S V G xs)
  along_pushed [] x F n = flip (next_answer (argument_type S V G x F n))
  along_pushed (y ∷ xs) x F n =
      ap (λ z. next z (application_type S (checked S V G y) y)) (along_pushed xs x F n)
      ∙ next_next (argument_type S V G x F n) (along S V G xs) (application_type S (checked S V G y) y)

  -- what is left of an application behind the type of the function
  abbrev fitted : List Tree → Tree → Tree × Tree → ℕ → Judged Tree
  fitted xs x p n = next (checked S V G x p.0 n) (λ u i. along S V G xs (substitute 0 (erased x) p.1) i)

  along_fitted : (xs : List Tree) (x F : Tree) (n : ℕ) → along S V G (xs ++ (x ∷ [])) F n ≡ next (as_product S E20 F n) (fitted xs x)
  along_fitted xs x F n = along_pushed xs x F n
      ∙ next_next (as_product S E20 F n) (λ p m. next (checked S V G x p.0 m) (λ u i. answer (substitute 0 (erased x) p.1) i)) (along S V G xs)
      ∙ next_alike (as_product S E20 F n) (λ p m. next (next (checked S V G x p.0 m) (λ u i. answer (substitute 0 (erased x) p.1) i)) (along S V G xs)) (fitted xs x)
      (λ p m. next_next (checked S V G x p.0 m) (λ u i. answer (substitute 0 (erased x) p.1) i) (along S V G xs))

  module _ {T : Type 0} (old new : Laying T) where
    pub spine_headless : (h t : Tree) (xs : List Tree) → wound h xs ≡ t → IsOver S (inferred S V G h) old new → IsOver S (inferred S V G t) old new
    spine_headless h t xs e p = over_alike S (λ n. next (inferred S V G h n) (along S V G xs)) (inferred S V G t) old new (λ n. ap (λ u. inferred S V G u n) (flip e) ∙ inferred_wound h xs n)
        (over_next S (inferred S V G h) (along S V G xs) old new p)

    pub spine_begun : (h t F : Tree) (xs : List Tree) → wound h xs ≡ t → GoesOn S (inferred S V G h) (answer F) old new → GoesOn S (inferred S V G t) (along S V G xs F) old new
    spine_begun h t F xs e p = goes_alike S (λ n. next (inferred S V G h n) (along S V G xs)) (inferred S V G t) (along S V G xs F) (along S V G xs F) old new
        (λ n. ap (λ u. inferred S V G u n) (flip e) ∙ inferred_wound h xs n) (λ n. refl)
        (goes_next S (inferred S V G h) (answer F) (along S V G xs) old new p)

    pub function_over : (xs : List Tree) (x F : Tree) → IsOver S (as_product S E20 F) old new → IsOver S (along S V G (xs ++ (x ∷ [])) F) old new
    function_over xs x F p = over_alike S (λ n. next (as_product S E20 F n) (fitted xs x)) (along S V G (xs ++ (x ∷ [])) F) old new (along_fitted xs x F) (over_next S (as_product S E20 F) (fitted xs x) old new p)

    pub function_goes : (xs : List Tree) (x F A B : Tree) → GoesOn S (as_product S E20 F) (answer (A, B)) old new → GoesOn S (along S V G (xs ++ (x ∷ [])) F) (fitted xs x (A, B)) old new
    function_goes xs x F A B p = goes_alike S (λ n. next (as_product S E20 F n) (fitted xs x)) (along S V G (xs ++ (x ∷ [])) F) (fitted xs x (A, B)) (fitted xs x (A, B)) old new
        (along_fitted xs x F) (λ n. refl) (goes_next S (as_product S E20 F) (answer (A, B)) (fitted xs x) old new p)

    argument_over : (xs : List Tree) (x A B : Tree) → IsOver S (checked S V G x A) old new → IsOver S (fitted xs x (A, B)) old new
    argument_over xs x A B p = over_next S (checked S V G x A) (λ u i. along S V G xs (substitute 0 (erased x) B) i) old new p

    argument_goes : (xs : List Tree) (x A B : Tree) → GoesOn S (checked S V G x A) (answer tt) old new → GoesOn S (fitted xs x (A, B)) (along S V G xs (substitute 0 (erased x) B)) old new
    argument_goes xs x A B p = goes_next S (checked S V G x A) (answer tt) (λ u i. along S V G xs (substitute 0 (erased x) B) i) old new p

  -- one argument more, behind what was laid out before
  module _ {T : Type 0} (t : Tree) (zs xs : List Tree) (x F : Tree) (old first second third : Laying T) (e : zs ≡ xs ++ (x ∷ [])) (w : first.whole ≡ old.whole)
      (p : GoesOn S (inferred S V G t) (along S V G zs F) old first) where
    begun : GoesOn S (inferred S V G t) (along S V G (xs ++ (x ∷ [])) F) old first
    begun = along_path (λ ys. GoesOn S (inferred S V G t) (along S V G ys F) old first) e p

    pub no_function : IsOver S (as_product S E20 F) first second → IsOver S (inferred S V G t) old second
    no_function q = goes_over S (inferred S V G t) (along S V G (xs ++ (x ∷ [])) F) old first second begun w (function_over first second xs x F q)

    module _ (A B : Tree) (q : GoesOn S (as_product S E20 F) (answer (A, B)) first second) (v : second.whole ≡ first.whole) where
      typed : GoesOn S (inferred S V G t) (fitted xs x (A, B)) old second
      typed = goes_then S (inferred S V G t) (along S V G (xs ++ (x ∷ [])) F) (fitted xs x (A, B)) old first second begun w (function_goes first second xs x F A B q)

      pub no_fit : IsOver S (checked S V G x A) second third → IsOver S (inferred S V G t) old third
      no_fit r = goes_over S (inferred S V G t) (fitted xs x (A, B)) old second third typed (v ∙ w) (argument_over second third xs x A B r)

      pub one_more : GoesOn S (checked S V G x A) (answer tt) second third → GoesOn S (inferred S V G t) (along S V G xs (substitute 0 (erased x) B)) old third
      one_more r = goes_then S (inferred S V G t) (fitted xs x (A, B)) (along S V G xs (substitute 0 (erased x) B)) old second third typed (v ∙ w) (argument_goes second third xs x A B r)

  -- ---- abstractions

  abbrev body_fits : Tree → Tree × Tree → ℕ → Judged (Unit {0})
  body_fits b p m = checked S V (p.0 ∷ G) b p.1 m

  abbrev agreeing : Tree → Tree → Tree × Tree → ℕ → Judged (Unit {0})
  agreeing d b p m = next (domain_agrees S V G d p.0 m) (λ u i. checked S V (p.0 ∷ G) b p.1 i)

  agreed_is : (d b T : Tree) (n : ℕ) → checked S V G (annotated d b) T n ≡ next (as_product S E24 T n) (agreeing d b)
  agreed_is d b T n = flip (next_alike (as_product S E24 T n) (agreeing d b) _ (λ p m.
      next_next (inferred S V G d m) (λ s j. next (as_star S s j) (λ u i. as_convertible S E21 (erased d) p.0 i)) (λ u i. checked S V (p.0 ∷ G) b p.1 i)
      ∙ next_alike (inferred S V G d m) (λ s j. next (next (as_star S s j) (λ u i. as_convertible S E21 (erased d) p.0 i)) (λ u i. checked S V (p.0 ∷ G) b p.1 i)) _
      (λ s j. next_next (as_star S s j) (λ u i. as_convertible S E21 (erased d) p.0 i) (λ u i. checked S V (p.0 ∷ G) b p.1 i))))

  module _ {T : Type 0} (b F A B : Tree) (old first second third : Laying T) (w : first.whole ≡ old.whole) where
    pub bare_over : IsOver S (as_product S E24 F) old first → IsOver S (checked S V G (bare b) F) old first
    bare_over p = over_next S (as_product S E24 F) (body_fits b) old first p

    pub bare_fits : GoesOn S (as_product S E24 F) (answer (A, B)) old first → (r : Bool) → LaysFit S (checked S V (A ∷ G) b B) first second r → LaysFit S (checked S V G (bare b) F) old second r
    bare_fits p r h = fit_after S (checked S V G (bare b) F) (checked S V (A ∷ G) b B) old first second r (goes_next S (as_product S E24 F) (answer (A, B)) (body_fits b) old first p) w h

    pub annotated_over : (d : Tree) → IsOver S (as_product S E24 F) old first → IsOver S (checked S V G (annotated d b) F) old first
    annotated_over d p = over_alike S (λ n. next (as_product S E24 F n) (agreeing d b)) (checked S V G (annotated d b) F) old first (agreed_is d b F) (over_next S (as_product S E24 F) (agreeing d b) old first p)

    annotated_typed : (d : Tree) → GoesOn S (as_product S E24 F) (answer (A, B)) old first → GoesOn S (checked S V G (annotated d b) F) (agreeing d b (A, B)) old first
    annotated_typed d p = goes_alike S (λ n. next (as_product S E24 F n) (agreeing d b)) (checked S V G (annotated d b) F) (agreeing d b (A, B)) (agreeing d b (A, B)) old first
        (agreed_is d b F) (λ n. refl) (goes_next S (as_product S E24 F) (answer (A, B)) (agreeing d b) old first p)

    pub annotated_disagrees : (d : Tree) → GoesOn S (as_product S E24 F) (answer (A, B)) old first → IsOver S (domain_agrees S V G d A) first second → IsOver S (checked S V G (annotated d b) F) old second
    annotated_disagrees d p q = goes_over S (checked S V G (annotated d b) F) (agreeing d b (A, B)) old first second (annotated_typed d p) w
        (over_next S (domain_agrees S V G d A) (λ u i. checked S V (A ∷ G) b B i) first second q)

    pub annotated_fits : (d : Tree) → GoesOn S (as_product S E24 F) (answer (A, B)) old first → second.whole ≡ first.whole → GoesOn S (domain_agrees S V G d A) (answer tt) first second
        → (r : Bool) → LaysFit S (checked S V (A ∷ G) b B) second third r → LaysFit S (checked S V G (annotated d b) F) old third r
    annotated_fits d p v q r h = fit_after S (checked S V G (annotated d b) F) (checked S V (A ∷ G) b B) old second third r
        (goes_then S (checked S V G (annotated d b) F) (agreeing d b (A, B)) (checked S V (A ∷ G) b B) old first second (annotated_typed d p) w
        (goes_next S (domain_agrees S V G d A) (answer tt) (λ u i. checked S V (A ∷ G) b B i) first second q)) (v ∙ w) h

  -- ---- any other term

  compared_is : (t F : Tree) (n : ℕ) → is_abstraction t ≡ false → checked S V G t F n ≡ next (inferred S V G t n) (λ U m. as_convertible S E21 U F m)
  compared_is star F n e = refl
  compared_is kind F n e = refl
  compared_is (symbol k) F n e = refl
  compared_is (variable k) F n e = refl
  compared_is (rule_variable k) F n e = refl
  compared_is (apply f a) F n e = refl
  compared_is (bare b) F n e = cc
  compared_is (annotated d b) F n e = cc
  compared_is (product d b) F n e = refl

  module _ {T : Type 0} (t F : Tree) (none : is_abstraction t ≡ false) (old first second : Laying T) where
    pub other_over : IsOver S (inferred S V G t) old first → IsOver S (checked S V G t F) old first
    other_over p = over_alike S (λ n. next (inferred S V G t n) (λ U m. as_convertible S E21 U F m)) (checked S V G t F) old first (λ n. compared_is t F n none)
        (over_next S (inferred S V G t) (λ U m. as_convertible S E21 U F m) old first p)

    pub other_fits : (U : Tree) → GoesOn S (inferred S V G t) (answer U) old first → first.whole ≡ old.whole → (r : Bool) → LaysFit S (as_convertible S E21 U F) first second r → LaysFit S (checked S V G t F) old second r
    other_fits U p w r h = fit_after S (checked S V G t F) (as_convertible S E21 U F) old first second r
        (goes_alike S (λ n. next (inferred S V G t n) (λ U m. as_convertible S E21 U F m)) (checked S V G t F) (as_convertible S E21 U F) (as_convertible S E21 U F) old first
        (λ n. compared_is t F n none) (λ n. refl) (goes_next S (inferred S V G t) (answer U) (λ U m. as_convertible S E21 U F m) old first p)) w h

-- ---- an abstraction by its outermost node

module _ {R N : Type 0} (denotes : R → N → Tree) (r : R) (a : Option N) (b : N) (S : PlainSignature) (V G : List Tree) (t F : Tree) {T : Type 0} (old first : Laying T) where
  pub abstraction_over : t ≡ built denotes r (Abs a b) → IsOver S (as_product S E24 F) old first → IsOver S (checked S V G t F) old first
  abstraction_over e p = by a refl
    where
      by : (o : Option N) → a ≡ o → IsOver S (checked S V G t F) old first
      by None q = over_alike S (checked S V G (bare (denotes r b)) F) (checked S V G t F) old first (λ n. ap (λ u. checked S V G u F n) (e ∙ ap (λ o. built denotes r (Abs o b)) q))
          (over_next S (as_product S E24 F) (body_fits S V G (denotes r b)) old first p)
      by (Some d) q = over_alike S (checked S V G (annotated (denotes r d) (denotes r b)) F) (checked S V G t F) old first (λ n. ap (λ u. checked S V G u F n) (e ∙ ap (λ o. built denotes r (Abs o b)) q))
          (over_alike S (λ n. next (as_product S E24 F n) (agreeing S V G (denotes r d) (denotes r b))) (checked S V G (annotated (denotes r d) (denotes r b)) F) old first
          (agreed_is S V G (denotes r d) (denotes r b) F) (over_next S (as_product S E24 F) (agreeing S V G (denotes r d) (denotes r b)) old first p))

-- the same typing, told of other records with the same steps
pub fit_told : (S : PlainSignature) {T : Type 0} (F : ℕ → Judged (Unit {0})) (old new begun ended : Laying T) (b : Bool) → begun.steps.items ≡ old.steps.items → begun.whole ≡ old.whole → ended.steps.items ≡ new.steps.items
    → LaysFit S F begun ended b → LaysFit S F old new b
fit_told S F old new first last true e w f p = record {
  more = p.more;
  grown = flip f ∙ p.grown ∙ ap (λ xs. xs ++ p.more) e;
  onward = along_path (λ k. Onward F k (steps_due S k p.more) (answer tt)) w p.onward;
}
fit_told S F old new first last false e w f p = record {
  more = p.more;
  grown = flip f ∙ p.grown ∙ ap (λ xs. xs ++ p.more) e;
  stops = along_path (λ k. Stops F k (steps_due S k p.more)) w p.stops;
}
