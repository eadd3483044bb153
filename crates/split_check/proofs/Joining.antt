-- A typing that goes on, step behind step.
use Rattle.std.proofs.Common.{List, [], ◌∷◌, ◌++◌, ℕ, ◌≡◌, refl, ap, sym as flip, subst as along_path, ◌∙◌, Bool, true, false, Option, Some, None}
use Rattle.std.specs.Prelude.{Result, Ok, Err, IfOk}
use Rattle.dk_model.specs.Trees.{Tree}
use Rattle.dk_model.specs.Signatures.{PlainSignature}
use Rattle.dk_model.specs.Erasure.{erased}
use Rattle.dk_model.specs.Typing.{Judged, answer, next, inferred, as_star, as_convertible}
use Rattle.dk_model.specs.declared.code.Code.TheVariants.{E21}
use Rattle.infer_check.specs.declared.product.Product.{Product}
use Rattle.split_check.specs.Steps.{Onward, Stops, step_due, steps_due}
use Rattle.split_check.specs.Laying.{GoesOn, IsOver, LaysFit, LaysProduct, LaysType, domain_agrees}
use Rattle.split_check.specs.declared.laying.Laying.{Laying}
use Rattle.split_check.specs.declared.step.Step.{Step}
use Rattle.split_check.proofs.Onward.{onward_none, onward_then, onward_stops, onward_alike, stops_alike, onward_next, stops_next}

assoc : (xs ys zs : List Step) → (xs ++ ys) ++ zs ≡ xs ++ (ys ++ zs)
assoc [] ys zs = refl
assoc (x ∷ xs) ys zs = ap (λ l. x ∷ l) (assoc xs ys zs)

due_append : (S : PlainSignature) (B : ℕ) (xs ys : List Step) → steps_due S B (xs ++ ys) ≡ steps_due S B xs ++ steps_due S B ys
due_append S B [] ys = refl
due_append S B (x ∷ xs) ys = ap (λ l. step_due S B x ∷ l) (due_append S B xs ys)

nothing_more : (xs : List Step) → xs ≡ xs ++ []
nothing_more [] = refl
nothing_more (x ∷ xs) = ap (λ l. x ∷ l) (nothing_more xs)

module _ (S : PlainSignature) {T A : Type 0} where
  pub goes_none : (F : ℕ → Judged A) (old new : Laying T) → new.steps.items ≡ old.steps.items → GoesOn S F F old new
  goes_none F old new e = record { more = []; grown = e ∙ nothing_more old.steps.items; onward = onward_none old.whole F }

  pub goes_then : (F G H : ℕ → Judged A) (old mid new : Laying T) → GoesOn S F G old mid → mid.whole ≡ old.whole → GoesOn S G H mid new → GoesOn S F H old new
  goes_then F G H old mid new p w q = record {
    more = p.more ++ q.more;
    grown = q.grown ∙ ap (λ xs. xs ++ q.more) p.grown ∙ assoc old.steps.items p.more q.more;
    onward = along_path (λ ds. Onward F old.whole ds H) (flip (due_append S old.whole p.more q.more))
        (onward_then old.whole F G H (steps_due S old.whole p.more) (steps_due S old.whole q.more) p.onward (along_path (λ b. Onward G b (steps_due S b q.more) H) w q.onward));
  }

  pub goes_over : (F G : ℕ → Judged A) (old mid new : Laying T) → GoesOn S F G old mid → mid.whole ≡ old.whole → IsOver S G mid new → IsOver S F old new
  goes_over F G old mid new p w q = record {
    more = p.more ++ q.more;
    grown = q.grown ∙ ap (λ xs. xs ++ q.more) p.grown ∙ assoc old.steps.items p.more q.more;
    stops = along_path (λ ds. Stops F old.whole ds) (flip (due_append S old.whole p.more q.more))
        (onward_stops old.whole F G (steps_due S old.whole p.more) (steps_due S old.whole q.more) p.onward (along_path (λ b. Stops G b (steps_due S b q.more)) w q.stops));
  }

  pub goes_alike : (F E G H : ℕ → Judged A) (old new : Laying T) → ((n : ℕ) → E n ≡ F n) → ((n : ℕ) → G n ≡ H n) → GoesOn S F G old new → GoesOn S E H old new
  goes_alike F E G H old new f g p = record { more = p.more; grown = p.grown; onward = onward_alike old.whole F E G H (steps_due S old.whole p.more) f g p.onward }

  pub over_alike : (F E : ℕ → Judged A) (old new : Laying T) → ((n : ℕ) → E n ≡ F n) → IsOver S F old new → IsOver S E old new
  over_alike F E old new f p = record { more = p.more; grown = p.grown; stops = stops_alike old.whole F E (steps_due S old.whole p.more) f p.stops }

  pub goes_next : {C : Type 0} (F G : ℕ → Judged A) (g : A → ℕ → Judged C) (old new : Laying T) → GoesOn S F G old new → GoesOn S (λ n. next (F n) g) (λ n. next (G n) g) old new
  goes_next F G g old new p = record { more = p.more; grown = p.grown; onward = onward_next old.whole F G (steps_due S old.whole p.more) g p.onward }

  pub over_next : {C : Type 0} (F : ℕ → Judged A) (g : A → ℕ → Judged C) (old new : Laying T) → IsOver S F old new → IsOver S (λ n. next (F n) g) old new
  over_next F g old new p = record { more = p.more; grown = p.grown; stops = stops_next old.whole F (steps_due S old.whole p.more) g p.stops }

module _ (S : PlainSignature) {T : Type 0} where
  -- behind steps that go on, whether there is an answer or not
  pub fit_after : (F G : ℕ → Judged (Unit {0})) (old mid new : Laying T) (b : Bool) → GoesOn S F G old mid → mid.whole ≡ old.whole → LaysFit S G mid new b → LaysFit S F old new b
  fit_after F G old mid new true p w q = goes_then S F G (answer tt) old mid new p w q
  fit_after F G old mid new false p w q = goes_over S F G old mid new p w q

  pub fit_alike : (F E : ℕ → Judged (Unit {0})) (old new : Laying T) (b : Bool) → ((n : ℕ) → E n ≡ F n) → LaysFit S F old new b → LaysFit S E old new b
  fit_alike F E old new true f p = goes_alike S F E (answer tt) (answer tt) old new f (λ n. refl) p
  fit_alike F E old new false f p = over_alike S F E old new f p

-- ---- what a call told

pub if_ok : {A E : Type 0} (P Q : A → Type 0) (o : Result A E) → ((a : A) → P a → Q a) → IfOk o P → IfOk o Q
if_ok P Q (Ok a) f h = f a h
if_ok P Q (Err e) f h = tt

module _ {R T : Type 0} (owns : R → T → Type 0) (denotes : R → T → Tree) (S : PlainSignature) (old new : Laying T) (r : R) where
  pub type_none : (F : ℕ → Judged Tree) (o : Option T) → ((t : T) → o ≡ Some t → ⊥) → LaysType owns denotes S F old new r o → IsOver S F old new
  type_none F None n h = h
  type_none F (Some t) n h = absurd (n t refl)

  pub type_some : (F : ℕ → Judged Tree) (o : Option T) (t : T) → o ≡ Some t → LaysType owns denotes S F old new r o → GoesOn S F (answer (denotes r t)) old new × owns r t
  type_some F o t e h = along_path (LaysType owns denotes S F old new r) e h

  pub product_none : (F : ℕ → Judged (Tree × Tree)) (o : Option (Product T)) → ((p : Product T) → o ≡ Some p → ⊥) → LaysProduct owns denotes S F old new r o → IsOver S F old new
  product_none F None n h = h
  product_none F (Some t) n h = absurd (n t refl)

  pub product_some : (F : ℕ → Judged (Tree × Tree)) (o : Option (Product T)) (p : Product T) → o ≡ Some p → LaysProduct owns denotes S F old new r o
      → GoesOn S F (answer (denotes r p.domain, denotes r p.codomain)) old new × owns r p.domain × owns r p.codomain
  product_some F o p e h = along_path (LaysProduct owns denotes S F old new r) e h

module _ (S : PlainSignature) {T : Type 0} (F : ℕ → Judged (Unit {0})) (old new : Laying T) where
  pub fit_false : (b : Bool) → b ≡ false → LaysFit S F old new b → IsOver S F old new
  fit_false b e h = along_path (LaysFit S F old new) e h

  pub fit_true : (b : Bool) → b ≡ true → LaysFit S F old new b → GoesOn S F (answer tt) old new
  fit_true b e h = along_path (LaysFit S F old new) e h

-- ---- the domain of an abstraction

module _ (S : PlainSignature) {T : Type 0} (V G : List Tree) (d A s : Tree) (old first second third : Laying T) where
  abbrev starred : Tree → ℕ → Judged (Unit {0})
  starred t n = next (as_star S t n) (λ u i. as_convertible S E21 (erased d) A i)

  pub domain_untyped : IsOver S (inferred S V G d) old first → IsOver S (domain_agrees S V G d A) old first
  domain_untyped p = over_next S (inferred S V G d) starred old first p

  typed : GoesOn S (inferred S V G d) (answer s) old first → GoesOn S (domain_agrees S V G d A) (starred s) old first
  typed p = goes_next S (inferred S V G d) (answer s) starred old first p

  pub domain_unsorted : GoesOn S (inferred S V G d) (answer s) old first → first.whole ≡ old.whole → IsOver S (as_star S s) first second → IsOver S (domain_agrees S V G d A) old second
  domain_unsorted p w q = goes_over S (domain_agrees S V G d A) (starred s) old first second (typed p) w (over_next S (as_star S s) (λ u i. as_convertible S E21 (erased d) A i) first second q)

  pub domain_compared : GoesOn S (inferred S V G d) (answer s) old first → first.whole ≡ old.whole → GoesOn S (as_star S s) (answer tt) first second → second.whole ≡ first.whole
      → (b : Bool) → LaysFit S (as_convertible S E21 (erased d) A) second third b → LaysFit S (domain_agrees S V G d A) old third b
  domain_compared p w q v b h = fit_after S (domain_agrees S V G d A) (as_convertible S E21 (erased d) A) old second third b
      (goes_then S (domain_agrees S V G d A) (starred s) (as_convertible S E21 (erased d) A) old first second (typed p) w
      (goes_next S (as_star S s) (answer tt) (λ u i. as_convertible S E21 (erased d) A i) first second q)) (v ∙ w) h
