-- For proofs: how a typing that is laid out goes on.
use Rattle.std.specs.Prelude.{ℕ, ◌≡◌, List, ◌++◌, Option, Some, None, Bool, true, false}
use Rattle.dk_model.specs.Trees.{Tree}
use Rattle.dk_model.specs.Signatures.{PlainSignature}
use Rattle.dk_model.specs.Erasure.{erased}
use Rattle.dk_model.specs.Typing.{Judged, answer, next, inferred, as_star, as_convertible}
use Rattle.dk_model.specs.declared.code.Code.TheVariants.{E21}
use Rattle.infer_check.specs.declared.product.Product.{Product}
use Rattle.split_check.specs.declared.laying.Laying.{Laying}
use Rattle.split_check.specs.declared.step.Step.{Step}
use Rattle.split_check.specs.Steps.{Onward, Stops, steps_due}

-- further steps, behind which G is left of F
pub record GoesOn (S : PlainSignature) {T A : Type 0} (F G : ℕ → Judged A) (old new : Laying T) : Type 0 where
  pub more : List Step
  pub grown : new.steps.items ≡ old.steps.items ++ more
  pub onward : Onward F old.whole (steps_due S old.whole more) G

-- further steps that are all of F
pub record IsOver (S : PlainSignature) {T A : Type 0} (F : ℕ → Judged A) (old new : Laying T) : Type 0 where
  pub more : List Step
  pub grown : new.steps.items ≡ old.steps.items ++ more
  pub stops : Stops F old.whole (steps_due S old.whole more)

-- what only steps change
pub record Stays {T : Type 0} (old new : Laying T) : Type 0 where
  pub context : new.walk.context ≡ old.walk.context
  pub whole : new.whole ≡ old.whole

-- whether there is an answer yet
abbrev pub LaysFit : PlainSignature → {T : Type 0} → (ℕ → Judged (Unit {0})) → Laying T → Laying T → Bool → Type 0
LaysFit S F old new true = GoesOn S F (answer tt) old new
LaysFit S F old new false = IsOver S F old new

-- whether there is a sort yet
abbrev pub LaysSort : PlainSignature → {T : Type 0} → (ℕ → Judged Tree) → Laying T → Laying T → Bool → Type 0
LaysSort S F old new true = (s : Tree) × GoesOn S F (answer s) old new
LaysSort S F old new false = IsOver S F old new

module _ {R T : Type 0} (owns : R → T → Type 0) (denotes : R → T → Tree) (S : PlainSignature) where
  -- a type of the reducer's
  abbrev pub LaysType : (ℕ → Judged Tree) → Laying T → Laying T → R → Option T → Type 0
  LaysType F old new r (Some t) = GoesOn S F (answer (denotes r t)) old new × owns r t
  LaysType F old new r None = IsOver S F old new

  -- the parts of a product
  abbrev pub LaysProduct : (ℕ → Judged (Tree × Tree)) → Laying T → Laying T → R → Option (Product T) → Type 0
  LaysProduct F old new r (Some p) = GoesOn S F (answer (denotes r p.domain, denotes r p.codomain)) old new × owns r p.domain × owns r p.codomain
  LaysProduct F old new r None = IsOver S F old new

-- a domain has the type `Type` and is convertible with A
abbrev pub domain_agrees : PlainSignature → List Tree → List Tree → Tree → Tree → ℕ → Judged (Unit {0})
domain_agrees S V G d A n = next (inferred S V G d n) (λ s m. next (as_star S s m) (λ u i. as_convertible S E21 (erased d) A i))
