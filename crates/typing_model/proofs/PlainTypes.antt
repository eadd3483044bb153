-- Types without annotations: those of variables, of all rule variables, and the parts of a product.
use Rattle.std.specs.Prelude.{slice_get, replicate, Contains}
use Rattle.std.proofs.Common.{List, [], ◌∷◌, ℕ, zero, suc, ◌+◌, ◌≡◌, Option, Some, None}
use Rattle.dk_model.specs.declared.code.Code.{Code}
use Rattle.dk_model.specs.Trees.{Tree, kind, product}
use Rattle.dk_model.specs.Substitution.{shift}
use Rattle.dk_model.specs.Erasure.{IsPlain}
use Rattle.dk_model.specs.Signatures.{PlainRule, PlainSignature}
use Rattle.dk_model.specs.SymbolRules.{rules_of}
use Rattle.dk_model.specs.TypingOver.{Evaluator, answer, variable_type, as_product}
use Rattle.dk_model.specs.RuleTypingOver.{all_types}
use Rattle.typing_model.specs.Laws.{Reduces}
use Rattle.typing_model.specs.Conditions.{IsPlainOption}
use Rattle.typing_model.proofs.Typing.{product_reduces}
use Rattle.typing_model.proofs.Plain.{ArePlain, plain_shift, reduct_plain}

abbrev pub ArePlainOptions : List (Option Tree) → Type 0
ArePlainOptions [] = Unit {0}
ArePlainOptions (o ∷ os) = IsPlainOption o × ArePlainOptions os

pub none_plain : (n : ℕ) → ArePlainOptions (replicate n None)
none_plain zero = tt
none_plain (suc n) = (tt, none_plain n)

pub all_plain : (os : List (Option Tree)) → ArePlainOptions os → ArePlain (all_types os)
all_plain [] h = tt
all_plain (None ∷ os) h = (tt, all_plain os h.1)
all_plain (Some T ∷ os) h = (h.0, all_plain os h.1)

shifted_plain : (d : ℕ) (o : Option Tree) → IsPlainOption o → IsPlain (elim o as (λ _. Tree) [ None ↦ kind | Some t ↦ shift 0 d t ])
shifted_plain d None h = tt
shifted_plain d (Some t) h = plain_shift 0 d t h

got_plain : (G : List Tree) (k : ℕ) → ArePlain G → IsPlainOption (slice_get G k)
got_plain [] k h = tt
got_plain (t ∷ G) zero h = h.0
got_plain (t ∷ G) (suc k) h = got_plain G k h.1

pub variable_plain : (G : List Tree) (k : ℕ) → ArePlain G → IsPlain (variable_type G k)
variable_plain G k h = shifted_plain (k + 1) (slice_get G k) (got_plain G k h)

module _ (S : PlainSignature) {X : Type 0} (Ev : Evaluator X) (M : Reduces S Ev)
    (R : (k : ℕ) (r : PlainRule) → Contains (rules_of S k) r → IsPlain r.right) where
  pub product_plain : (c : Code) (T : Tree) (n m : X) (p : Tree × Tree) → as_product Ev c T n ≡ answer p m → IsPlain T → IsPlain p.0 × IsPlain p.1
  product_plain c T n m p e i = reduct_plain S R T (product p.0 p.1) (product_reduces S Ev M c T n m p e) i
