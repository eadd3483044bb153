-- How a typing goes on by one step.
use Rattle.std.proofs.Common.{List, [], ◌∷◌, ◌++◌, ℕ, ◌≡◌, refl, ap, sym as flip, subst as along_path}
use Rattle.dk_model.specs.Trees.{Tree}
use Rattle.dk_model.specs.Signatures.{PlainSignature}
use Rattle.dk_model.specs.declared.code.Code.{Code}
use Rattle.dk_model.specs.Typing.{Judged, answer, as_product, as_star, as_convertible, inferred, checked, sort_of}
use Rattle.dk_model.specs.declared.code.Code.TheVariants.{E21}
use Rattle.dk_model.specs.declared.stop.TypeFault.{TypeFault}
use Rattle.dk_model.specs.declared.stop.TypeFault.TheVariants.{NoMemory}
use Rattle.dk_model.proofs.CountedTyping.{Counts}
use Rattle.infer_check.specs.Given.{Fails}
use Rattle.shared_term.specs.Storage.{stored_term}
use Rattle.infer_check.proofs.Moving.{checked_same}
use Rattle.split_parts.specs.Parts.{part}
use Rattle.split_check.specs.Steps.{fine_with, fault_with, Onward, Stops, sent_rule_types, sent_bound_types}
use Rattle.split_check.specs.Laying.{GoesOn, IsOver}
use Rattle.split_check.specs.declared.laying.Laying.{Laying}
use Rattle.split_check.specs.declared.step.Step.TheVariants.{Check, Done}
use Rattle.split_check.specs.declared.step.Part.{Part}
use Rattle.split_check.proofs.Faults.{fault_is, none_answered}
use Rattle.split_check.proofs.Onward.{one_check, one_fine, one_fault, product_counts, type_counts, fit_counts, same_counts, star_counts, sort_counts}

module _ (S : PlainSignature) {T A : Type 0} {F : ℕ → Judged A} (c : Counts F) (old new : Laying T) (left : ℕ) where
  pub goes_fine : (a : A) → F old.whole ≡ answer a left → new.steps.items ≡ old.steps.items ++ Done (fine_with old.whole left) ∷ [] → GoesOn S F (answer a) old new
  goes_fine a e g = record { more = Done (fine_with old.whole left) ∷ []; grown = g; onward = one_fine old.whole c a left e }

  pub over_fault : (f : TypeFault) → Fails f left (F old.whole) → ¬ (f ≡ NoMemory) → new.steps.items ≡ old.steps.items ++ Done (fault_with old.whole f left) ∷ [] → IsOver S F old new
  over_fault f e n g = record {
    more = Done (fault_with old.whole f left) ∷ [];
    grown = g;
    stops = along_path (λ r. Stops F old.whole (r ∷ [])) (flip (fault_is old.whole f left (F old.whole) n e))
        (one_fault old.whole c (F old.whole) refl (none_answered f left (F old.whole) n e));
  }

module _ (S : PlainSignature) {T : Type 0} (old new : Laying T) (left : ℕ) where
  pub product_goes : (x : Code) (t : Tree) (p : Tree × Tree) → as_product S x t old.whole ≡ answer p left → new.steps.items ≡ old.steps.items ++ Done (fine_with old.whole left) ∷ [] → GoesOn S (as_product S x t) (answer p) old new
  product_goes x t p = goes_fine S (product_counts S x t) old new left p

  pub product_over : (x : Code) (t : Tree) (f : TypeFault) → Fails f left (as_product S x t old.whole) → ¬ (f ≡ NoMemory) → new.steps.items ≡ old.steps.items ++ Done (fault_with old.whole f left) ∷ [] → IsOver S (as_product S x t) old new
  product_over x t = over_fault S (product_counts S x t) old new left

  pub type_goes : (V G : List Tree) (t u : Tree) → inferred S V G t old.whole ≡ answer u left → new.steps.items ≡ old.steps.items ++ Done (fine_with old.whole left) ∷ [] → GoesOn S (inferred S V G t) (answer u) old new
  type_goes V G t u = goes_fine S (type_counts S V G t) old new left u

  pub type_over : (V G : List Tree) (t : Tree) (f : TypeFault) → Fails f left (inferred S V G t old.whole) → ¬ (f ≡ NoMemory) → new.steps.items ≡ old.steps.items ++ Done (fault_with old.whole f left) ∷ [] → IsOver S (inferred S V G t) old new
  type_over V G t = over_fault S (type_counts S V G t) old new left

  pub fit_goes : (V G : List Tree) (t u : Tree) → checked S V G t u old.whole ≡ answer tt left → new.steps.items ≡ old.steps.items ++ Done (fine_with old.whole left) ∷ [] → GoesOn S (checked S V G t u) (answer tt) old new
  fit_goes V G t u = goes_fine S (fit_counts S V G t u) old new left tt

  pub fit_over : (V G : List Tree) (t u : Tree) (f : TypeFault) → Fails f left (checked S V G t u old.whole) → ¬ (f ≡ NoMemory) → new.steps.items ≡ old.steps.items ++ Done (fault_with old.whole f left) ∷ [] → IsOver S (checked S V G t u) old new
  fit_over V G t u = over_fault S (fit_counts S V G t u) old new left

  pub same_goes : (t u : Tree) → as_convertible S E21 t u old.whole ≡ answer tt left → new.steps.items ≡ old.steps.items ++ Done (fine_with old.whole left) ∷ [] → GoesOn S (as_convertible S E21 t u) (answer tt) old new
  same_goes t u = goes_fine S (same_counts S t u) old new left tt

  pub same_over : (t u : Tree) (f : TypeFault) → Fails f left (as_convertible S E21 t u old.whole) → ¬ (f ≡ NoMemory) → new.steps.items ≡ old.steps.items ++ Done (fault_with old.whole f left) ∷ [] → IsOver S (as_convertible S E21 t u) old new
  same_over t u = over_fault S (same_counts S t u) old new left

  pub star_goes : (t : Tree) → as_star S t old.whole ≡ answer tt left → new.steps.items ≡ old.steps.items ++ Done (fine_with old.whole left) ∷ [] → GoesOn S (as_star S t) (answer tt) old new
  star_goes t = goes_fine S (star_counts S t) old new left tt

  pub star_over : (t : Tree) (f : TypeFault) → Fails f left (as_star S t old.whole) → ¬ (f ≡ NoMemory) → new.steps.items ≡ old.steps.items ++ Done (fault_with old.whole f left) ∷ [] → IsOver S (as_star S t) old new
  star_over t = over_fault S (star_counts S t) old new left

  pub sort_goes : (V G : List Tree) (t s : Tree) → sort_of S V G t old.whole ≡ answer s left → new.steps.items ≡ old.steps.items ++ Done (fine_with old.whole left) ∷ [] → GoesOn S (sort_of S V G t) (answer s) old new
  sort_goes V G t s = goes_fine S (sort_counts S V G t) old new left s

  pub sort_over : (V G : List Tree) (t : Tree) (f : TypeFault) → Fails f left (sort_of S V G t old.whole) → ¬ (f ≡ NoMemory) → new.steps.items ≡ old.steps.items ++ Done (fault_with old.whole f left) ∷ [] → IsOver S (sort_of S V G t) old new
  sort_over V G t = over_fault S (sort_counts S V G t) old new left

-- a check that is left to another thread
pub part_goes : {T : Type 0} (S : PlainSignature) (old new : Laying T) (p : Part) (V G : List Tree) (t d : Tree) → sent_rule_types p.context ≡ V → sent_bound_types p.context ≡ G → stored_term p.argument ≡ t
    → stored_term p.domain ≡ d → new.steps.items ≡ old.steps.items ++ Check p ∷ [] → GoesOn S (checked S V G t d) (answer tt) old new
part_goes S old new p V G t d v g a b e = record {
  more = Check p ∷ [];
  grown = e;
  onward = along_path (λ r. Onward (checked S V G t d) old.whole (r ∷ []) (answer tt)) (ap (part old.whole) (flip (checked_same S old.whole v g a b))) (one_check old.whole (fit_counts S V G t d));
}
