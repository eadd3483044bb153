-- A declared type and its body, laid out from the beginning.
use Rattle.std.proofs.Common.{List, [], ◌++◌, ℕ, ◌≡◌, refl, ap, sym as flip, subst as along_path, ◌∙◌, Bool, true, false, Some, inl, inr}
use Rattle.dk_model.specs.Trees.{Tree}
use Rattle.dk_model.specs.Signatures.{PlainSignature}
use Rattle.dk_model.specs.Answering.{IsVerdictOrMemory}
use Rattle.dk_model.specs.Erasure.{erased}
use Rattle.dk_model.specs.Typing.{Judged, answer, refused, ended, checked, sort_of}
use Rattle.dk_model.specs.Verdicts.{declaration_checked}
use Rattle.dk_model.specs.Verdicts.{verdict}
use Rattle.dk_model.specs.declared.code.Verdict.{Verdict}
use Rattle.dk_model.specs.declared.code.Verdict.TheVariants.{Accepted, Refused as RefusedBy, Ended as OutOfUnits, Memory as OutOfMemory}
use Rattle.split_parts.specs.Parts.{combined, part}
use Rattle.split_parts.specs.declared.part.PartOut.{PartOut}
use Rattle.split_parts.specs.declared.part.PartOut.TheVariants as out
use Rattle.split_check.specs.Due.{AreDue, IsDue}
use Rattle.split_check.proofs.Dues.{combined_due}
use Rattle.split_parts.specs.declared.part.PartResult.{PartResult}
use Rattle.split_check.specs.Steps.{steps_due}
use Rattle.split_check.specs.Laying.{GoesOn, IsOver, LaysFit, LaysSort}
use Rattle.split_check.specs.declared.laying.Laying.{Laying}
use Rattle.split_check.proofs.Joining.{fit_after, fit_alike, goes_next, goes_alike, over_next, over_alike}
use Rattle.split_check.proofs.Onward.{all_onward, all_stops}

module _ (S : PlainSignature) {T : Type 0} (F : ℕ → Judged Tree) (old new : Laying T) where
  pub sort_false : (b : Bool) → b ≡ false → LaysSort S F old new b → IsOver S F old new
  sort_false b e h = along_path (LaysSort S F old new) e h

  pub sort_true : (b : Bool) → b ≡ true → LaysSort S F old new b → (s : Tree) × GoesOn S F (answer s) old new
  sort_true b e h = along_path (LaysSort S F old new) e h

module _ (S : PlainSignature) {T : Type 0} (F : ℕ → Judged (Unit {0})) (old new : Laying T) (none : old.steps.items ≡ []) where
  laid_over : IsOver S F old new → combined (steps_due S old.whole new.steps.items) old.whole ≡ part old.whole (F old.whole)
  laid_over p = ap (λ xs. combined (steps_due S old.whole xs) old.whole) (p.grown ∙ ap (λ xs. xs ++ p.more) none) ∙ all_stops F old.whole (steps_due S old.whole p.more) p.stops

  laid_fit : (b : Bool) → LaysFit S F old new b → combined (steps_due S old.whole new.steps.items) old.whole ≡ part old.whole (F old.whole)
  laid_fit true p = ap (λ xs. combined (steps_due S old.whole xs) old.whole) (p.grown ∙ ap (λ xs. xs ++ p.more) none) ∙ all_onward F old.whole (steps_due S old.whole p.more) tt p.onward
  laid_fit false p = laid_over p

module _ (S : PlainSignature) {T : Type 0} (A b a : Tree) (V G : List Tree) (v : V ≡ []) (g : G ≡ []) (e : a ≡ A) (old mid new : Laying T) (none : old.steps.items ≡ []) where
  abbrev fits : Tree → ℕ → Judged (Unit {0})
  fits s m = checked S [] [] b (erased A) m

  sorted : (n : ℕ) → sort_of S [] [] A n ≡ sort_of S V G a n
  sorted n = λ i. sort_of S (flip v i) (flip g i) (flip e i) n

  pub declared_over : IsOver S (sort_of S V G a) old new → combined (steps_due S old.whole new.steps.items) old.whole ≡ part old.whole (declaration_checked S (Some A) (Some b) old.whole)
  declared_over p = laid_over S (declaration_checked S (Some A) (Some b)) old new none
      (over_next S (sort_of S [] [] A) fits old new (over_alike S (sort_of S V G a) (sort_of S [] [] A) old new sorted p))

  pub declared_fit : (s : Tree) → GoesOn S (sort_of S V G a) (answer s) old mid → mid.whole ≡ old.whole → (t F : Tree) (W H : List Tree) → W ≡ [] → H ≡ [] → t ≡ b → F ≡ erased A
      → (q : Bool) → LaysFit S (checked S W H t F) mid new q → combined (steps_due S old.whole new.steps.items) old.whole ≡ part old.whole (declaration_checked S (Some A) (Some b) old.whole)
  declared_fit s p w t F W H x y z f q h = laid_fit S (declaration_checked S (Some A) (Some b)) old new none q
      (fit_after S (declaration_checked S (Some A) (Some b)) (checked S [] [] b (erased A)) old mid new q
      (goes_next S (sort_of S [] [] A) (answer s) fits old mid (goes_alike S (sort_of S V G a) (sort_of S [] [] A) (answer s) (answer s) old mid sorted (λ n. refl) p)) w
      (fit_alike S (checked S W H t F) (checked S [] [] b (erased A)) mid new q (λ n. λ i. checked S (flip x i) (flip y i) (flip z i) (flip f i) n) h))

-- ---- the verdict that is told

abbrev pub verdict_by : PartOut → Verdict
verdict_by out.Fine = Accepted
verdict_by (out.Refused c) = RefusedBy c
verdict_by out.Ended = OutOfUnits
verdict_by out.Memory = OutOfMemory

by_part : (B : ℕ) (due : Judged (Unit {0})) → verdict_by (part B due).out ≡ verdict due
by_part B (answer a n) = refl
by_part B (refused c n) = refl
by_part B ended = refl

itself : (due : Judged (Unit {0})) → IsVerdictOrMemory (verdict due) (verdict due)
itself (answer a n) = refl
itself (refused c n) = refl
itself ended = refl

pub told_due : (due : Judged (Unit {0})) (B : ℕ) (found : PartResult) (o : PartOut) → found.out ≡ o → IsDue (part B due) found → IsVerdictOrMemory (verdict due) (verdict_by o)
told_due due B found o e (inl f) = along_path (IsVerdictOrMemory (verdict due)) (flip (ap verdict_by (flip e ∙ ap (λ (p : PartResult). p.out) f) ∙ by_part B due)) (itself due)
told_due due B found o e (inr f) = along_path (λ p. IsVerdictOrMemory (verdict due) (verdict_by p)) (flip f ∙ e) tt

pub results_due : (B : ℕ) (ds rs : List PartResult) (due : Judged (Unit {0})) (r : PartResult) → combined ds B ≡ part B due → AreDue ds rs → r ≡ combined rs B → IsDue (part B due) r
results_due B ds rs due r e h f = along_path (λ p. IsDue p r) e (combined_due B ds rs r h f)

pub accepted_due : (due v : Verdict) → IsVerdictOrMemory due v → v ≡ Accepted → due ≡ Accepted
accepted_due due v h e = flip (along_path (IsVerdictOrMemory due) e h)
