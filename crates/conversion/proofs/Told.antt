-- What a selection that waited is told: a pair or a part goes on with its weak head form.
use Rattle.std.proofs.Common.{List, [], ◌∷◌, ◌++◌, ◌≡◌, ◌<◌, ◌-◌, ℕ, Some, None, refl, ap, ◌∙◌, sym as flip, subst, arith, length}
use Rattle.dk_model.specs.Trees.{Tree}
use Rattle.dk_model.specs.Signatures.{PlainSignature}
use Rattle.dk_model.specs.Units.{Units}
use Rattle.dk_model.specs.Parts.{each_normal}
use Rattle.dk_model.specs.Evaluation.{whnf_of, normal_of}
use Rattle.dk_model.proofs.Fuel.{Within}
use Rattle.dk_model.proofs.Turns.{whnf_falls}
use Rattle.shared_term.specs.declared.id.TermId.{TermId}
use Rattle.shared_term.specs.Pools.{Node, term}
use Rattle.conversion.specs.declared.compare.Step.{Step}
use Rattle.conversion.specs.declared.compare.Step.TheVariants.{Conclude as ConcludePair}
use Rattle.conversion.specs.declared.compare.OpenPair.{OpenPair}
use Rattle.conversion.specs.declared.normal.Frame.{Frame}
use Rattle.conversion.specs.declared.normal.Frame.TheVariants.{Conclude}
use Rattle.conversion.specs.declared.normal.OpenPart.{OpenPart}
use Rattle.conversion.specs.declared.pauses.Waiter.{Waiter}
use Rattle.conversion.specs.Pending.{parts_compared, IsUnderWay}
use Rattle.conversion.specs.Waiting.{IsResumed}
use Rattle.conversion.specs.Pausing.{ComparesFor, NormalisesFor}
use Rattle.conversion.proofs.Winding.{extends_none}
use Rattle.conversion.proofs.Comparing.{pair_opens}
use Rattle.conversion.proofs.Waiting.{part_weak}
use Rattle.conversion.proofs.Pausing.{first_is}

module _ (S : PlainSignature) (ns : List Node) (w : Waiter) where
  -- a weak head form takes a unit
  falls : (t v : Tree) (n m : ℕ) → whnf_of S n t ≡ Some (v, m) → m < n
  falls t v n m e = subst (λ (u : Units Tree). Within n u) e (whnf_falls S n t)

  pub pair_next : (steps : List Step) (p : OpenPair) (t v : TermId) (n left : ℕ) (due : Units Tree) → ComparesFor S ns w steps p None t n due → v.0 < length ns → whnf_of S n (term ns t) ≡ Some (term ns v, left)
      → ComparesFor S ns w steps p (Some v) p.second left due
  pair_next steps p t v n left due h l e = record {
    alike = h.alike;
    open_pair = h.open_pair;
    awaits = (refl, l, flip (first_is S ns p t n h.awaits) ∙ e);
    further = h.further;
  }

  pub pair_told : (steps : List Step) (p : OpenPair) (x t v : TermId) (n left : ℕ) (due : Units Tree) (h : ComparesFor S ns w steps p (Some x) t n due) → v.0 < length ns → whnf_of S n (term ns t) ≡ Some (term ns v, left)
      → IsUnderWay S ns h.alike (parts_compared S (term ns x) (term ns v) left) left (steps ++ (ConcludePair p.first p.second p.before ∷ []))
  pair_told steps p x t v n left due h l e =
      let a = falls (term ns p.first) (term ns x) (p.before - 1) n h.awaits.2 in
      let b = falls (term ns t) (term ns v) n left e in
      pair_opens S ns ns ns h.alike n left p x v steps h.open_pair (omega (arith, a, b)) (extends_none ns) (extends_none ns) h.awaits.1 h.awaits.2
      (ap (λ (k : TermId). whnf_of S n (term ns k)) (flip h.awaits.0) ∙ e)

  pub part_told : (fs : List Frame) (p : OpenPart) (t v : TermId) (n left : ℕ) (due : Units Tree) (h : NormalisesFor S ns w fs p t n due) → whnf_of S n (term ns t) ≡ Some (term ns v, left)
      → IsResumed S ns h.normal (each_normal (normal_of S) (term ns v) left) left (fs ++ (Conclude p.part p.before ∷ []))
  part_told fs p t v n left due h e =
      let b = falls (term ns t) (term ns v) n left e in
      part_weak S ns ns fs h.normal p v left (omega (arith, b, h.start)) (extends_none ns)
      ((λ i. whnf_of S ((let q : p.before - 1 ≡ n = omega (arith, h.start) in q) i) (term ns (flip h.asked i))) ∙ e) h.open_part
