-- The turns of an evaluation with selections that wait.
use Rattle.std.proofs.Common.{List, [], ◌∷◌, ◌++◌, ◌≡◌, ◌-◌, ◌<◌, ◌≤◌, ℕ, Some, None, Err, refl, ◌∙◌, ap, sym as flip, subst, arith, length}
use Rattle.dk_model.specs.Trees.{Tree}
use Rattle.dk_model.specs.Signatures.{PlainSignature}
use Rattle.dk_model.specs.Units.{Units}
use Rattle.dk_model.specs.Evaluation.{whnf_of}
use Rattle.dk_model.specs.declared.stop.Stop.{Stop}
use Rattle.dk_model.specs.declared.stop.Stop.TheVariants.{Ended, NoMemory}
use Rattle.dk_model.proofs.Fuel.{Within}
use Rattle.dk_model.proofs.Turns.{whnf_falls}
use Rattle.shared_term.specs.declared.id.TermId.{TermId}
use Rattle.shared_term.specs.Pools.{Node, term}
use Rattle.conversion.specs.declared.pauses.Pause.{Pause}
use Rattle.conversion.specs.declared.evaluate.Next.TheVariants.{Whole, Told}
use Rattle.conversion.specs.declared.state.Value.{Value}
use Rattle.conversion.specs.Given.{GivesTerm}
use Rattle.conversion.specs.Reducers.{IsValue}
use Rattle.conversion.specs.Pausing.{Continues, awaited, Await}
use Rattle.conversion.specs.Turning.{TurnsTo, IsDue, GoesNext}
use Rattle.conversion.proofs.Winding.{extends_none}
use Rattle.conversion.proofs.Serving.{value_made}
use Rattle.conversion.proofs.Pausing.{await_pushed, awaits_none, await_last, waits_end}

module _ (S : PlainSignature) where
  pub evaluation_ends : (old new last : List Node) (whole due : Units Tree) (ps : List Pause) (ids : List TermId) (stop : Stop) (left : ℕ)
      → Await S old whole ps due → TurnsTo S due new (Err stop) ids left → GivesTerm whole last (Err stop) left
  evaluation_ends old new last whole due ps ids Ended left w h = (awaits_none S old whole due ps w h.0, h.1)
  evaluation_ends old new last whole due ps ids NoMemory left w h = tt

  pub waiting_ends : (ns last : List Node) (whole : Units Tree) (ps : List Pause) (stop : Stop) (left : ℕ) → GoesNext S ns whole (Err stop) ps left → GivesTerm whole last (Err stop) left
  waiting_ends ns last whole ps Ended left h = h
  waiting_ends ns last whole ps NoMemory left h = tt

  pub await_done : (ns : List Node) (whole due : Units Tree) (ps : List Pause) → length ps ≡ 0 → Await S ns whole ps due → whole ≡ due
  await_done ns whole due [] e w = flip w
  await_done ns whole due (p ∷ ps) e w = absurd (omega (arith, e))

  -- the weak head form that the last one waits for is there
  module _ (ns : List Node) (whole due : Units Tree) (rest ps : List Pause) (p : Pause) (v : TermId) (n : ℕ) (is : ps ≡ rest ++ (p ∷ [])) (w : Await S ns whole ps due) (e : due ≡ Some (term ns v, n)) where
    last : (d : Units Tree) × Await S ns whole rest d × Continues S ns p d × (due ≡ awaited S ns p)
    last = await_last S ns whole due rest p (subst (λ (l : List Pause). Await S ns whole l due) is w)

    pub awaited_is : awaited S ns p ≡ Some (term ns v, n)
    awaited_is = flip last.3 ∙ e

    pub awaited_falls : n < p.start
    awaited_falls = subst (λ (u : Units Tree). Within p.start u) awaited_is (whnf_falls S p.start (term ns p.asked))

    pub told_next : (ids : List TermId) → (d : Units Tree) × Await S ns whole rest d × IsDue S ns (Told p v) ids n d
    told_next ids = (last.0, last.1, (last.2, awaited_is))

  pub awaited_value : (ns : List Node) (p : Pause) (id : TermId) (n : ℕ) → p.asked.0 < length ns → id.0 < length ns → awaited S ns p ≡ Some (term ns id, n) → IsValue S ns p.asked.0 (record { id = id; units = p.start - n })
  awaited_value ns p id n l k e = value_made S ns ns p.asked (record { id = id; units = p.start - n }) p.start n (extends_none ns) l k e refl

  -- a selection that asks for a weak head form, which is remembered or isn't

  module _ (ns : List Node) (whole due : Units Tree) (ps : List Pause) (p : Pause) (n : ℕ) (s : p.start ≡ n) (w : Await S ns whole ps due) (c : Continues S ns p due) where
    pub wait_ends : (v : Value) → IsValue S ns p.asked.0 v → n < v.units → whole ≡ None
    wait_ends v h l = awaits_none S ns whole due ps w (waits_end S ns p.waiter p.purpose p.asked p.start due c (ap (λ (k : ℕ). whnf_of S k (term ns p.asked)) s ∙ h.takes.ends n l))

    pub wait_told : (v : Value) → IsValue S ns p.asked.0 v → v.units ≤ n → (d : Units Tree) × Await S ns whole ps d × IsDue S ns (Told p v.id) [] (n - v.units) d
    wait_told v h l = (due, w, (c, ap (λ (k : ℕ). whnf_of S k (term ns p.asked)) s ∙ h.takes.suffices n l))

    pub wait_asks : (new : List Pause) → new ≡ ps ++ (p ∷ []) → (d : Units Tree) × Await S ns whole new d × IsDue S ns (Whole p.asked) [] n d
    wait_asks new e = (
      awaited S ns p,
      subst (λ (l : List Pause). Await S ns whole l (awaited S ns p)) (flip e) (await_pushed S ns whole due ps p w c),
      ap (λ (k : ℕ). whnf_of S k (term ns p.asked)) s,
    )
