-- Selections that wait, and how they go on.
use Rattle.std.proofs.Common.{List, [], ◌∷◌, ◌++◌, ◌≡◌, ◌<◌, ◌-◌, ℕ, Bool, Option, Some, None, refl, ap, ◌∙◌, sym as flip, subst, arith, length}
use Rattle.dk_model.specs.Trees.{Tree}
use Rattle.dk_model.specs.Signatures.{PlainSignature}
use Rattle.dk_model.specs.Units.{Units}
use Rattle.dk_model.specs.Evaluation.{whnf_of, normal_of}
use Rattle.shared_term.specs.declared.id.TermId.{TermId}
use Rattle.shared_term.specs.Pools.{Node, term, Extends}
use Rattle.rule_match.specs.declared.matcher.Answer.{Answer}
use Rattle.rule_match.specs.declared.matcher.Answer.TheVariants.{Value, Normal}
use Rattle.rule_match.proofs.Larger.{matcher_grown}
use Rattle.conversion.specs.declared.compare.Step.{Step}
use Rattle.conversion.specs.declared.compare.OpenPair.{OpenPair}
use Rattle.conversion.specs.declared.normal.Frame.{Frame}
use Rattle.conversion.specs.declared.normal.OpenPart.{OpenPart}
use Rattle.conversion.specs.declared.pauses.Waiter.{Waiter}
use Rattle.conversion.specs.declared.pauses.Purpose.{Purpose}
use Rattle.conversion.specs.declared.pauses.Purpose.TheVariants.{Column, Compares, Normalises}
use Rattle.conversion.specs.declared.pauses.Pause.{Pause}
use Rattle.conversion.specs.Pending.{pending, pair_compared, IsUnderWay, IsOpenPair}
use Rattle.conversion.specs.Waiting.{IsResumed, IsOpenPart}
use Rattle.conversion.specs.Pausing.{GoesOnWith, GoesOnWhether, AwaitsPair, WaitsFor, Continues, awaited, IsWaiter, IsPause, ArePauses, Await}
use Rattle.shared_term.proofs.Winding.{within_grown}
use Rattle.conversion.proofs.Winding.{extends_none, extends_more}
use Rattle.conversion.proofs.Comparing.{way_grown as comparison_grown, pair_first_ends, pair_second_ends}
use Rattle.conversion.proofs.Waiting.{way_grown as normal_grown, ended, weak_ends}

-- a larger pool

pub waiter_grown : (S : PlainSignature) (old new : List Node) (w : Waiter) → Extends old new → IsWaiter S (length old) w → IsWaiter S (length new) w
waiter_grown S old new w x h = record { matcher = matcher_grown old new w.matcher x h.matcher; stands = h.stands; stack = within_grown old new w.stack.items x h.stack }

pause_grown : (S : PlainSignature) (old new : List Node) (p : Pause) → Extends old new → IsPause S (length old) p → IsPause S (length new) p
pause_grown S old new p x h = record { waiter = waiter_grown S old new p.waiter x h.waiter; fits = h.fits; asked = omega (arith, x.longer, h.asked) }

pub pauses_grown : (S : PlainSignature) (old new : List Node) (ps : List Pause) → Extends old new → ArePauses S (length old) ps → ArePauses S (length new) ps
pauses_grown S old new [] x h = tt
pauses_grown S old new (p ∷ ps) x h = (pause_grown S old new p x h.0, pauses_grown S old new ps x h.1)

pub pauses_pushed : (S : PlainSignature) (n : ℕ) (ps : List Pause) (p : Pause) → ArePauses S n ps → IsPause S n p → ArePauses S n (ps ++ (p ∷ []))
pauses_pushed S n [] p h l = (l, tt)
pauses_pushed S n (q ∷ ps) p h l = (h.0, pauses_pushed S n ps p h.1 l)

pub pauses_popped : (S : PlainSignature) (n : ℕ) (ps : List Pause) (p : Pause) → ArePauses S n (ps ++ (p ∷ [])) → ArePauses S n ps
pauses_popped S n [] p h = tt
pauses_popped S n (q ∷ ps) p h = (h.0, pauses_popped S n ps p h.1)

pub popped_pause : (S : PlainSignature) (n : ℕ) (ps : List Pause) (p : Pause) → ArePauses S n (ps ++ (p ∷ [])) → IsPause S n p
popped_pause S n [] p h = h.0
popped_pause S n (q ∷ ps) p h = popped_pause S n ps p h.1

module _ (S : PlainSignature) (old new : List Node) (x : Extends old new) where
  pub with_grown : (w : Waiter) (told : TermId → Answer) (asked due : Units Tree) → GoesOnWith S old w told asked due → GoesOnWith S new w told asked due
  with_grown w told asked due g = record { ends = g.ends; goes = λ last v n y e. g.goes last v n (extends_more old new last x y) e }

  pub whether_grown : (w : Waiter) (asked : Units Bool) (due : Units Tree) → GoesOnWhether S old w asked due → GoesOnWhether S new w asked due
  whether_grown w asked due g = record { ends = g.ends; goes = λ last alike n y e. g.goes last alike n (extends_more old new last x y) e }

  pub pair_grown : (due : Units Bool) (steps : List Step) (p : OpenPair) → IsOpenPair S old due steps p → IsOpenPair S new due steps p
  pair_grown due steps p h =
      let a : term new p.first ≡ term old p.first = x.keeps p.first.0 h.first in
      let b : term new p.second ≡ term old p.second = x.keeps p.second.0 h.second in
      let way : IsUnderWay S new due (pair_compared S (term old p.first) (term old p.second) p.before) p.before steps = comparison_grown S old new due (pair_compared S (term old p.first) (term old p.second) p.before) p.before steps x h.way in record {
        way = subst (λ (t : Tree). IsUnderWay S new due (pair_compared S t (term new p.second) p.before) p.before steps) (flip a)
            (subst (λ (u : Tree). IsUnderWay S new due (pair_compared S (term old p.first) u p.before) p.before steps) (flip b) way);
        first = omega (arith, x.longer, h.first);
        second = omega (arith, x.longer, h.second);
        differ = λ e. h.differ (flip a ∙ e ∙ b);
        some = h.some;
      }

  pub part_grown : (due : Units Tree) (fs : List Frame) (p : OpenPart) → IsOpenPart S old due fs p → IsOpenPart S new due fs p
  part_grown due fs p h =
      let a : term new p.part ≡ term old p.part = x.keeps p.part.0 h.part in record {
        way = subst (λ (t : Tree). IsResumed S new due (normal_of S p.before t) p.before fs) (flip a) (normal_grown S old new fs due (normal_of S p.before (term old p.part)) p.before x h.way);
        part = omega (arith, x.longer, h.part);
        some = h.some;
      }

  pair_awaits : (p : OpenPair) (v : Option TermId) (t : TermId) (n : ℕ) → p.first.0 < length old → AwaitsPair S old p v t n → AwaitsPair S new p v t n
  pair_awaits p None t n l h = h
  pair_awaits p (Some v) t n l h = (h.0, omega (arith, x.longer, h.1), ap (whnf_of S (p.before - 1)) (x.keeps p.first.0 l) ∙ h.2 ∙ ap (λ (u : Tree). Some (u, n)) (flip (x.keeps v.0 h.1)))

  waits_grown : (w : Waiter) (u : Purpose) (t : TermId) (n : ℕ) (due : Units Tree) → t.0 < length old → WaitsFor S old w u t n due → WaitsFor S new w u t n due
  waits_grown w Column t n due l h =
      subst (λ (e : Units Tree). GoesOnWith S new w (λ v. Value v) e due) (ap (whnf_of S n) (flip (x.keeps t.0 l))) (with_grown w (λ v. Value v) (whnf_of S n (term old t)) due h)
  waits_grown w (Compares steps p v) t n due l h = record {
    alike = h.alike;
    open_pair = pair_grown h.alike steps.items p h.open_pair;
    awaits = pair_awaits p v t n h.open_pair.first h.awaits;
    further = whether_grown w h.alike due h.further;
  }
  waits_grown w (Normalises fs p) t n due l h = record {
    normal = h.normal;
    open_part = part_grown h.normal fs.items p h.open_part;
    asked = h.asked;
    start = h.start;
    further = with_grown w (λ v. Normal v) h.normal due h.further;
  }

  continues_grown : (whole : Units Tree) (p : Pause) → p.asked.0 < length old → Continues S old p whole → Continues S new p whole
  continues_grown whole p l c = waits_grown p.waiter p.purpose p.asked p.start whole l c

  pub await_grown : (whole due : Units Tree) (ps : List Pause) → ArePauses S (length old) ps → Await S old whole ps due → Await S new whole ps due
  await_grown whole due [] h w = w
  await_grown whole due (p ∷ ps) h w =
      let e : awaited S old p ≡ awaited S new p = flip (ap (whnf_of S p.start) (x.keeps p.asked.0 h.0.asked)) in
      (continues_grown whole p h.0.asked w.0, subst (λ (d : Units Tree). Await S new d ps due) e (await_grown (awaited S old p) due ps h.1 w.1))

module _ (S : PlainSignature) (ns : List Node) where
  -- the first one of those of a pair is the one that is asked for
  pub first_is : (p : OpenPair) (t : TermId) (n : ℕ) → AwaitsPair S ns p None t n → whnf_of S n (term ns t) ≡ whnf_of S (p.before - 1) (term ns p.first)
  first_is p t n h = λ i. whnf_of S ((let e : n ≡ p.before - 1 = omega (arith, h.1) in e) i) (term ns (h.0 i))

  pub waits_end : (w : Waiter) (u : Purpose) (t : TermId) (n : ℕ) (due : Units Tree) → WaitsFor S ns w u t n due → whnf_of S n (term ns t) ≡ None → due ≡ None
  waits_end w Column t n due h e = h.ends e
  waits_end w (Compares steps p None) t n due h e =
      h.further.ends (h.open_pair.way.comes ∙ pair_first_ends S ns p.before p.first p.second (pending ns steps.items) h.open_pair.some h.open_pair.differ (flip (first_is p t n h.awaits) ∙ e))
  waits_end w (Compares steps p (Some v)) t n due h e =
      h.further.ends (h.open_pair.way.comes ∙ pair_second_ends S ns ns p.before n p.first p.second v (pending ns steps.items) h.open_pair.some h.open_pair.differ h.open_pair.second (extends_none ns) h.awaits.2
      (ap (λ (k : TermId). whnf_of S n (term ns k)) (flip h.awaits.0) ∙ e))
  waits_end w (Normalises fs p) t n due h e =
      h.further.ends (h.open_part.way.comes ∙ ended S ns fs.items (normal_of S p.before (term ns p.part)) (weak_ends S p.before (term ns p.part) h.open_part.some
      ((λ i. whnf_of S ((let q : p.before - 1 ≡ n = omega (arith, h.start) in q) i) (term ns (flip h.asked i))) ∙ e)))

  pub await_due : (whole due due' : Units Tree) (ps : List Pause) → due ≡ due' → Await S ns whole ps due → Await S ns whole ps due'
  await_due whole due due' ps e w = subst (λ (d : Units Tree). Await S ns whole ps d) e w

  pub await_pushed : (whole due : Units Tree) (ps : List Pause) (p : Pause) → Await S ns whole ps due → Continues S ns p due → Await S ns whole (ps ++ (p ∷ [])) (awaited S ns p)
  await_pushed whole due [] p w c = (subst (λ (d : Units Tree). Continues S ns p d) w c, refl)
  await_pushed whole due (q ∷ ps) p w c = (w.0, await_pushed (awaited S ns q) due ps p w.1 c)

  pub await_none : (whole : Units Tree) (ps : List Pause) → Await S ns whole ps None → whole ≡ None
  await_none whole [] w = flip w
  await_none whole (p ∷ ps) w = waits_end p.waiter p.purpose p.asked p.start whole w.0 (await_none (awaited S ns p) ps w.1)

  pub awaits_none : (whole due : Units Tree) (ps : List Pause) → Await S ns whole ps due → due ≡ None → whole ≡ None
  awaits_none whole due ps w e = await_none whole ps (await_due whole due None ps e w)

  -- the last one, and those before it
  pub await_last : (whole due : Units Tree) (ps : List Pause) (p : Pause) → Await S ns whole (ps ++ (p ∷ [])) due
      → (d : Units Tree) × Await S ns whole ps d × Continues S ns p d × (due ≡ awaited S ns p)
  await_last whole due [] p w = (whole, refl, w.0, w.1)
  await_last whole due (q ∷ ps) p w = let r = await_last (awaited S ns q) due ps p w.1 in (r.0, (w.0, r.1), r.2, r.3)
