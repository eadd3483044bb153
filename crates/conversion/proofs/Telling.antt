-- Selections that are told what they waited for, and evaluations that stop.
use Rattle.std.proofs.Common.{List, ◌≡◌, ◌-◌, ◌+◌, ℕ, Bool, None, Err, ap, ◌∙◌, sym as flip, subst, arith, length}
use Rattle.dk_model.specs.Trees.{Tree}
use Rattle.dk_model.specs.Signatures.{PlainSignature}
use Rattle.dk_model.specs.Units.{Units}
use Rattle.dk_model.specs.Evaluation.{whnf_of, normal_of}
use Rattle.dk_model.specs.declared.stop.Stop.{Stop}
use Rattle.dk_model.specs.declared.stop.Stop.TheVariants.{Ended, NoMemory}
use Rattle.shared_term.specs.declared.id.TermId.{TermId}
use Rattle.shared_term.specs.Pools.{Node, term}
use Rattle.rule_match.specs.declared.matcher.Answer.{Answer}
use Rattle.rule_match.specs.Selecting.{Fits}
use Rattle.conversion.specs.declared.selection.Selection.{Selection}
use Rattle.conversion.specs.declared.compare.Step.{Step}
use Rattle.conversion.specs.declared.compare.OpenPair.{OpenPair}
use Rattle.conversion.specs.declared.normal.Frame.{Frame}
use Rattle.conversion.specs.declared.normal.OpenPart.{OpenPart}
use Rattle.conversion.specs.declared.pauses.Waiter.{Waiter}
use Rattle.conversion.specs.Given.{GivesTerm, GivesBool, Recalls}
use Rattle.conversion.specs.Pending.{pending, IsOpenPair, GivesCompared}
use Rattle.conversion.specs.Waiting.{IsResumed, IsOpenPart, MeetsPart, GivesNormal}
use Rattle.conversion.specs.Pausing.{IsSelection, answered, rewritten_by, IsWaiter}
use Rattle.conversion.specs.Turning.{TurnsTo}
use Rattle.conversion.proofs.Comparing.{pair_first_ends}
use Rattle.conversion.proofs.Waiting.{ended, weak_ends}

module _ (S : PlainSignature) where
  -- a selection goes on with its answer
  pub selection_told : (ns : List Node) (w : Waiter) (answer : Answer) (s : Selection) (ids : List TermId) (due : Units Tree) (left : ℕ) → s ≡ answered w answer → ids ≡ w.stack.items
      → due ≡ rewritten_by S ns (answered w answer) w.stack.items left → IsWaiter S (length ns) w → Fits (length ns) w.matcher answer
      → (due ≡ rewritten_by S ns s ids left) × IsSelection S (length ns) s
  selection_told ns w answer s ids due left e q d h f = (
    d ∙ flip (λ i. rewritten_by S ns (e i) (q i) left),
    subst (IsSelection S (length ns)) (flip e) (record { matcher = h.matcher; answer = f; stands = h.stands }),
  )

  -- an evaluation that stops

  pub compared_stops : (ns : List Node) (due due' : Units Bool) (stop : Stop) (steps : List Step) (left : ℕ) → due ≡ due' → GivesCompared S due' ns (Err stop) steps left → GivesBool due (Err stop) left
  compared_stops ns due due' Ended steps left e h = (e ∙ h.0, h.1)
  compared_stops ns due due' NoMemory steps left e h = tt

  pub weak_stops : (w : Units Tree) (due : Units Bool) (ns : List Node) (stop : Stop) (left : ℕ) → (w ≡ None → due ≡ None) → GivesTerm w ns (Err stop) left → GivesBool due (Err stop) left
  weak_stops w due ns Ended left h g = (h g.0, g.1)
  weak_stops w due ns NoMemory left h g = tt

  pub normal_stops : (ns last : List Node) (due due' : Units Tree) (stop : Stop) (fs : List Frame) (left : ℕ) → due ≡ due' → GivesNormal S due' ns (Err stop) fs left → GivesTerm due last (Err stop) left
  normal_stops ns last due due' Ended fs left e h = (e ∙ h.0, h.1)
  normal_stops ns last due due' NoMemory fs left e h = tt

  pub part_stops : (w due : Units Tree) (ns last : List Node) (stop : Stop) (left : ℕ) → (w ≡ None → due ≡ None) → GivesTerm w ns (Err stop) left → GivesTerm due last (Err stop) left
  part_stops w due ns last Ended left h g = (h g.0, g.1)
  part_stops w due ns last NoMemory left h g = tt

  pub met_stops : (ns last : List Node) (due : Units Tree) (t : TermId) (n : ℕ) (stop : Stop) (fs fs' : List Frame) (left : ℕ) → IsResumed S ns due (normal_of S n (term ns t)) n fs → MeetsPart S ns t n (Err stop) left
      → GivesNormal S due last (Err stop) fs' left
  met_stops ns last due t n Ended fs fs' left w h = (w.comes ∙ ended S ns fs (normal_of S n (term ns t)) h.0, h.1)
  met_stops ns last due t n NoMemory fs fs' left w h = tt

  -- a selection that waited for what ends
  pub waited_stops : (w : Units Bool) (due : Units Tree) (ns : List Node) (stop : Stop) (steps : List Step) (ids : List TermId) (left : ℕ) → (w ≡ None → due ≡ None) → GivesCompared S w ns (Err stop) steps left
      → TurnsTo S due ns (Err stop) ids left
  waited_stops w due ns Ended steps ids left h g = (h g.0, g.1)
  waited_stops w due ns NoMemory steps ids left h g = tt

  pub normal_waited_stops : (w due : Units Tree) (ns : List Node) (stop : Stop) (fs : List Frame) (ids : List TermId) (left : ℕ) → (w ≡ None → due ≡ None) → GivesNormal S w ns (Err stop) fs left
      → TurnsTo S due ns (Err stop) ids left
  normal_waited_stops w due ns Ended fs ids left h g = (h g.0, g.1)
  normal_waited_stops w due ns NoMemory fs ids left h g = tt

  pub recalled_stops : (w due : Units Tree) (ns : List Node) (n : ℕ) (stop : Stop) (ids : List TermId) (left : ℕ) → (w ≡ None → due ≡ None) → Recalls w ns n (Err stop) left → TurnsTo S due ns (Err stop) ids left
  recalled_stops w due ns n Ended ids left h g = (h g.0, g.1)
  recalled_stops w due ns n NoMemory ids left h g = tt

  -- the weak head forms of a pair, and of a part, from what is left once its unit is taken

  pub pair_left : (p : OpenPair) (left : ℕ) → left + 1 ≡ p.before → p.before - 1 ≡ left
  pair_left p left e = omega (arith, e)

  pub open_first_ends : (ns : List Node) (due : Units Bool) (steps : List Step) (p : OpenPair) (left : ℕ) → IsOpenPair S ns due steps p → left + 1 ≡ p.before → whnf_of S left (term ns p.first) ≡ None → due ≡ None
  open_first_ends ns due steps p left h e q = h.way.comes ∙ pair_first_ends S ns p.before p.first p.second (pending ns steps) h.some h.differ
      (ap (λ (n : ℕ). whnf_of S n (term ns p.first)) (pair_left p left e) ∙ q)

  pub open_part_ends : (ns : List Node) (due : Units Tree) (fs : List Frame) (p : OpenPart) (left : ℕ) → IsOpenPart S ns due fs p → left + 1 ≡ p.before → whnf_of S left (term ns p.part) ≡ None → due ≡ None
  open_part_ends ns due fs p left h e q = h.way.comes ∙ ended S ns fs (normal_of S p.before (term ns p.part)) (weak_ends S p.before (term ns p.part) h.some
      ((λ i. whnf_of S ((let r : p.before - 1 ≡ left = omega (arith, e) in r) i) (term ns p.part)) ∙ q))
