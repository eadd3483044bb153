-- What a legal and finished history says of the verdicts that its jobs are due.
use Rattle.std.proofs.Common.{◌≡◌, inl, inr, ℕ, ◌-◌, ◌<◌, ◌≤◌, Bool, true, false, cond, List, refl, sym, ap, ◌∙◌, arith, Some}
use Rattle.std.specs.Prelude.{slice_get}
use Rattle.dk_model.specs.declared.code.Verdict.{Verdict}
use Rattle.dk_model.specs.declared.code.Verdict.TheVariants.{Accepted}
use Rattle.board_core.specs.declared.event.Event.{Event}
use Rattle.board_core.specs.Events.{answered_verdict, is_accepted, is_settled, puts, verdict_at}
use Rattle.board_core.specs.Machine.{IsBelowFaults, IsDueTo, IsFinished, IsLegal, marks_of}
use Rattle.board_core.proofs.Histories.{verdict_faults}
use Rattle.board_core.proofs.Lawful.{claimed_unsettled}
use Rattle.board_core.proofs.Legal.{legal_verdict}
use Rattle.verdict_book.proofs.Answered.{accepted_is, answered_claim, claimed_put, has_verdict, verdict_answers}

module _ {J : Type 0} (due : J → Verdict) (early : J → Bool) (jobs : List (J × Bool)) (es : List Event) where
  due_accepted : (n : ℕ) (j : J × Bool) → slice_get jobs (n - 1) ≡ Some j → IsDueTo due jobs n Accepted → due j.0 ≡ Accepted
  due_accepted n j at (inl e) = cc
  due_accepted n j at (inr r) =
      let same : r.0 ≡ j = (let s : Some r.0 ≡ Some j = sym r.1 ∙ at in cc) in
      sym (r.2 ∙ ap (λ (x : J × Bool). due x.0) same)

  -- below the first fault of a finished history each job is due to be accepted
  pub below_accepted : IsLegal due early jobs es → IsFinished (marks_of jobs) es → (n : ℕ) → 0 < n → n ≤ puts es → IsBelowFaults es n
      → (j : J × Bool) → slice_get jobs (n - 1) ≡ Some j → due j.0 ≡ Accepted
  below_accepted legal finished n some put below j at = due_accepted n j at (legal_verdict due early jobs es legal n Accepted some (stands (is_settled (marks_of jobs) n) refl))
    where
      by_verdict : (v : Verdict) → answered_verdict n es ≡ Some v → (b : Bool) → is_accepted v ≡ b → answered_verdict n es ≡ Some Accepted
      by_verdict v is true e = is ∙ ap Some (accepted_is v e)
      by_verdict v is false e = absurd (let lt : n < n = below n (verdict_faults n v es is e) in omega arith)

      stands : (b : Bool) → is_settled (marks_of jobs) n ≡ b → verdict_at (marks_of jobs) es n ≡ Some Accepted
      stands true e = ap (λ b. cond b (Some Accepted) (answered_verdict n es)) e
      stands false e =
          let r = has_verdict n es (finished.answered n some put e below) in
          ap (λ b. cond b (Some Accepted) (answered_verdict n es)) e ∙ by_verdict r.0 r.1 (is_accepted r.0) refl

  -- an answered verdict is the one that its job is due, or want of memory; and the job was put
  pub answered_due : IsLegal due early jobs es → (n : ℕ) (v : Verdict) → answered_verdict n es ≡ Some v → (0 < n) × (n ≤ puts es) × IsDueTo due jobs n v
  answered_due legal n v is =
      let claimed = answered_claim (marks_of jobs) es legal.lawful n (verdict_answers n v es is) in
      let put = claimed_put (marks_of jobs) es legal.lawful n claimed in
      let open_job = claimed_unsettled (marks_of jobs) es legal.lawful n claimed in
      (put.0, put.1, legal_verdict due early jobs es legal n v put.0 (ap (λ b. cond b (Some Accepted) (answered_verdict n es)) open_job ∙ is))
