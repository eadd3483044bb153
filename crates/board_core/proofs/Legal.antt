-- What a legal history says of the verdicts that stand.
use Rattle.std.proofs.Common.{◌≡◌, ℕ, zero, suc, ◌-◌, ◌<◌, Bool, true, false, cond, List, [], ◌∷◌, get_or, sym, refl, ap, ◌∙◌, subst, inr, Some}
use Rattle.std.specs.Prelude.{slice_get}
use Rattle.std.proofs.lemmas.Option.{slice_get_within, get_or_from_slice_get}
use Rattle.dk_model.specs.declared.code.Verdict.{Verdict}
use Rattle.dk_model.specs.declared.code.Verdict.TheVariants.{Accepted}
use Rattle.board_core.specs.declared.event.Event.{Event}
use Rattle.board_core.specs.declared.event.Event.TheVariants.{Answer}
use Rattle.board_core.specs.Events.{answered_verdict, verdict_at, is_settled}
use Rattle.board_core.specs.Machine.{IsLegal, IsDue, IsDueTo, MaySettle, marks_of}
use Rattle.board_core.proofs.Lawful.{answer_from}

-- the job of a mark
marked_job : {J : Type 0} (jobs : List (J × Bool)) (i : ℕ) → get_or (marks_of jobs) i false ≡ true → (j : J × Bool) × (slice_get jobs i ≡ Some j) × (j.1 ≡ true)
marked_job [] i h = cc
marked_job (j ∷ jobs) zero h = (j, refl, h)
marked_job (j ∷ jobs) (suc i) h = marked_job jobs i h

pub legal_verdict : {J : Type 0} (due : J → Verdict) (early : J → Bool) (jobs : List (J × Bool)) (es : List Event) → IsLegal due early jobs es
    → (n : ℕ) (v : Verdict) → 0 < n → verdict_at (marks_of jobs) es n ≡ Some v → IsDueTo due jobs n v
legal_verdict {J} due early jobs es legal n v pos h = go (is_settled (marks_of jobs) n) refl
  where
    go : (b : Bool) → is_settled (marks_of jobs) n ≡ b → IsDueTo due jobs n v
    go true e = let r = marked_job jobs (n - 1) e in let j = r.0 in let within = slice_get_within jobs (n - 1) j r.1 in
        let may = subst (MaySettle due early) (get_or_from_slice_get jobs (n - 1) j j r.1) (legal.settled_early (n - 1) j within) in
        let k = sym (ap (λ b. cond b (Some Accepted) (answered_verdict n es)) e) ∙ h in let same : Accepted ≡ v = cc in
        inr (j, r.1, sym same ∙ sym (may r.2).1)
    go false e = let r = answer_from n v es (sym (ap (λ b. cond b (Some Accepted) (answered_verdict n es)) e) ∙ h) in let c = r.1 in
        subst (IsDue due jobs) c.2 (legal.verdicts_due c.0 (Answer r.0 n v) c.1)
