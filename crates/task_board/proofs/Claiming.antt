-- What a worker's calls tell.
use Rattle.std.proofs.Common.{◌≡◌, ◌⊎◌, ℕ, ◌-◌, Bool, false, [], length, sym, refl, ap, ◌∙◌, subst, inl, inr, ⊎_elim, append-nil}
use Rattle.std.specs.Prelude.{slice_get}
use Rattle.std.specs.List.{list_any}
use Rattle.std.proofs.lemmas.List.Elements.{All-nil}
use Rattle.dk_model.specs.declared.code.Verdict.{Verdict}
use Rattle.dk_model.specs.declared.code.Verdict.TheVariants.{Memory}
use Rattle.board_core.specs.declared.event.Event.{Event}
use Rattle.board_core.specs.declared.event.Event.TheVariants.{Claim, Answer}
use Rattle.board_core.specs.declared.task.Task as share
use Rattle.board_core.specs.declared.task.Claimed.{Claimed}
use Rattle.board_core.specs.declared.task.Claimed.TheVariants.{Task, Empty, Over}
use Rattle.board_core.specs.Events.{is_seal, is_fault, puts}
use Rattle.board_core.specs.Machine.{Holds, HoldsNone, IsClaimable, IsDue, IsDueTo, IsLawful, IsLegal, MaySettle, marks_of}
use Rattle.board_core.specs.Shown.{Shown, added, ClaimReply, HoldsGiven}
use Rattle.ticket_slot.specs.Views.{StartsWith, calls_by}
use Rattle.ticket_slot.specs.declared.view.View.{View}
use Rattle.task_board.specs.Histories.{log_of, IsLegalLog}
use Rattle.task_board.specs.Passes.{Adds, ClaimTold, HasTask, IsIdle, TakesTurn}
use Rattle.task_board.proofs.Logs.{events_log, held_own, held_whole, none_own, starts_self}
use Rattle.task_board.proofs.Changing.{changed, changed_adds, changed_mine, changed_turn, get_within, legal_more, log_legal, looked, looked_turn}

module _ {J : Type 0} (due : J → Verdict) (early : J → Bool) where
  -- the book after an event that puts no job
  pub legal_then : (b d : Shown J) (e : Event) → IsLegalLog due early (log_of b.events) b.jobs → d ≡ added b e → IsDue due b.jobs e → IsLawful (marks_of d.jobs) d.events → puts d.events ≡ length d.jobs → IsLegal due early d.jobs d.events
  legal_then b d e legal is is_due lawful all_put = legal_more due early b d e (log_legal due early b.events b.jobs legal) (ap (λ (x : Shown J). x.events) is) [] (ap (λ (x : Shown J). x.jobs) is ∙ sym (append-nil b.jobs)) (All-nil (MaySettle due early)) is_due lawful all_put

  module _ (v : View Event (J × Bool)) (w t : ℕ) (b d : Shown J) (numbered : w ≡ v.number) (legal : IsLegalLog due early (log_of b.events) b.jobs) (seen : StartsWith (log_of b.events) v.seen) (known : StartsWith b.jobs v.known)
      (mine : calls_by v.number (log_of b.events) ≡ v.mine) where
    -- what a claim tells, by its reply
    pub claim_told : (reply : Claimed J) (final : View Event (J × Bool)) → IsIdle v → ClaimReply b w reply d → HoldsGiven w reply d.events → IsLawful (marks_of d.jobs) d.events → puts d.events ≡ length d.jobs
        → ((k : share.Task J) → reply ≡ Task k → final ≡ changed v t b d) → (((k : share.Task J) → ¬ (reply ≡ Task k)) → final ≡ looked v t b) → TakesTurn due early v final × ClaimTold v reply final
    claim_told (Task k) final idle r holds lawful all_put task none = let e = Claim v.number k.number in
        let is : d ≡ added b e = r.2 ∙ (λ i. added b (Claim (numbered i) k.number)) in let es = ap (λ (x : Shown J). x.events) is in let jobs = ap (λ (x : Shown J). x.jobs) is in
        subst (λ (f : View Event (J × Bool)). TakesTurn due early v f × ClaimTold v (Task k) f) (sym (task k refl)) (
          changed_turn due early v t b seen known mine d (starts_self d.jobs b.jobs jobs) (legal_then b d e legal is tt lawful all_put),
          (
            changed_adds due early v t b seen known mine d e es,
            (
              held_own v.number d.events (changed v t b d).mine (changed_mine due early v t b seen known mine d e refl es) k.number (subst (λ u. Holds u k.number d.events) numbered holds),
              ap (λ l. slice_get l (k.number - 1)) jobs ∙ r.1,
            ),
          ),
        )
    claim_told Empty final idle r holds lawful all_put task none = subst (λ (f : View Event (J × Bool)). TakesTurn due early v f × ClaimTold v Empty f) (sym (none (λ k e. cc))) (
      looked_turn due early v t b seen known mine legal,
      (
        (seen, refl),
        idle,
        (λ n k. r.1 n (subst (λ l. IsClaimable (marks_of b.jobs) l n) (events_log b.events) k)),
        ap (list_any is_seal) (events_log b.events) ∙ r.2,
        ap (list_any is_fault) (events_log b.events) ∙ r.3,
      ),
    )
    claim_told Over final idle r holds lawful all_put task none = subst (λ (f : View Event (J × Bool)). TakesTurn due early v f × ClaimTold v Over f) (sym (none (λ k e. cc))) (
      looked_turn due early v t b seen known mine legal,
      (
        (seen, refl),
        idle,
        record {
          all_put = legal.1.all_put;
          drained = λ n k. r.1 n (subst (λ l. IsClaimable (marks_of b.jobs) l n) (events_log b.events) k);
          ended = ⊎_elim (λ x. inl (ap (list_any is_seal) (events_log b.events) ∙ x)) (λ x. inr (ap (list_any is_fault) (events_log b.events) ∙ x)) r.2;
        },
      ),
    )

    -- an answer of the task that is held is due
    pub answer_due : (n : ℕ) (job : J) (x : Verdict) → HasTask v n job → (x ≡ due job) ⊎ (x ≡ Memory) → IsDueTo due b.jobs n x
    answer_due n job x has is = ⊎_elim (λ p. inr ((job, false), get_within b.jobs v.known (n - 1) (job, false) known has.1, p)) inl is

    pub answer_allowed : (n : ℕ) (job : J) → HasTask v n job → Holds w n b.events
    answer_allowed n job has = subst (λ u. Holds u n b.events) (sym numbered) (held_whole v.number b.events v.mine mine n has.0)

    -- what an answer tells
    pub answer_told : (n : ℕ) (job : J) (x : Verdict) (final : View Event (J × Bool)) → HasTask v n job → (x ≡ due job) ⊎ (x ≡ Memory) → d ≡ added b (Answer w n x) → HoldsNone w d.events → IsLawful (marks_of d.jobs) d.events → puts d.events ≡ length d.jobs
        → final ≡ changed v t b d → TakesTurn due early v final × Adds v (Answer w n x) final × IsIdle final
    answer_told n job x final has is_due is idle lawful all_put same = let e = Answer w n x in let es = ap (λ (x : Shown J). x.events) is in
        subst (λ (f : View Event (J × Bool)). TakesTurn due early v f × Adds v e f × IsIdle f) (sym same) (
          changed_turn due early v t b seen known mine d (starts_self d.jobs b.jobs (ap (λ (x : Shown J). x.jobs) is)) (legal_then b d e legal is (answer_due n job x has is_due) lawful all_put),
          changed_adds due early v t b seen known mine d e es,
          none_own v.number d.events (changed v t b d).mine (changed_mine due early v t b seen known mine d e numbered es) (subst (λ u. HoldsNone u d.events) numbered idle),
        )
