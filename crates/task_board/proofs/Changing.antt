-- What a call that adds an event owes to the slot, and what its pass shows afterwards.
use Rattle.std.proofs.Common.{◌≡◌, ℕ, zero, suc, ◌-◌, Bool, true, false, List, [], ◌∷◌, ◌++◌, length, drop, sym, refl, ap, ◌∙◌, subst, inl, inr, ⊎_elim, All}
use Rattle.std.specs.Prelude.{slice_get, Some}
use Rattle.std.proofs.lemmas.List.Elements.{All-append}
use Rattle.std.proofs.Math.Seq.{drop-append_seam}
use Rattle.dk_model.specs.declared.code.Verdict.{Verdict}
use Rattle.board_core.specs.declared.event.Event.{Event}
use Rattle.board_core.specs.declared.event.Event.TheVariants.{Put, Claim, Answer, Seal}
use Rattle.board_core.specs.Events.{puts}
use Rattle.board_core.specs.Machine.{IsDue, IsLawful, IsLegal, MaySettle, marks_of}
use Rattle.board_core.specs.Shown.{Shown}
use Rattle.ticket_slot.specs.Views.{StartsWith, AddsOne, at_turn, child, with_ticket, added_to, passed, calls_by}
use Rattle.ticket_slot.specs.declared.view.View.{View}
use Rattle.task_board.specs.Histories.{maker, tagged, log_of, IsLegalLog}
use Rattle.task_board.specs.Passes.{Adds, IsNew, Sees, TakesTurn}
use Rattle.task_board.proofs.Alls.{all_one}
use Rattle.task_board.proofs.Logs.{events_log, log_snoc, mine_snoc, starts_then}

get_longer : {A : Type 0} (xs ys : List A) (k : ℕ) (y : A) → slice_get xs k ≡ Some y → slice_get (xs ++ ys) k ≡ Some y
get_longer [] ys k y e = cc
get_longer (x ∷ xs) ys zero y e = e
get_longer (x ∷ xs) ys (suc k) y e = get_longer xs ys k y e

pub get_within : {A : Type 0} (xs ys : List A) (k : ℕ) (y : A) → StartsWith xs ys → slice_get ys k ≡ Some y → slice_get xs k ≡ Some y
get_within xs ys k y s e = ap (λ l. slice_get l k) s.1 ∙ get_longer ys s.0 k y e

module _ {J : Type 0} (due : J → Verdict) (early : J → Bool) where
  pub legal_log : (es : List Event) (jobs : List (J × Bool)) → IsLegal due early jobs es → IsLegalLog due early (log_of es) jobs
  legal_log es jobs legal = (ap log_of (sym (events_log es)), subst (IsLegal due early jobs) (sym (events_log es)) legal)

  pub log_legal : (es : List Event) (jobs : List (J × Bool)) → IsLegalLog due early (log_of es) jobs → IsLegal due early jobs es
  log_legal es jobs legal = subst (IsLegal due early jobs) (events_log es) legal.1

  due_longer : (jobs more : List (J × Bool)) (e : Event) → IsDue due jobs e → IsDue due (jobs ++ more) e
  due_longer jobs more (Put n) d = d
  due_longer jobs more (Claim w n) d = d
  due_longer jobs more (Answer w n v) d = ⊎_elim inl (λ t. inr (t.0, get_longer jobs more (n - 1) t.0 t.1, t.2)) d
  due_longer jobs more (Seal x) d = d

  -- one more event that is due, which may come with one more job
  pub legal_more : (b c : Shown J) (e : Event) → IsLegal due early b.jobs b.events → c.events ≡ b.events ++ e ∷ [] → (more : List (J × Bool)) → c.jobs ≡ b.jobs ++ more → All (MaySettle due early) more → IsDue due b.jobs e
      → IsLawful (marks_of c.jobs) c.events → puts c.events ≡ length c.jobs → IsLegal due early c.jobs c.events
  legal_more b c e legal es more jobs early_more is_due lawful all_put = record {
    lawful = lawful;
    all_put = all_put;
    verdicts_due = subst (λ (z : List (J × Bool) × List Event). All (IsDue due z.0) z.1) (λ i. (sym jobs i, sym es i)) (All-append (IsDue due (b.jobs ++ more)) b.events (e ∷ [])
        (λ k d h. due_longer b.jobs more _ (legal.verdicts_due k d h)) (all_one (IsDue due (b.jobs ++ more)) e (due_longer b.jobs more e is_due)));
    settled_early = subst (All (MaySettle due early)) (sym jobs) (All-append (MaySettle due early) b.jobs more legal.settled_early early_more);
  }

pub adds_one : {J : Type 0} (m : View Event (J × Bool)) (b c : Shown J) (e : Event) → m.seen ≡ log_of b.events → maker e ≡ m.number → c.events ≡ b.events ++ e ∷ [] → AddsOne m (log_of c.events)
adds_one m b c e seen made es = (e, ap log_of es ∙ (log_snoc b.events e ∙ (λ i. sym seen i ++ (made i, e) ∷ [])))

module _ {J : Type 0} where
  -- a pass whose turn has come at this book
  abbrev pub at_book : View Event (J × Bool) → ℕ → Shown J → View Event (J × Bool)
  at_book v t b = at_turn (with_ticket v t) (log_of b.events) b.jobs

  -- the same after the book became c, and after the turn was passed on
  abbrev pub changed : View Event (J × Bool) → ℕ → Shown J → Shown J → View Event (J × Bool)
  changed v t b c = passed (added_to (at_book v t b) (log_of c.events) c.jobs)

  -- a turn that changed nothing
  abbrev pub looked : View Event (J × Bool) → ℕ → Shown J → View Event (J × Bool)
  looked v t b = passed (at_book v t b)

  module _ (due : J → Verdict) (early : J → Bool) (v : View Event (J × Bool)) (t : ℕ) (b : Shown J) (seen : StartsWith (log_of b.events) v.seen) (known : StartsWith b.jobs v.known) (mine : calls_by v.number (log_of b.events) ≡ v.mine) where
    pub looked_turn : IsLegalLog due early (log_of b.events) b.jobs → TakesTurn due early v (looked v t b)
    looked_turn legal = record { number = refl; turns = refl; legal = legal; known = known }

    pub looked_sees : Sees v (looked v t b)
    looked_sees = (seen, refl)

    pub changed_turn : (c : Shown J) → StartsWith c.jobs b.jobs → IsLegal due early c.jobs c.events → TakesTurn due early v (changed v t b c)
    changed_turn c longer legal = record { number = refl; turns = refl; legal = legal_log due early c.events c.jobs legal; known = starts_then c.jobs b.jobs v.known longer known }

    pub changed_adds : (c : Shown J) (e : Event) → c.events ≡ b.events ++ e ∷ [] → Adds v e (changed v t b c)
    changed_adds c e es = let log : log_of c.events ≡ log_of b.events ++ tagged e ∷ [] = ap log_of es ∙ log_snoc b.events e in (
      (seen.0, log ∙ ap (λ l. l ++ tagged e ∷ []) seen.1),
      ap (λ l. v.mine ++ l) (ap (λ l. drop (length (log_of b.events)) l) log ∙ drop-append_seam (log_of b.events) (tagged e ∷ [])),
    )

    -- its own events are those that the new history has of its number
    pub changed_mine : (c : Shown J) (e : Event) → maker e ≡ v.number → c.events ≡ b.events ++ e ∷ [] → calls_by v.number (log_of c.events) ≡ (changed v t b c).mine
    changed_mine c e made es = ap (λ l. calls_by v.number (log_of l)) es ∙ (mine_snoc v.number b.events e v.mine made mine ∙ sym (changed_adds c e es).1)

-- a pass just split off has done nothing
pub new_pass : {J : Type 0} (x v : View Event (J × Bool)) → x ≡ child v → v.seen ≡ [] → v.known ≡ [] → IsNew x
new_pass x v is seen known = subst IsNew (sym is) record { seen = seen; mine = refl; known = known; turns = refl; idle = λ n h. let z : false ≡ true = h in cc }
