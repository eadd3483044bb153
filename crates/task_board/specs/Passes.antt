-- For callers: what a pass of the board shows, and what a turn at the board makes of it (docs/board.md).
use Rattle.std.specs.Prelude.{◌≡◌, ◌⊎◌, ℕ, ◌+◌, ◌-◌, Bool, true, false, List, [], ◌∷◌, ◌++◌, length, slice_get, Some}
use Rattle.std.specs.List.{list_any}
use Rattle.std.specs.Arc.{arc_value}
use Rattle.dk_model.specs.declared.code.Verdict.{Verdict}
use Rattle.board_core.specs.declared.event.Event.{Event}
use Rattle.board_core.specs.declared.event.Event.TheVariants.{Put, Claim}
use Rattle.board_core.specs.declared.task.Claimed.{Claimed}
use Rattle.board_core.specs.declared.task.Claimed.TheVariants.{Task, Empty, Over}
use Rattle.board_core.specs.declared.task.PutRefused.{PutRefused}
use Rattle.board_core.specs.Events.{is_seal, is_fault, puts}
use Rattle.board_core.specs.Machine.{Holds, HoldsNone, IsClaimable, marks_of}
use Rattle.board_core.specs.Shown.{IsRefusal}
use Rattle.ticket_slot.specs.Views.{StartsWith, reader}
use Rattle.ticket_slot.specs.declared.view.View.{View}
use Rattle.task_board.specs.Histories.{tagged, events_in, IsLegalLog}

module _ {J : Type 0} where
  -- the reader's pass of a new board, of which so many passes were made
  abbrev pub new_reader : ℕ → View Event (J × Bool)
  new_reader made = record reader { made = made }

  -- the holder of the pass has no task
  abbrev pub IsIdle : View Event (J × Bool) → Type 0
  IsIdle v = HoldsNone v.number (events_in v.mine)

  -- a pass that has seen and done nothing
  pub record IsNew (v : View Event (J × Bool)) : Type 0 where
    pub seen : v.seen ≡ []
    pub mine : v.mine ≡ []
    pub known : v.known ≡ []
    pub turns : v.turns ≡ 0
    pub idle : IsIdle v

  -- the holder has this task, and the job that is known at its number is this one
  abbrev pub HasTask : View Event (J × Bool) → ℕ → J → Type 0
  HasTask v n job = Holds v.number n (events_in v.mine) × (slice_get v.known (n - 1) ≡ Some (job, false))

  -- nothing can be claimed in what the pass has seen
  abbrev pub IsDrained : View Event (J × Bool) → Type 0
  IsDrained v = (n : ℕ) → ¬ IsClaimable (marks_of v.known) (events_in v.seen) n

  -- In what the pass has seen nothing can be claimed, and the board is sealed or stopped
  pub record IsOver (v : View Event (J × Bool)) : Type 0 where
    pub all_put : puts (events_in v.seen) ≡ length v.known
    pub drained : IsDrained v
    pub ended : (list_any is_seal (events_in v.seen) ≡ true) ⊎ (list_any is_fault (events_in v.seen) ≡ true)

  -- A turn at the board: the pass has then seen the whole history of that turn, which is legal, and knows its jobs
  pub record TakesTurn (due : J → Verdict) (early : J → Bool) (v w : View Event (J × Bool)) : Type 0 where
    pub number : w.number ≡ v.number
    pub turns : w.turns ≡ v.turns + 1
    pub legal : IsLegalLog due early w.seen w.known
    pub known : StartsWith w.known v.known

  -- the event stands behind all that the pass had seen, and is one more of its own
  abbrev pub Adds : View Event (J × Bool) → Event → View Event (J × Bool) → Type 0
  Adds v e w =
      ((between : List (ℕ × Event)) × (w.seen ≡ (v.seen ++ between) ++ tagged e ∷ []))
      × (w.mine ≡ v.mine ++ tagged e ∷ [])

  -- the pass has seen more, and done nothing
  abbrev pub Sees : View Event (J × Bool) → View Event (J × Bool) → Type 0
  Sees v w = StartsWith w.seen v.seen × (w.mine ≡ v.mine)

  -- what a claim tells of the history of its turn
  abbrev pub ClaimTold : View Event (J × Bool) → Claimed J → View Event (J × Bool) → Type 0
  ClaimTold v (Task t) w = Adds v (Claim v.number t.number) w × HasTask w t.number (arc_value t.job)
  ClaimTold v Empty w =
      Sees v w × IsIdle w × IsDrained w × (list_any is_seal (events_in w.seen) ≡ false)
      × (list_any is_fault (events_in w.seen) ≡ false)
  ClaimTold v Over w = Sees v w × IsIdle w × IsOver w

  -- the reader's pass after a put: the job is one more of those it knows, all others had no fault, and it has the next number
  pub record PutTold (v : View Event (J × Bool)) (job : J) (settled : Bool) (n : ℕ) (w : View Event (J × Bool)) : Type 0 where
    pub number : n ≡ length v.known + 1
    pub added : Adds v (Put n) w
    pub known : w.known ≡ v.known ++ (job, settled) ∷ []
    pub running : list_any is_fault (events_in w.seen) ≡ false

  -- the reader's pass after a put that was refused: it has seen why, and the jobs are as they were
  pub record PutRefusedTold (v : View Event (J × Bool)) (job : J) (why : PutRefused J) (w : View Event (J × Bool)) : Type 0 where
    pub seen : Sees v w
    pub known : w.known ≡ v.known
    pub reason : IsRefusal (events_in w.seen) job why
