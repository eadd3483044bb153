-- For proofs: what the fields of a book say of its jobs and its history.
use Rattle.std.specs.Prelude.{◌≡◌, ℕ, ◌+◌, ◌-◌, ◌*◌, ◌^◌, ◌<◌, ◌≤◌, Bool, true, false, ◌==◌, List, [], ◌∷◌, length, map, slice_get, slice_index_or, cond, count_by, is_none, vec_len, vec_capacity, Option, Some, None}
use Rattle.std.specs.List.{list_any}
use Rattle.std.specs.Arc.{arc_value}
use Rattle.std.specs.VecDeque.{deque_capacity}
use Rattle.dk_model.specs.declared.code.Verdict.{Verdict}
use Rattle.board_core.specs.declared.event.End.{End}
use Rattle.board_core.specs.declared.event.Event.{Event}
use Rattle.board_core.specs.declared.book.Posted.{Posted}
use Rattle.board_core.specs.declared.book.Waiting.{Waiting}
use Rattle.board_core.specs.declared.book.Book.TheInside.{Inside}
use Rattle.board_core.specs.Events.{is_fault, claims, puts, answered_verdict, end_of, IsFirstFault}
use Rattle.board_core.specs.Machine.{IsFree, IsLawful, marks_of}
use Rattle.board_core.specs.Steps.{events_in}

-- the first fault, if there is one
abbrev pub IsFaultOf : List Event → Option (ℕ × Verdict) → Type 0
IsFaultOf es None = list_any is_fault es ≡ false
IsFaultOf es (Some f) = IsFirstFault es f.0 f.1 × (list_any is_fault es ≡ true)

-- P of each element, from the first on
abbrev pub Each : {X : Type 0} → (X → Type 0) → List X → Type 0
Each P [] = Unit {0}
Each P (x ∷ xs) = P x × Each P xs

-- each number is below all that come after it
abbrev pub Ascends : List ℕ → Type 0
Ascends [] = Unit {0}
Ascends (n ∷ ns) = Each (λ m. n < m) ns × Ascends ns

-- the job that waits has its own number
abbrev pub IsOwn : {J : Type 0} → List (J × Bool) → ℕ × J → Type 0
IsOwn jobs w = slice_get jobs (w.0 - 1) ≡ Some (w.1, false)

abbrev pub numbers : {J : Type 0} → List (ℕ × J) → List ℕ
numbers ws = map (λ w. w.0) ws

-- room is how many events the history has place for
pub record Keeps (room : ℕ) (marks : List Bool) (waiting : List ℕ) (verdicts : List (Option Verdict)) (fault : Option (ℕ × Verdict)) (end : Option End) (es : List Event) : Type 0 where
  pub few : length marks < 2 ^ 32 - 1
  pub as_many : length verdicts ≡ length marks
  pub all_put : puts es ≡ length marks
  -- only jobs are claimed
  pub only_put : (n : ℕ) → list_any (claims n) es ≡ true → (0 < n) × (n ≤ length marks)
  -- the waiting numbers are the free ones, the least first
  pub waits : Each (IsFree marks es) waiting
  pub all_wait : (n : ℕ) → IsFree marks es n → list_any (λ w. w == n) waiting ≡ true
  pub in_order : Ascends waiting
  pub verdicts_kept : (n : ℕ) → 0 < n → slice_index_or verdicts (n - 1) None ≡ answered_verdict n es
  pub fault_kept : IsFaultOf es fault
  pub end_kept : end_of es ≡ end
  -- places are left for the claims and answers to come, and for the seal
  pub few_events :
      length es + length waiting + count_by is_none verdicts + cond (is_none end) 1 0
      ≤ 3 * length marks + 1
  pub has_room : 3 * length marks + 1 ≤ room
  pub lawful : IsLawful marks es

abbrev pub posted : {J : Type 0} → Posted J → J × Bool
posted p = (p.job.job, p.settled)

abbrev pub waiter : {J : Type 0} → Waiting J → ℕ × J
waiter w = (w.number, arc_value w.job)

abbrev pub jobs_in : {J : Type 0} → List (Posted J) → List (J × Bool)
jobs_in ps = map posted ps

abbrev pub waiters_in : {J : Type 0} → List (Waiting J) → List (ℕ × J)
waiters_in ws = map waiter ws

abbrev pub IsPowerOfTwo : ℕ → Type 0
IsPowerOfTwo n = (k : ℕ) × (n ≡ 2 ^ k)

-- Lists with these capacities have places for a power of two of jobs, at least so many
pub record IsWide (count jobs waiting verdicts history : ℕ) : Type 0 where
  pub places : ℕ
  pub power : IsPowerOfTwo places
  pub enough : count ≤ places
  pub jobs_fit : places ≤ jobs
  pub waiting_fit : places ≤ waiting
  pub verdicts_fit : places ≤ verdicts
  pub history_fit : 3 * places + 1 ≤ history

pub record Kept {J : Type 0} (b : Inside J) : Type 0 where
  pub keeps : Keeps (vec_capacity b.history) (marks_of (jobs_in b.jobs.items)) (numbers (waiters_in b.waiting.items)) b.verdicts.items b.fault b.end (events_in b.end b.history.items)
  pub own : Each (IsOwn (jobs_in b.jobs.items)) (waiters_in b.waiting.items)
  pub wide : IsWide (vec_len b.jobs) (vec_capacity b.jobs) (deque_capacity b.waiting) (vec_capacity b.verdicts) (vec_capacity b.history)
