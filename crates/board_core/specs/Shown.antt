-- For callers: a book as contracts see it, and what its calls answer.
use Rattle.std.specs.Prelude.{◌≡◌, ℕ, ◌-◌, ◌⊎◌, true, false, Bool, List, [], ◌∷◌, ◌++◌, map, take, slice_get, Some}
use Rattle.std.specs.List.{list_any}
use Rattle.std.specs.Arc.{arc_value}
use Rattle.board_core.specs.declared.event.Event.{Event}
use Rattle.board_core.specs.declared.event.Event.TheVariants.{Put, Claim}
use Rattle.board_core.specs.declared.task.PutRefused.{PutRefused}
use Rattle.board_core.specs.declared.task.PutRefused.TheVariants.{Stopped, NoMemory}
use Rattle.board_core.specs.declared.task.Claimed.{Claimed}
use Rattle.board_core.specs.declared.task.Claimed.TheVariants.{Task, Empty, Over}
use Rattle.board_core.specs.Events.{is_seal, is_fault, puts, IsFirstFault}
use Rattle.board_core.specs.Machine.{Holds, HoldsNone, IsClaimable, Allowed, marks_of}

-- the jobs in the order in which they were put, each settled or not, and all that happened
pub record Shown (J : Type 0) : Type 0 where
  pub jobs : List (J × Bool)
  pub events : List Event

-- one event more
abbrev pub added : {J : Type 0} → Shown J → Event → Shown J
added b e = record { jobs = b.jobs; events = b.events ++ e ∷ [] }

-- one job more, and the event that says so
abbrev pub put_on : {J : Type 0} → Shown J → J → Bool → ℕ → Shown J
put_on b job settled n =
    record { jobs = b.jobs ++ (job, settled) ∷ []; events = b.events ++ Put n ∷ [] }

-- the book that these events make of the first of these jobs
abbrev pub part_of : {J : Type 0} → List (J × Bool) → List Event → Shown J
part_of jobs es = record { jobs = take (puts es) jobs; events = es }

-- the jobs, each with this value, settled as they are
abbrev pub blanks : {J B : Type 0} → B → List (J × Bool) → List (B × Bool)
blanks b jobs = map (λ j. (b, j.1)) jobs

-- nothing can be claimed
abbrev pub IsDrained : {J : Type 0} → Shown J → Type 0
IsDrained b = (n : ℕ) → ¬ IsClaimable (marks_of b.jobs) b.events n

-- what a claim by the worker w answers at the book b, and the book c that it leaves
abbrev pub ClaimReply : {J : Type 0} → Shown J → ℕ → Claimed J → Shown J → Type 0
ClaimReply b w (Task t) c =
    Allowed (marks_of b.jobs) b.events (Claim w t.number)
    × (slice_get b.jobs (t.number - 1) ≡ Some (arc_value t.job, false))
    × (c ≡ added b (Claim w t.number))
ClaimReply b w Empty c =
    (c ≡ b) × IsDrained b × (list_any is_seal b.events ≡ false)
    × (list_any is_fault b.events ≡ false)
ClaimReply b w Over c =
    (c ≡ b) × IsDrained b
    × ((list_any is_seal b.events ≡ true) ⊎ (list_any is_fault b.events ≡ true))

-- a worker that was given a task holds it
abbrev pub HoldsGiven : {J : Type 0} → ℕ → Claimed J → List Event → Type 0
HoldsGiven w (Task t) es = Holds w t.number es
HoldsGiven w _ es = HoldsNone w es

-- why a job is refused after these events, with the job that comes back
abbrev pub IsRefusal : {J : Type 0} → List Event → J → PutRefused J → Type 0
IsRefusal es job (Stopped number verdict back) =
    IsFirstFault es number verdict × (list_any is_fault es ≡ true) × (arc_value back ≡ job)
IsRefusal es job (NoMemory back) = (list_any is_fault es ≡ false) × (arc_value back ≡ job)
