-- For callers: the board machine: which event may come after a list of events, at a list of jobs, of which each was
-- put as settled or not (docs/board.md).
use Rattle.std.specs.Prelude.{◌≡◌, ◌⊎◌, ℕ, ◌+◌, ◌-◌, ◌<◌, ◌≤◌, Bool, true, false, List, [], ◌∷◌, ◌++◌, length, map, All, slice_get, Some}
use Rattle.std.specs.List.{list_any}
use Rattle.dk_model.specs.declared.code.Verdict.{Verdict}
use Rattle.dk_model.specs.declared.code.Verdict.TheVariants.{Accepted, Memory}
use Rattle.board_core.specs.declared.event.End.{End}
use Rattle.board_core.specs.declared.event.End.TheVariants.{Fault, Stopped}
use Rattle.board_core.specs.declared.event.Event.{Event}
use Rattle.board_core.specs.declared.event.Event.TheVariants.{Put, Claim, Answer, Seal}
use Rattle.board_core.specs.Events.{is_accepted, is_seal, is_fault, claims, claims_by, answers, answers_by, faults, puts, is_settled}

-- the number n was put, and is neither settled nor claimed
abbrev pub IsFree : List Bool → List Event → ℕ → Type 0
IsFree marks before n =
    (0 < n) × (n ≤ puts before) × (is_settled marks n ≡ false)
    × (list_any (claims n) before ≡ false)

-- the number n lies below every number with a verdict other than Accepted
abbrev pub IsBelowFaults : List Event → ℕ → Type 0
IsBelowFaults before n = (m : ℕ) → list_any (faults m) before ≡ true → n < m

-- n is the least free number, and lies below the faults
abbrev pub IsClaimable : List Bool → List Event → ℕ → Type 0
IsClaimable marks before n =
    IsFree marks before n × ((m : ℕ) → IsFree marks before m → n ≤ m) × IsBelowFaults before n

-- the worker w has claimed the number n and hasn't answered it
abbrev pub Holds : ℕ → ℕ → List Event → Type 0
Holds w n before =
    (list_any (claims_by w n) before ≡ true) × (list_any (answers_by w n) before ≡ false)

-- the worker w has answered all that it has claimed
abbrev pub HoldsNone : ℕ → List Event → Type 0
HoldsNone w before =
    (n : ℕ) → list_any (claims_by w n) before ≡ true → list_any (answers_by w n) before ≡ true

abbrev pub MayEnd : List Event → End → Type 0
MayEnd before Stopped = list_any is_fault before ≡ true
MayEnd before (Fault _ v) = is_accepted v ≡ false
MayEnd before _ = Unit {0}

-- the event may come after these
abbrev pub Allowed : List Bool → List Event → Event → Type 0
Allowed marks before (Put n) =
    (n ≡ puts before + 1) × (list_any is_seal before ≡ false) × (list_any is_fault before ≡ false)
Allowed marks before (Claim w n) = HoldsNone w before × IsClaimable marks before n
Allowed marks before (Answer w n v) = Holds w n before
Allowed marks before (Seal e) = (list_any is_seal before ≡ false) × MayEnd before e

-- each of the last events may come after those before it
abbrev pub AllowedFrom : List Bool → List Event → List Event → Type 0
AllowedFrom marks before [] = Unit {0}
AllowedFrom marks before (e ∷ es) =
    Allowed marks before e × AllowedFrom marks (before ++ e ∷ []) es

-- a lawful history: each event may come after those before it
abbrev pub IsLawful : List Bool → List Event → Type 0
IsLawful marks es = AllowedFrom marks [] es

-- which of these jobs were put as settled
abbrev pub marks_of : {J : Type 0} → List (J × Bool) → List Bool
marks_of jobs = map (λ j. j.1) jobs

-- the verdict is the one that the job of the number n is due, or want of memory
abbrev pub IsDueTo : {J : Type 0} → (J → Verdict) → List (J × Bool) → ℕ → Verdict → Type 0
IsDueTo {J} due jobs n v =
    (v ≡ Memory) ⊎ ((j : J × Bool) × (slice_get jobs (n - 1) ≡ Some j) × (v ≡ due j.0))

-- an answered verdict is the one that its job is due
abbrev pub IsDue : {J : Type 0} → (J → Verdict) → List (J × Bool) → Event → Type 0
IsDue due jobs (Answer _ n v) = IsDueTo due jobs n v
IsDue due jobs _ = Unit {0}

-- a job may be settled only if it is early and due to be accepted
abbrev pub MaySettle : {J : Type 0} → (J → Verdict) → (J → Bool) → J × Bool → Type 0
MaySettle due early j = j.1 ≡ true → (early j.0 ≡ true) × (due j.0 ≡ Accepted)

-- a legal history of these jobs
pub record IsLegal {J : Type 0} (due : J → Verdict) (early : J → Bool) (jobs : List (J × Bool)) (es : List Event) : Type 0 where
  pub lawful : IsLawful (marks_of jobs) es
  -- no job but those that were put
  pub all_put : puts es ≡ length jobs
  pub verdicts_due : All (IsDue due jobs) es
  pub settled_early : All (MaySettle due early) jobs

-- a finished history: sealed, and every job below the first fault is answered, but for the
-- settled ones
pub record IsFinished (marks : List Bool) (es : List Event) : Type 0 where
  pub sealed : list_any is_seal es ≡ true
  pub answered :
      (n : ℕ) → 0 < n → n ≤ puts es → is_settled marks n ≡ false → IsBelowFaults es n
      → list_any (answers n) es ≡ true
