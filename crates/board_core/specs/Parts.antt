-- For proofs: what the parts of a book's calls answer.
use Rattle.std.specs.Prelude.{◌≡◌, ℕ, Bool, true, false, List, [], ◌∷◌, nat_le, if◌then◌else◌, Option, Some, None}
use Rattle.std.specs.Arc.{arc_value}
use Rattle.dk_model.specs.declared.code.Verdict.{Verdict}
use Rattle.board_core.specs.declared.book.Waiting.{Waiting}
use Rattle.board_core.specs.declared.task.Task.{Task}
use Rattle.board_core.specs.declared.task.Claimed.{Claimed}
use Rattle.board_core.specs.declared.task.Claimed.TheVariants.{Empty, Over}
use Rattle.board_core.specs.Events.{is_accepted}
use Rattle.board_core.specs.Kept.{waiters_in, numbers}

-- the one with the lesser number
abbrev pub lesser : Option (ℕ × Verdict) → ℕ → Verdict → Option (ℕ × Verdict)
lesser None n v = Some (n, v)
lesser (Some f) n v = if nat_le f.0 n then Some f else Some (n, v)

-- the first fault, after the number n was answered with v
abbrev pub fault_with : Option (ℕ × Verdict) → ℕ → Verdict → Option (ℕ × Verdict)
fault_with f n v = if is_accepted v then f else lesser f n v

-- the number doesn't lie below the fault
abbrev pub reaches : Option (ℕ × Verdict) → ℕ → Bool
reaches None n = false
reaches (Some f) n = nat_le f.0 n

-- the first number doesn't lie below the fault, if there is one
abbrev pub Blocked : Option (ℕ × Verdict) → List ℕ → Type 0
Blocked f [] = Unit {0}
Blocked f (n ∷ ns) = reaches f n ≡ true

-- the first of the waiting jobs is taken, if it lies below the fault
abbrev pub TakesBelow : {J : Type 0} → List (Waiting J) → Option (ℕ × Verdict) → Option (Task J) → List (Waiting J) → Type 0
TakesBelow old f None new = (new ≡ old) × Blocked f (numbers (waiters_in old))
TakesBelow old f (Some t) new =
    (waiters_in old ≡ (t.number, arc_value t.job) ∷ waiters_in new) × (reaches f t.number ≡ false)

-- what a worker is told where nothing can be claimed
abbrev pub idle_reply : {J : Type 0} → Bool → Option (ℕ × Verdict) → Claimed J
idle_reply false None = Empty
idle_reply false (Some _) = Over
idle_reply true f = Over

-- the job that comes to wait, if it isn't settled
abbrev pub newcomers : {J : Type 0} → ℕ → J → Bool → List (ℕ × J)
newcomers n job true = []
newcomers n job false = (n, job) ∷ []
