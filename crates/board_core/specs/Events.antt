-- For callers: tests on single events, and what a list of events says of a number.
use Rattle.std.specs.Prelude.{◌≡◌, ℕ, ◌≤◌, Bool, true, false, not, ◌&&◌, ◌==◌, List, [], ◌∷◌, slice_index_or, count_by, cond, ◌-◌, Option, Some, None}
use Rattle.std.specs.List.{list_any}
use Rattle.dk_model.specs.declared.code.Verdict.{Verdict}
use Rattle.dk_model.specs.declared.code.Verdict.TheVariants.{Accepted}
use Rattle.board_core.specs.declared.event.End.{End}
use Rattle.board_core.specs.declared.event.Event.{Event}
use Rattle.board_core.specs.declared.event.Event.TheVariants.{Put, Claim, Answer, Seal}

abbrev pub is_accepted : Verdict → Bool
is_accepted Accepted = true
is_accepted _ = false

abbrev pub is_put : Event → Bool
is_put (Put _) = true
is_put _ = false

abbrev pub is_seal : Event → Bool
is_seal (Seal _) = true
is_seal _ = false

-- a claim of the number n, by whomever
abbrev pub claims : ℕ → Event → Bool
claims n (Claim _ k) = k == n
claims _ _ = false

-- a claim of the number n by the worker w
abbrev pub claims_by : ℕ → ℕ → Event → Bool
claims_by w n (Claim v k) = (v == w) && (k == n)
claims_by _ _ _ = false

-- an answer for the number n, by whomever
abbrev pub answers : ℕ → Event → Bool
answers n (Answer _ k _) = k == n
answers _ _ = false

-- an answer for the number n by the worker w
abbrev pub answers_by : ℕ → ℕ → Event → Bool
answers_by w n (Answer v k _) = (v == w) && (k == n)
answers_by _ _ _ = false

-- an answer for the number n with a verdict other than Accepted
abbrev pub faults : ℕ → Event → Bool
faults n (Answer _ k v) = (k == n) && not (is_accepted v)
faults _ _ = false

-- an answer with a verdict other than Accepted
abbrev pub is_fault : Event → Bool
is_fault (Answer _ _ v) = not (is_accepted v)
is_fault _ = false

-- how many jobs were put
abbrev pub puts : List Event → ℕ
puts es = count_by is_put es

-- the verdict answered for the number n
abbrev pub answered_verdict : ℕ → List Event → Option Verdict
answered_verdict n [] = None
answered_verdict n ((Answer _ k v) ∷ es) = cond (k == n) (Some v) (answered_verdict n es)
answered_verdict n (_ ∷ es) = answered_verdict n es

-- with what the events were sealed
abbrev pub end_of : List Event → Option End
end_of [] = None
end_of ((Seal e) ∷ es) = Some e
end_of (_ ∷ es) = end_of es

-- the number n was put as settled; the marks say it of each job, in order
abbrev pub is_settled : List Bool → ℕ → Bool
is_settled marks n = slice_index_or marks (n - 1) false

-- the verdict that stands for the number n: a settled job counts as accepted
abbrev pub verdict_at : List Bool → List Event → ℕ → Option Verdict
verdict_at marks es n = cond (is_settled marks n) (Some Accepted) (answered_verdict n es)

-- n is the least number with a verdict other than Accepted, and v is that verdict
abbrev pub IsFirstFault : List Event → ℕ → Verdict → Type 0
IsFirstFault es n v =
    (answered_verdict n es ≡ Some v) × (is_accepted v ≡ false)
    × ((m : ℕ) → list_any (faults m) es ≡ true → n ≤ m)
