-- Fronts of lists, and lines in front of a report.
use Rattle.std.proofs.Common.{◌≡◌, ℕ, zero, suc, ◌<◌, false, List, [], ◌∷◌, ◌++◌, length, take, drop, nat_le, refl, ap, arith, append-nil, Some}
use Rattle.std.specs.Prelude.{slice_get}
use Rattle.std.proofs.lemmas.Bool.{leb-true}
use Rattle.dk_model.specs.declared.limits.Limits.{Limits}
use Rattle.board_core.proofs.Histories.{not_true}
use Rattle.verdict_book.specs.Report.{FileReport, PlainShown}
use Rattle.verdict_book.specs.declared.outcome.Outcome.{Outcome}
use Rattle.file_report.specs.TheoryReports.{with_lines}

-- the element of that index, with those behind it
pub at_index : {X : Type 0} (xs : List X) (k : ℕ) → k < length xs → (x : X) × (more : List X) × (slice_get xs k ≡ Some x) × (drop k xs ≡ x ∷ more)
at_index [] k lt = absurd (let l : k < 0 = lt in omega arith)
at_index (x ∷ xs) zero lt = (x, xs, refl, refl)
at_index (x ∷ xs) (suc k) lt = at_index xs k (omega arith)

pub front_taken : {X : Type 0} (xs ys : List X) → take (length xs) (xs ++ ys) ≡ xs
front_taken [] ys = refl
front_taken (x ∷ xs) ys = ap (λ l. x ∷ l) (front_taken xs ys)

pub front_dropped : {X : Type 0} (xs ys : List X) → drop (length xs) (xs ++ ys) ≡ ys
front_dropped [] ys = refl
front_dropped (x ∷ xs) ys = front_dropped xs ys

pub all_taken : {X : Type 0} (xs : List X) → take (length xs) xs ≡ xs
all_taken [] = refl
all_taken (x ∷ xs) = ap (λ l. x ∷ l) (all_taken xs)

pub with_no_more : (xs : List PlainShown) (o : Outcome) → with_lines xs (record { lines = []; outcome = o }) ≡ (let r : FileReport = record { lines = xs; outcome = o } in r)
with_no_more xs o = ap (λ ls. let f : FileReport = record { lines = ls; outcome = o } in f) (append-nil xs)

pub within_limit : (limits : Limits) (count : ℕ) → count < limits.commands → nat_le limits.commands count ≡ false
within_limit limits count lt = not_true (nat_le limits.commands count) (λ t. let le = leb-true limits.commands count t in omega arith)
