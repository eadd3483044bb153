use Rattle.std.proofs.Common.{ℕ, ◌≡◌, ◌<◌, ◌≢◌, Some, length}
use Rattle.signature_log.specs.Slots.{cell_at}
use Rattle.signature_log.proofs.slots.with_cell.Given as goal

abbrev pub invariant-loop-at : goal.invariant-loop-at
invariant-loop-at g l = (length l.all.items ≡ l.at) × ((n : ℕ) → n < l.at → cell_at l.all.items n ≡ cell_at l.cells n)

abbrev pub invariant-loop-at-2 : goal.invariant-loop-at-2
invariant-loop-at-2 g l =
    (length l.all.items ≡ l.at)
    × (cell_at l.all.items l.fn.number ≡ Some l.fn.value)
    × ((n : ℕ) → n ≢ l.fn.number → n < l.at → cell_at l.all.items n ≡ cell_at l.cells n)
