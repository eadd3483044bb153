-- How large the number of the line that is due can be.
use Rattle.std.proofs.Common.{◌≤◌, ◌+◌, ◌==◌, ℕ, Bool, true, false, List, [], ◌∷◌, cond, length, arith}
use Rattle.dk_check_run.specs.Recheck.{line_due}

pub line_due_some : (bytes : List ℕ) → 1 ≤ line_due bytes
line_due_some [] = omega arith
line_due_some (b ∷ bs) = let rest = line_due_some bs in omega (arith, rest)

pub line_due_few : (bytes : List ℕ) → line_due bytes ≤ length bytes + 1
line_due_few [] = omega arith
line_due_few (b ∷ bs) = go (b == 10) (line_due_few bs)
  where
    go : (is : Bool) → line_due bs ≤ length bs + 1 → cond is 1 0 + line_due bs ≤ length (b ∷ bs) + 1
    go true few = omega (arith, few)
    go false few = omega (arith, few)
