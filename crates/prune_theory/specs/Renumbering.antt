-- For callers: the numbers of what is left of a list when some places are left out.
use Rattle.std.specs.Prelude.{ℕ, zero, suc, ◌≡◌, Bool, true, if◌then◌else◌}
pub use Rattle.prune_theory.specs.Resting.{picked}

-- how many of the `i` places from `n` on are kept
abbrev pub kept_from : (ℕ → Bool) → ℕ → ℕ → ℕ
kept_from keep n zero = 0
kept_from keep n (suc i) = if keep n then suc (kept_from keep (suc n) i) else kept_from keep (suc n) i

-- the number that a place has among those that are kept
abbrev pub rank : (ℕ → Bool) → ℕ → ℕ
rank keep a = kept_from keep 0 a

-- the place `a` is kept, and then has the number `b`
abbrev pub Renumbers : (ℕ → Bool) → ℕ → ℕ → Type 0
Renumbers keep a b = (keep a ≡ true) × (b ≡ rank keep a)
