-- For callers: what a computation takes, which makes a remembered answer exact.
use Rattle.std.specs.Prelude.{◌≡◌, ◌≤◌, ◌<◌, ◌-◌, ℕ, Some, None}
use Rattle.dk_model.specs.Units.{Units}

-- the computation gives `v` and takes `u` units, whatever it is given: so a remembered answer is exact
pub record Takes {A : Type 0} (F : ℕ → Units A) (v : A) (u : ℕ) : Type 0 where
  pub suffices : (n : ℕ) → u ≤ n → F n ≡ Some (v, n - u)
  pub ends : (n : ℕ) → n < u → F n ≡ None
