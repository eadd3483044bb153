-- For proofs: what a memo remembers.
use Rattle.std.specs.Prelude.{◌≡◌, ℕ, ◌<◌, Some, slice_get, length, List}
use Rattle.shared_term.specs.declared.id.TermId.{TermId}
use Rattle.shared_term.specs.declared.change.Goal.{Goal}
use Rattle.shared_term.specs.declared.change.Given.{Given}
use Rattle.shared_term.specs.declared.memo.Done.{Done}
use Rattle.shared_term.specs.declared.memo.Memo.{Memo}
use Rattle.shared_term.specs.Pools.{Node, term}
use Rattle.shared_term.specs.Changes.{IsAsked, IsLasting, wanted}

-- the result stands in a slot
abbrev pub Remembers : Memo → Done → Type 0
Remembers m d = (i : ℕ) × (slice_get m.slots.items i ≡ Some (record { era = m.era; done = d }))

abbrev pub IsBlank : Memo → Type 0
IsBlank m = (d : Done) → Remembers m d → ⊥

abbrev pub Is : Goal → TermId → Done
Is goal result = record { goal = goal; result = result }

-- the result is a term of the pool, and what the goal asks for
pub record IsDone (ns : List Node) (g : Given) (d : Done) : Type 0 where
  pub asked : IsAsked (length ns) g d.goal
  pub gives : d.result.0 < length ns
  pub is : term ns d.result ≡ wanted ns g d.goal

-- right in one call
pub record AreDone (ns : List Node) (g : Given) (m : Memo) : Type 0 where
  pub each : (d : Done) → Remembers m d → IsDone ns g d

-- right from call to call
pub record AreLasting (ns : List Node) (m : Memo) : Type 0 where
  pub lasts : (d : Done) → Remembers m d → IsLasting d.goal.change
  pub each : (d : Done) → Remembers m d → (g : Given) → IsDone ns g d
