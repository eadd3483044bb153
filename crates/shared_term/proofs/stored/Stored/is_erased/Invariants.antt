-- The nodes so far have no annotation.
use Rattle.std.proofs.Common.{◌≡◌, ℕ, ◌<◌, get_or}
use Rattle.dk_model.specs.Erasure.{erased}
use Rattle.dk_model.specs.Trees.{star}
use Rattle.shared_term.specs.Pools.{terms}
use Rattle.shared_term.proofs.stored.Stored.is_erased.Given as goal

abbrev pub invariant-loop-at : goal.invariant-loop-at
invariant-loop-at l = (i : ℕ) → i < l.at → erased (get_or (terms l.self.0) i star) ≡ get_or (terms l.self.0) i star
