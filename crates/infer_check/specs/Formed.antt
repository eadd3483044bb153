-- For proofs: the outermost node of a weak head form.
use Rattle.std.specs.Prelude.{ℕ, ◌≡◌, Bool, true, false, Result, Ok, Err, Some, None}
use Rattle.dk_model.specs.Trees.{Tree}
use Rattle.dk_model.specs.Units.{Units}
use Rattle.dk_model.specs.declared.node.NodeOf.{NodeOf}
use Rattle.dk_model.specs.declared.node.NodeOf.TheVariants.{Star, Kind, Prod}
use Rattle.dk_model.specs.declared.stop.Stop.{Stop}
use Rattle.dk_model.specs.declared.stop.Stop.TheVariants.{Ended, NoMemory}
use Rattle.signature_log.specs.Reducers.{OwnsParts, built}

-- a sort or a product, which is its own weak head form
abbrev pub is_formed : {T : Type 0} → NodeOf T → Bool
is_formed Star = true
is_formed Kind = true
is_formed (Prod a b) = true
is_formed n = false

-- the outermost node of a term of the reducer's, with the units left
abbrev pub GivesNode : {R T : Type 0} → (R → T → Type 0) → (R → T → Tree) → Units Tree → R → Result (NodeOf T) Stop → ℕ → Type 0
GivesNode owns denotes due r (Ok n) left = (due ≡ Some (built denotes r n, left)) × OwnsParts owns r n
GivesNode owns denotes due r (Err Ended) left = (due ≡ None) × (left ≡ 0)
GivesNode owns denotes due r (Err NoMemory) left = Unit {0}
