-- For proofs: from one state of a reducer to a later one, and what a walk needs and keeps.
use Rattle.std.specs.Prelude.{◌≡◌, ◌≤◌}
use Rattle.dk_model.specs.Trees.{Tree}
use Rattle.dk_model.specs.Signatures.{PlainSignature}
use Rattle.signature_log.specs.Reducers.{Keeps}
use Rattle.infer_check.specs.Contexts.{OwnsContext}
use Rattle.infer_check.specs.declared.walk.Walk.{Walk}

-- what stood for a term stands for the same one, and what is remembered is right over these entries
pub record Follows {R T : Type 0} (owns : R → T → Type 0) (denotes : R → T → Tree) (serves : PlainSignature → R → Type 0) (S : PlainSignature) (old new : R) : Type 0 where
  pub keeps : Keeps owns denotes old new
  pub serving : serves S new

-- the types of the walk are the reducer's, and what is remembered is right over these entries
pub record IsReady {R T : Type 0} (owns : R → T → Type 0) (serves : PlainSignature → R → Type 0) (S : PlainSignature) (r : R) (w : Walk T) : Type 0 where
  pub context : OwnsContext owns r w.context
  pub serving : serves S r

-- a walk continues: its context is as it was, and no unit comes back
pub record Continues {R T : Type 0} (owns : R → T → Type 0) (denotes : R → T → Tree) (serves : PlainSignature → R → Type 0) (S : PlainSignature) (old : R) (w : Walk T) (new : R) (v : Walk T) : Type 0 where
  pub keeps : Keeps owns denotes old new
  pub serving : serves S new
  pub context : v.context ≡ w.context
  pub spent : v.left ≤ w.left
