-- A walk from one call of a reducer to the next.
use Rattle.std.proofs.Common.{◌≡◌, ◌≤◌}
use Rattle.dk_model.specs.Trees.{Tree}
use Rattle.dk_model.specs.Signatures.{PlainSignature}
use Rattle.signature_log.specs.Reducers.{Keeps}
use Rattle.infer_check.specs.declared.walk.Walk.{Walk}
use Rattle.infer_check.specs.Contexts.{OwnsContext}
use Rattle.infer_check.specs.Walks.{Follows, IsReady, Continues}

module _ {R T : Type 0} {owns : R → T → Type 0} {denotes : R → T → Tree} {serves : PlainSignature → R → Type 0} {S : PlainSignature} where
  pub follows : (old new : R) → Keeps owns denotes old new → serves S new → Follows owns denotes serves S old new
  follows old new k s = record { keeps = k; serving = s }

  pub continues : (old new : R) (w v : Walk T) → Keeps owns denotes old new → serves S new → v.context ≡ w.context → v.left ≤ w.left → Continues owns denotes serves S old w new v
  continues old new w v k s e l = record { keeps = k; serving = s; context = e; spent = l }

pub ready : {R T : Type 0} {owns : R → T → Type 0} {serves : PlainSignature → R → Type 0} {S : PlainSignature} (r : R) (w : Walk T) → OwnsContext owns r w.context → serves S r → IsReady owns serves S r w
ready r w h s = record { context = h; serving = s }
