-- A walk from one call to a later one.
use Rattle.std.proofs.Common.{◌≤◌, ◌∙◌, arith}
use Rattle.dk_model.specs.Trees.{Tree}
use Rattle.dk_model.specs.Signatures.{PlainSignature}
use Rattle.signature_log.proofs.Keeping.{keeps_further}
use Rattle.infer_check.specs.declared.walk.Walk.{Walk}
use Rattle.infer_check.specs.Walks.{Follows, Continues}
use Rattle.rule_check.specs.declared.found.Found.{Found}
use Rattle.rule_check.specs.Founds.{IsRebound}

module _ {R T : Type 0} {owns : R → T → Type 0} {denotes : R → T → Tree} {serves : PlainSignature → R → Type 0} {S : PlainSignature} where
  pub follows_further : (old mid new : R) → Follows owns denotes serves S old mid → Follows owns denotes serves S mid new → Follows owns denotes serves S old new
  follows_further old mid new h k = record { keeps = keeps_further old mid new h.keeps k.keeps; serving = k.serving }

  pub continues_further : (old mid new : R) (w x v : Walk T) → Continues owns denotes serves S old w mid x → Continues owns denotes serves S mid x new v → Continues owns denotes serves S old w new v
  continues_further old mid new w x v h k = record {
    keeps = keeps_further old mid new h.keeps k.keeps;
    serving = k.serving;
    context = k.context ∙ h.context;
    spent = let p : v.left ≤ x.left = k.spent in let q : x.left ≤ w.left = h.spent in omega (arith, p, q);
  }

pub rebound_further : {T : Type 0} (w v u : Found T) → IsRebound w v → IsRebound v u → IsRebound w u
rebound_further w v u h k = record { types = k.types ∙ h.types; guards = k.guards ∙ h.guards }
