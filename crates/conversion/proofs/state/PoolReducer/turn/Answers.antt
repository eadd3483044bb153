-- A turn of a term, of a selection, or of one that waited.
use Rattle.std.proofs.Common.{◌≡◌, ◌∙◌, ap, subst, sym as flip}
use Rattle.dk_model.specs.Signatures.{PlainSignature}
use Rattle.dk_model.specs.Units.{Units}
use Rattle.dk_model.specs.Trees.{Tree}
use Rattle.dk_model.specs.Evaluation.{whnf_of}
use Rattle.shared_term.specs.Pools.{term}
use Rattle.signature_log.specs.Versions.{entries_of}
use Rattle.conversion.specs.declared.evaluate.Next.{Next}
use Rattle.conversion.specs.Machine.{behind, wound}
use Rattle.conversion.specs.Pausing.{rewritten_by}
use Rattle.conversion.specs.Turning.{IsDue, TurnsTo}
use Rattle.conversion.proofs.state.PoolReducer.turn.Goals as goal

pub returns-in_ok-head-in-Whole-clause-gives : goal.returns-in_ok-head-in-Whole-clause-gives
returns-in_ok-head-in-Whole-clause-gives c = λ due e.
    let S : PlainSignature = entries_of c.args.version.now in
    let is : due ≡ whnf_of S c.args.left.now (wound (term c.args.self.now.pool c.in-Whole.term) (behind c.args.self.now.pool c.args.stack.now.items)) =
    subst (λ (k : Next). IsDue S c.args.self.now.pool k c.args.stack.now.items c.args.left.now due) c.in-Whole.is e in
    subst (λ (d : Units Tree). TurnsTo S d c.turn_head.new.self.pool c.turn_head.result c.turn_head.new.stack.items c.turn_head.new.left)
    (flip (is ∙ ap (whnf_of S c.args.left.now) (flip c.in_ok-head-in-Whole.ensures.same))) c.turn_head.ensures.gives

pub returns-in-Goes-clause-gives : goal.returns-in-Goes-clause-gives
returns-in-Goes-clause-gives c = λ due e.
    let S : PlainSignature = entries_of c.args.version.now in
    let is : due ≡ rewritten_by S c.args.self.now.pool c.in-Goes.selection c.args.stack.now.items c.args.left.now =
    subst (λ (k : Next). IsDue S c.args.self.now.pool k c.args.stack.now.items c.args.left.now due) c.in-Goes.is e in
    subst (λ (d : Units Tree). TurnsTo S d c.turn_selection.new.self.pool c.turn_selection.result c.turn_selection.new.stack.items c.turn_selection.new.left) (flip is) c.turn_selection.ensures.gives

pub returns-in-Told-clause-gives : goal.returns-in-Told-clause-gives
returns-in-Told-clause-gives c = λ due e.
    let is = subst (λ (k : Next). IsDue (entries_of c.args.version.now) c.args.self.now.pool k c.args.stack.now.items c.args.left.now due) c.in-Told.is e in
    c.told.ensures.gives due is.0
