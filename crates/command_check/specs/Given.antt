-- For proofs: what the calls answer, and what an accepted command means.
use Rattle.std.specs.Prelude.{ℕ, ◌≡◌, Result, Ok, Err, List, map}
use Rattle.dk_model.specs.Trees.{Tree}
use Rattle.dk_model.specs.Signatures.{PlainRule, PlainSignature, plain_rule, rule_by}
use Rattle.dk_model.specs.Scoping.{plain_scoped_rule}
use Rattle.dk_model.specs.Shapes.{kept_rules, shapes_of}
use Rattle.dk_model.specs.Typing.{Judged, answer}
use Rattle.dk_model.specs.Verdicts.{body_type}
use Rattle.dk_model.specs.declared.code.Code.{Code}
use Rattle.dk_model.specs.declared.code.Verdict.{Verdict}
use Rattle.dk_model.specs.declared.code.Verdict.TheVariants.{Refused as RefusedBy, Ended as OutOfUnits, Memory as OutOfMemory}
use Rattle.dk_model.specs.declared.scoped.ScopedRule.{ScopedRule}
use Rattle.dk_model.specs.declared.signature.Rule.{Rule}
use Rattle.dk_model.specs.declared.stop.TypeFault.{TypeFault}
use Rattle.dk_model.specs.declared.stop.TypeFault.TheVariants.{Refused, Ended, NoMemory}
use Rattle.dk_model.specs.declared.term.Term.{Term}
use Rattle.infer_check.specs.Given.{Fails}
use Rattle.signature_log.specs.Reducers.{Makes}
use Rattle.command_kinds.specs.Faults.{FailsShapes}
use Rattle.shared_term.specs.Storage.{stored_term}
use Rattle.shared_term.specs.declared.stored.Stored.{Stored}

-- the verdict of a fault, which isn't that the command is accepted
abbrev pub fault_verdict : TypeFault → Verdict
fault_verdict (Refused c) = RefusedBy c
fault_verdict Ended = OutOfUnits
fault_verdict NoMemory = OutOfMemory

-- the rules of these shapes, or their first code
abbrev pub GivesShapes : Result (List PlainRule) Code → Result (List (Rule Term)) TypeFault → Type 0
GivesShapes due (Ok rs) = due ≡ Ok (map plain_rule rs)
GivesShapes due (Err f) = FailsShapes due f

-- the shapes of the rules of a command
abbrev pub command_shapes : PlainSignature → List ScopedRule → Result (List PlainRule) Code
command_shapes S rs = shapes_of S (map plain_scoped_rule rs)

-- the rules that an entry keeps, or the first code of their shapes
abbrev pub GivesRules : Result (List PlainRule) Code → Result (List (Rule Stored)) TypeFault → Type 0
GivesRules due (Ok rs) = map (rule_by stored_term) rs ≡ kept_rules due
GivesRules due (Err f) = FailsShapes due f

-- this term, as the reducer's own, where the typing has an answer, with the units left
abbrev pub GivesTerm : {R T A : Type 0} → (R → T → Type 0) → (R → T → Tree) → Judged A → Tree → R → Result T TypeFault → ℕ → Type 0
GivesTerm {R} {T} {A} owns denotes due term r (Ok t) left = ((a : A) × (due ≡ answer a left)) × Makes owns denotes r term t
GivesTerm owns denotes due term r (Err fault) left = Fails fault left due

-- that a body has this type, within the budget
abbrev pub HasBodyType : PlainSignature → Tree → ℕ → Tree → Type 0
HasBodyType S b budget T = (n : ℕ) × (body_type S b budget ≡ answer T n)
