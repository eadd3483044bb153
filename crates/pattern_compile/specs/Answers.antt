-- For proofs: what the calls answer, by the cases of the result. Want of memory says nothing.
use Rattle.std.specs.Prelude.{◌≡◌, Result, Ok, Err, List, map}
use Rattle.dk_model.specs.Signatures.{PlainRule, plain_rule, plain_signature}
use Rattle.dk_model.specs.Scoping.{plain_scoped_rule}
use Rattle.dk_model.specs.Shapes.{shapes_of}
use Rattle.dk_model.specs.declared.code.Code.{Code}
use Rattle.dk_model.specs.declared.code.Fault.{Fault}
use Rattle.dk_model.specs.declared.code.Fault.TheVariants.{Refused, NoMemory}
use Rattle.dk_model.specs.declared.scoped.ScopedRule.{ScopedRule}
use Rattle.dk_model.specs.declared.signature.Rule.{Rule}
use Rattle.dk_model.specs.declared.signature.Signature.{Signature}
use Rattle.dk_model.specs.declared.term.Term.{Term}

-- the fault is the code of the shape, or want of memory
abbrev pub IsFaultOf : {A : Type 0} → Result A Code → Fault → Type 0
IsFaultOf due (Refused c) = due ≡ Err c
IsFaultOf due NoMemory = Unit {0}

-- a rule of this shape, or its code
abbrev pub GivesRule : Result PlainRule Code → Result (Rule Term) Fault → Type 0
GivesRule due (Ok r) = due ≡ Ok (plain_rule r)
GivesRule due (Err e) = IsFaultOf due e

-- rules of these shapes, or their first code
abbrev pub GivesRules : Result (List PlainRule) Code → Result (List (Rule Term)) Fault → Type 0
GivesRules due (Ok rs) = due ≡ Ok (map plain_rule rs)
GivesRules due (Err e) = IsFaultOf due e

-- the shapes of the rules of a command over this signature
abbrev pub command_shapes : Signature → List ScopedRule → Result (List PlainRule) Code
command_shapes s rs = shapes_of (plain_signature s) (map plain_scoped_rule rs)
