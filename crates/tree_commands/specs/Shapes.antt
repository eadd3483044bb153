-- For callers: what the shapes of rules give: the rules, or the first code. Want of memory says nothing.
use Rattle.std.specs.Prelude.{◌≡◌, Result, Ok, Err, List, map}
use Rattle.dk_model.specs.PlainEntries.{PlainRule}
use Rattle.dk_model.specs.Signatures.{plain_rule}
use Rattle.dk_model.specs.declared.code.Code.{Code}
use Rattle.dk_model.specs.declared.code.Fault.{Fault}
use Rattle.dk_model.specs.declared.code.Fault.TheVariants.{Refused, NoMemory}
use Rattle.dk_model.specs.declared.signature.Rule.{Rule}
use Rattle.dk_model.specs.declared.term.Term.{Term}

-- the fault is the code, or want of memory
abbrev pub IsFaultOf : {A : Type 0} → Result A Code → Fault → Type 0
IsFaultOf due (Refused c) = due ≡ Err c
IsFaultOf due NoMemory = Unit {0}

-- a rule of this shape, or its code
abbrev pub GivesShape : Result PlainRule Code → Result (Rule Term) Fault → Type 0
GivesShape due (Ok r) = due ≡ Ok (plain_rule r)
GivesShape due (Err fault) = IsFaultOf due fault

-- rules of these shapes, or their first code
abbrev pub GivesShapes : Result (List PlainRule) Code → Result (List (Rule Term)) Fault → Type 0
GivesShapes due (Ok rs) = due ≡ Ok (map plain_rule rs)
GivesShapes due (Err fault) = IsFaultOf due fault
