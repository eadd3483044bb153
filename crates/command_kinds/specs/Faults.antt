-- For callers: how the making of an entry fails.
use Rattle.std.specs.Prelude.{◌≡◌, Result, Err}
use Rattle.dk_model.specs.Signatures.{PlainSignature}
use Rattle.dk_model.specs.Scoping.{PlainCommand, declare, rule_command, query}
use Rattle.dk_model.specs.Shapes.{shapes_of}
use Rattle.dk_model.specs.declared.code.Code.{Code}
use Rattle.dk_model.specs.declared.stop.TypeFault.{TypeFault}
use Rattle.dk_model.specs.declared.stop.TypeFault.TheVariants.{Refused, Ended, NoMemory}

-- the fault is the code of the shapes, or want of memory
abbrev pub FailsShapes : {A : Type 0} → Result A Code → TypeFault → Type 0
FailsShapes due (Refused c) = due ≡ Err c
FailsShapes due Ended = ⊥
FailsShapes due NoMemory = Unit {0}

-- rules have the first code of their shapes; else memory ended
abbrev pub IsEntryFault : PlainSignature → PlainCommand → TypeFault → Type 0
IsEntryFault S (declare s A b) f = f ≡ NoMemory
IsEntryFault S (rule_command rs) f = FailsShapes (shapes_of S rs) f
IsEntryFault S (query demand a) f = f ≡ NoMemory
