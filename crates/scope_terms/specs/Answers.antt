-- For proofs: how the faults of a call stand to scoping.
use Rattle.std.specs.Prelude.{◌≡◌}
use Rattle.dk_model.specs.declared.code.Fault.{Fault}
use Rattle.dk_model.specs.declared.code.Fault.TheVariants.{Refused, NoMemory}
use Rattle.scope_terms.specs.Scopes.{Scoping, refused}

-- the fault is the code of the scoping, or want of memory
abbrev pub IsFaultOf : {A : Type 0} → Scoping A → Fault → Type 0
IsFaultOf s (Refused c) = s ≡ refused c
IsFaultOf s NoMemory = Unit {0}
