-- For callers: what a fault says of the verdict on a command. Want of memory says nothing.
use Rattle.std.specs.Prelude.{◌≡◌}
use Rattle.dk_model.specs.declared.code.Verdict.{Verdict}
use Rattle.dk_model.specs.declared.code.Verdict.TheVariants.{Refused as Rejected, Ended as Over}
use Rattle.dk_model.specs.declared.stop.TypeFault.{TypeFault}
use Rattle.dk_model.specs.declared.stop.TypeFault.TheVariants.{Refused, Ended, NoMemory}

-- the verdict is the fault
abbrev pub IsFaultOf : Verdict → TypeFault → Type 0
IsFaultOf v (Refused code) = v ≡ Rejected code
IsFaultOf v Ended = v ≡ Over
IsFaultOf v NoMemory = Unit {0}
