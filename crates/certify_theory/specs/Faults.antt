-- For proofs: the fault of the command of a number.
use Rattle.std.specs.Prelude.{ℕ}
use Rattle.dk_model.specs.declared.stop.TypeFault.{TypeFault}
use Rattle.dk_model.specs.declared.stop.TypeFault.TheVariants.{Refused, Ended, NoMemory as NoRoom}
use Rattle.certify_theory.specs.declared.fault.CertifyFault.{CertifyFault}
use Rattle.certify_theory.specs.declared.fault.CertifyFault.TheVariants.{NotAccepted, NoMemory}

abbrev pub fault_at : ℕ → TypeFault → CertifyFault
fault_at number (Refused code) = NotAccepted number
fault_at number Ended = NotAccepted number
fault_at number NoRoom = NoMemory number
