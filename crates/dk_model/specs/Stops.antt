-- For proofs: why an evaluation or a typing gave no answer.
use Rattle.dk_model.specs.declared.stop.Stop.{Stop}
use Rattle.dk_model.specs.declared.stop.Stop.TheVariants.{Ended as Over, NoMemory as NoRoom}
use Rattle.dk_model.specs.declared.stop.TypeFault.{TypeFault}
use Rattle.dk_model.specs.declared.stop.TypeFault.TheVariants.{Ended, NoMemory}

-- what a typing answers where an evaluation stopped
abbrev pub fault_of : Stop → TypeFault
fault_of Over = Ended
fault_of NoRoom = NoMemory
