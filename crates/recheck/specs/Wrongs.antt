-- For callers: what a fault of reading or of typing says of a part.
use Rattle.certificate_items.specs.declared.fault.ReadFault.{ReadFault}
use Rattle.certificate_items.specs.declared.fault.ReadFault.TheVariants.{NoItems, NoMemory as NoRoom}
use Rattle.dk_model.specs.declared.stop.TypeFault.{TypeFault}
use Rattle.dk_model.specs.declared.stop.TypeFault.TheVariants.{Refused, Ended, NoMemory as NoSpace}
use Rattle.recheck.specs.declared.wrong.Wrong.{Wrong}
use Rattle.recheck.specs.declared.wrong.Wrong.TheVariants.{Rejected, NoMemory}

abbrev pub read_wrong : ReadFault → Wrong
read_wrong NoItems = Rejected
read_wrong NoRoom = NoMemory

abbrev pub type_wrong : TypeFault → Wrong
type_wrong (Refused c) = Rejected
type_wrong Ended = Rejected
type_wrong NoSpace = NoMemory
