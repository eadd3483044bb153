use Rattle.std.proofs.Common.{◌≡◌, map, take}
use Rattle.dk_model.specs.Signatures.{plain_entry}
use Rattle.dk_model.proofs.signature.Signature.copy.Given as goal

abbrev pub invariant-loop-entry : goal.invariant-loop-entry
invariant-loop-entry l = map plain_entry l.entries ≡ map plain_entry (take l.entry-index l.self.entries)
