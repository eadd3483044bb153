use Rattle.std.proofs.Common.{◌≡◌, map, take}
use Rattle.dk_model.specs.Signatures.{plain_entry}
use Rattle.signature_log.specs.Versions.{entries_of}
use Rattle.signature_log.proofs.storing.version_of.Given as goal

abbrev pub invariant-loop-entry : goal.invariant-loop-entry
invariant-loop-entry l = entries_of l.version ≡ map plain_entry (take l.entry-index l.signature.entries)
