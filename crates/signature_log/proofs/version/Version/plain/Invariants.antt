use Rattle.std.proofs.Common.{◌≡◌, map, take}
use Rattle.dk_model.specs.Signatures.{plain_entry}
use Rattle.signature_log.specs.Versions.{stored_entry}
use Rattle.signature_log.proofs.version.Version.plain.Given as goal

abbrev pub invariant-loop-at : goal.invariant-loop-at
invariant-loop-at l = map plain_entry l.entries ≡ map stored_entry (take l.at l.fn.self)
