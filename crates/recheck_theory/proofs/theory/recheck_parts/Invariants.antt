use Rattle.std.proofs.Common.{map, drop}
use Rattle.dk_model.specs.Scoping.{plain_command}
use Rattle.signature_log.specs.Versions.{entries_of}
use Rattle.recheck_theory.proofs.Turns.{Answered}
use Rattle.recheck_theory.proofs.theory.recheck_parts.Given as goal

abbrev pub invariant-loop-done : goal.invariant-loop-done
invariant-loop-done l = Answered (entries_of l.version) l.done (map plain_command (drop l.done l.commands)) l.rest (map plain_command l.commands) l.bytes
