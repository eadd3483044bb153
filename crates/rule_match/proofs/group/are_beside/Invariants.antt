use Rattle.std.proofs.Common.{take}
use Rattle.rule_match.specs.Groups.{AreBeside}
use Rattle.rule_match.proofs.group.are_beside.Given as goal

abbrev pub invariant-loop-key : goal.invariant-loop-key
invariant-loop-key l = AreBeside l.pivot l.before (take l.key-index l.keys)
