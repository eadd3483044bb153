use Rattle.std.proofs.Common.{take}
use Rattle.signature_log.specs.Placed.{AddsRules, entry_rules}
use Rattle.signature_log.proofs.table.counted.Given as goal

-- the rules so far
abbrev pub invariant-loop-at : goal.invariant-loop-at
invariant-loop-at g l = AddsRules l.fn.table l.all (take l.at (entry_rules l.fn.held))
