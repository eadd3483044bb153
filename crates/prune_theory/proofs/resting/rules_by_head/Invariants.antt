use Rattle.std.proofs.Common.{◌≡◌, ◌+◌, length, map, replicate, []}
use Rattle.dk_model.specs.Scoping.{plain_command}
use Rattle.prune_theory.specs.Reaching.{with_commands}
use Rattle.prune_theory.proofs.resting.rules_by_head.Given as goal

abbrev pub invariant-loop-command : goal.invariant-loop-command
invariant-loop-command l = record {
  index : with_commands l.place (map plain_command l.rest) l.index.items ≡ with_commands 0 (map plain_command l.fn.commands) (replicate l.fn.count []);
  number : l.place + length l.rest ≡ length l.fn.commands;
}

abbrev pub decreases-loop-command : goal.decreases-loop-command
decreases-loop-command l = length l.rest
