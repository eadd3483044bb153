use Rattle.std.proofs.Common.{◌≡◌, ◌+◌, length, map}
use Rattle.dk_model.specs.Scoping.{plain_command}
use Rattle.prune_theory.specs.Before.{all_before}
use Rattle.prune_theory.proofs.before.mention_before.Given as goal

abbrev pub invariant-loop-command : goal.invariant-loop-command
invariant-loop-command l = record {
  before : all_before l.place (map plain_command l.rest) ≡ all_before 0 (map plain_command l.fn.commands);
  number : l.place + length l.rest ≡ length l.fn.commands;
}

abbrev pub decreases-loop-command : goal.decreases-loop-command
decreases-loop-command l = length l.rest
