use Rattle.std.proofs.Common.{◌≡◌, ◌+◌, ◌≤◌}
use Rattle.dk_model.specs.PlainCommands.{left_apply}
use Rattle.dk_model.specs.Scoping.{plain_left}
use Rattle.prune_theory.specs.Stacks.{left_wound, left_size, left_total, lefts_behind}
use Rattle.prune_theory.proofs.left_spine.left_spine.Given as goal

abbrev pub invariant-loop-head : goal.invariant-loop-head
invariant-loop-head l = record {
  same : left_wound (plain_left l.head) (lefts_behind l.arguments.items) ≡ left_apply (plain_left l.fn.f) (plain_left l.fn.a);
  smaller : left_size (plain_left l.head) + left_total (lefts_behind l.arguments.items) ≤ left_size (plain_left l.fn.f) + left_size (plain_left l.fn.a);
}
