use Rattle.std.proofs.Common.{◌≡◌, map}
use Rattle.dk_model.specs.Trees.{tree}
use Rattle.dk_model.specs.Solving.{solved}
use Rattle.signature_log.specs.Versions.{entries_of}
use Rattle.checked_steps.specs.Checked.{next_solution}
use Rattle.certificate_items.specs.Views.{plain_items}
use Rattle.tree_steps.specs.Views.{pair, bindings as plain}
use Rattle.tree_typing.specs.Given.{bindings}
use Rattle.told_items.specs.Solvings.{given, AreLeft}
use Rattle.told_items.proofs.equations.solve.Given as goal

-- the equations that are left give the same, with units and by the items behind those that are told
abbrev pub invariant-loop-sides : goal.invariant-loop-sides
invariant-loop-sides g l =
    let units = g.T.Tells.units in
    let S = entries_of l.fn.version in
    record {
      due : given S l.solving (units l.evaluation) ≡ solved S (bindings l.fn.bound) (tree l.fn.term) (tree l.fn.other) (units l.fn.evaluation);
      told : AreLeft S (λ items. next_solution S items (bindings l.fn.bound) (tree l.fn.term) (tree l.fn.other)) (plain_items l.solving.items.items) (map pair l.solving.left) (plain l.solving.bindings);
    }

abbrev pub decreases-loop-sides : goal.decreases-loop-sides
decreases-loop-sides g l = g.T.Tells.units l.evaluation
