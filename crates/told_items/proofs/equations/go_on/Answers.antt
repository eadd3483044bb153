use Rattle.std.proofs.Common.{map}
use Rattle.dk_model.specs.Trees.{tree}
use Rattle.signature_log.specs.Versions.{entries_of}
use Rattle.certificate_items.specs.Views.{plain_items, plain_steps, plain_word}
use Rattle.tree_steps.specs.Views.{pair, bindings as plain}
use Rattle.told_items.proofs.Solving.{items_go}
use Rattle.told_items.proofs.Goings.{goes_wrong}
use Rattle.told_items.proofs.equations.go_on.Goals as goal

pub returns-in_err-word-clause-gives : goal.returns-in_err-word-clause-gives
returns-in_err-word-clause-gives g c = goes_wrong (entries_of c.args.version.now) c.in_err-word.field-0.0 c.from_residual.result
    (plain c.args.solving.bindings) (tree c.args.sides.now.first) (tree c.args.sides.now.second) (map pair c.args.solving.left)
    (g.T.Tells.units c.args.evaluation.now) (g.T.Tells.units c.solve_one.new.evaluation) c.from_residual.ensures.1 c.in_err-word.ensures.gives

pub returns-clause-items : goal.returns-clause-items
returns-clause-items g c = let found = c.in_ok-word.field-0 in λ due h rest. items_go (entries_of c.args.version.now)
    (plain_items c.args.solving.items.items) (plain_items c.keep.new.items.items) (plain_word found.word) (plain_steps found.join.first) (plain_steps found.join.second)
    (plain c.args.solving.bindings) (plain found.solved.bindings) (tree c.args.sides.now.first) (tree c.args.sides.now.second)
    (map pair c.args.solving.left) (map pair found.solved.parts) (map pair c.in_ok-left.left) due h c.in_ok-keep.ensures c.in_ok-word.ensures.taken c.in_ok-left.ensures rest
