-- A side is a term of one of several kinds, which are let go each in their own way: so the loop goes round in four.
use Rattle.std.proofs.Common.{rules, ◌≡◌, [], map}
use Rattle.dk_model.specs.Trees.{tree}
use Rattle.signature_log.specs.Versions.{entries_of}
use Rattle.certificate_items.specs.Views.{plain_items}
use Rattle.tree_steps.specs.Views.{pair, bindings as plain}
use Rattle.tree_typing.specs.Given.{bindings}
use Rattle.told_items.proofs.Solving.{items_end}
use Rattle.told_items.proofs.Goings.{goes_round}
use Rattle.told_items.proofs.equations.solve.Goals as goal

pub loop-sides-preserved-in_ok-solving-2 : goal.loop-sides-preserved-in_ok-solving-2
loop-sides-preserved-in_ok-solving-2 g c =
    let units = g.T.Tells.units in let i = c.loop-sides.invariant in let o = c.in_ok-solving-2.ensures in
    let p = goes_round (entries_of c.args.version.now) (bindings c.args.bound.now) (tree c.args.term.now) (tree c.args.other.now)
    (units c.args.evaluation.now) (units c.loop-sides.evaluation) (units c.go_on.new.evaluation) c.loop-sides.solving c.in_ok-solving-2.solving
    c.in-Some.sides c.pop_front.new.self c.in-Some.ensures.items i.due i.told o.gives o.items in
    record { due = p.0; told = p.1 }

pub loop-sides-preserved-in_ok-solving-2-2 : goal.loop-sides-preserved-in_ok-solving-2-2
loop-sides-preserved-in_ok-solving-2-2 g c =
    let units = g.T.Tells.units in let i = c.loop-sides.invariant in let o = c.in_ok-solving-2.ensures in
    let p = goes_round (entries_of c.args.version.now) (bindings c.args.bound.now) (tree c.args.term.now) (tree c.args.other.now)
    (units c.args.evaluation.now) (units c.loop-sides.evaluation) (units c.go_on.new.evaluation) c.loop-sides.solving c.in_ok-solving-2.solving
    c.in-Some.sides c.pop_front.new.self c.in-Some.ensures.items i.due i.told o.gives o.items in
    record { due = p.0; told = p.1 }

pub loop-sides-preserved-in_ok-solving-2-3 : goal.loop-sides-preserved-in_ok-solving-2-3
loop-sides-preserved-in_ok-solving-2-3 g c =
    let units = g.T.Tells.units in let i = c.loop-sides.invariant in let o = c.in_ok-solving-2.ensures in
    let p = goes_round (entries_of c.args.version.now) (bindings c.args.bound.now) (tree c.args.term.now) (tree c.args.other.now)
    (units c.args.evaluation.now) (units c.loop-sides.evaluation) (units c.go_on.new.evaluation) c.loop-sides.solving c.in_ok-solving-2.solving
    c.in-Some.sides c.pop_front.new.self c.in-Some.ensures.items i.due i.told o.gives o.items in
    record { due = p.0; told = p.1 }

pub loop-sides-preserved : goal.loop-sides-preserved
loop-sides-preserved g c =
    let units = g.T.Tells.units in let i = c.loop-sides.invariant in let o = c.in_ok-solving-2.ensures in
    let p = goes_round (entries_of c.args.version.now) (bindings c.args.bound.now) (tree c.args.term.now) (tree c.args.other.now)
    (units c.args.evaluation.now) (units c.loop-sides.evaluation) (units c.go_on.new.evaluation) c.loop-sides.solving c.in_ok-solving-2.solving
    c.in-Some.sides c.pop_front.new.self c.in-Some.ensures.items i.due i.told o.gives o.items in
    record { due = p.0; told = p.1 }

pub returns-clause-items : goal.returns-clause-items
returns-clause-items g c = let none : map pair c.loop-sides.solving.left ≡ [] = search rules in
    items_end (entries_of c.args.version.now) (plain_items c.loop-sides.solving.items.items) (bindings c.args.bound.now) (plain c.loop-sides.solving.bindings)
    (tree c.args.term.now) (tree c.args.other.now) (map pair c.loop-sides.solving.left) none c.loop-sides.invariant.told
