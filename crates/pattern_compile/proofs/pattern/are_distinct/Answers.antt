use Rattle.pattern_compile.proofs.Distinct.{distinct_lost, distinct_so_far}
use Rattle.pattern_compile.proofs.pattern.are_distinct.Goals as goal

pub returns-then-contains : goal.returns-then-contains
returns-then-contains c = distinct_lost c.args.variables.now c.loop-place.place c.loop-place-test.true c.if-contains.ensures.value

pub loop-place-preserved : goal.loop-place-preserved
loop-place-preserved c =
    distinct_so_far c.args.variables.now c.loop-place.place c.loop-place-test.true c.loop-place.invariant c.if-contains.ensures.value
