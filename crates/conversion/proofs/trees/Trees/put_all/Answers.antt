use Rattle.std.proofs.Common.{subst}
use Rattle.conversion.specs.Trees.{AreListed}
use Rattle.conversion.proofs.Treeing.{listed_popped}
use Rattle.conversion.proofs.trees.Trees.put_all.Goals as goal

pub returns-then-is_err : goal.returns-then-is_err
returns-then-is_err c = λ S h k.
    let i = c.loop-other.invariant S h k in
    let p = listed_popped S c.pop.new.self.items c.in-Some.other (subst (AreListed S) c.in-Some.ensures.items i.1) in
    c.put.ensures S i.0 p.1

pub loop-other-preserved : goal.loop-other-preserved
loop-other-preserved c = λ S h k.
    let i = c.loop-other.invariant S h k in
    let p = listed_popped S c.pop.new.self.items c.in-Some.other (subst (AreListed S) c.in-Some.ensures.items i.1) in
    (c.put.ensures S i.0 p.1, p.0)

pub returns : goal.returns
returns c = λ S h k. (c.loop-other.invariant S h k).0
