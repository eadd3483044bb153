use Rattle.std.proofs.Common.{ap, arith}
use Rattle.shared_term.specs.declared.id.TermId.{TermId}
use Rattle.shared_term.proofs.stored.Stored.is_erased.Goals as goal

pub returns : goal.returns
returns c = λ _.
    let at = ap (λ (i : TermId). i.0) c.root-root.ensures.value in
    let count = c.len-at-end.ensures in
    let whole = c.loop-at-test.false in
    let there = c.root-root.ensures.within in
    c.loop-at.invariant c.args.self.now.1.0 (omega (arith, at, count, whole, there))
