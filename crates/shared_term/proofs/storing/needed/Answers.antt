-- Down from the root, the parts of what is marked get marked.
use Rattle.std.proofs.Common.{◌≡◌, ◌∙◌, ◌+◌, ◌-◌, length, true, sym, subst, rules, arith, true≢false}
use Rattle.std.proofs.lemmas.Option.{get_or_from_slice_get}
use Rattle.shared_term.specs.Storage.{AreMarked}
use Rattle.shared_term.proofs.Places.{marked_past, marked_more, marked_skip}
use Rattle.shared_term.proofs.storing.needed.Goals as goal

pub loop-at-init : goal.loop-at-init
loop-at-init c =
    let count : length c.mark.new.marks.items ≡ c.args.id.0 + 1 = search (rules, arith) in
    record {
      count = count;
      below = omega arith;
      root = c.mark.ensures.marked;
      closed = marked_past c.args.pool.now c.mark.new.marks.items (c.args.id.0 + 1) (omega (arith, count));
    }

pub loop-at-preserved-then-index : goal.loop-at-preserved-then-index
loop-at-preserved-then-index c =
    let at-more : c.loop-at.at - 1 + 1 ≡ c.loop-at.at = omega (arith, c.loop-at-test.true) in
    record {
      count = c.mark_parts.ensures.count ∙ c.loop-at.invariant.count;
      below = omega (arith, c.loop-at.invariant.below);
      root = c.mark_parts.ensures.kept _ c.loop-at.invariant.root;
      closed = marked_more c.args.pool.now c.loop-at.marks.items c.mark_parts.new.marks.items (c.loop-at.at - 1) c.get.result
          (subst (AreMarked c.args.pool.now c.loop-at.marks.items) (sym at-more) c.loop-at.invariant.closed) c.get.ensures.node c.mark_parts.ensures.marked
          c.mark_parts.ensures.kept c.mark_parts.ensures.only;
    }

pub loop-at-preserved : goal.loop-at-preserved
loop-at-preserved c =
    let at-more : c.loop-at.at - 1 + 1 ≡ c.loop-at.at = omega (arith, c.loop-at-test.true) in
    record {
      count = c.loop-at.invariant.count;
      below = omega (arith, c.loop-at.invariant.below);
      root = c.loop-at.invariant.root;
      closed = marked_skip c.args.pool.now c.loop-at.marks.items (c.loop-at.at - 1)
          (subst (AreMarked c.args.pool.now c.loop-at.marks.items) (sym at-more) c.loop-at.invariant.closed)
          (λ w. true≢false (sym (c.index.ensures ∙ get_or_from_slice_get c.loop-at.marks.items (c.loop-at.at - 1) true c.index.result.now w) ∙ c.if-index.false));
    }
