use Rattle.std.proofs.Common.{subst, length}
use Rattle.prune_file.specs.Commands.{AllBelow}
use Rattle.prune_file.proofs.Chosen.{one_more, read_at}
use Rattle.prune_file.proofs.pruning.spans_at.Goals as goal

pub bounds-spans-place : goal.bounds-spans-place
bounds-spans-place c = (subst (AllBelow (length c.args.spans.now)) c.in-Some.ensures.cases.0 c.loop-place.invariant.below).0

pub loop-place-preserved : goal.loop-place-preserved
loop-place-preserved c =
    let inv = c.loop-place.invariant in
    let below = subst (AllBelow (length c.args.spans.now)) c.in-Some.ensures.cases.0 inv.below in
    record {
      some = one_more c.args.spans.now _ _ _ _ _ _ c.in-Some.ensures.cases.0
          (read_at c.args.spans.now c.in-Some.place.now _ below.0) c.in_ok-push.ensures.items inv.some;
      below = below.1;
    }
