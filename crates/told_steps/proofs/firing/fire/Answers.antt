use Rattle.std.proofs.Common.{arith}
use Rattle.dk_model.specs.Trees.{tree}
use Rattle.told_steps.proofs.Firings.{fires}
use Rattle.told_steps.proofs.firing.fire.Goals as goal

pub returns : goal.returns
returns c = record {
  fires = fires (tree c.args.term.now) c.args.taken c.args.ends c.in_ok-first.first c.saturating_sub-behind.result c.in_ok-told.told
      c.in_ok-first.ensures (omega (arith, c.in_ok-count.ensures)) c.in_ok-told.ensures;
}
