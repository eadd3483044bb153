-- One binder more at each turn.
use Rattle.std.proofs.Common.{◌∙◌, ap, sym}
use Rattle.dk_model.specs.Trees.{bare}
use Rattle.shared_term.proofs.Growth.{extends-further}
use Rattle.shared_term.proofs.Captures.{abstracted_more, abstracted_all}
use Rattle.shared_term.proofs.pool.Pool.captured.Goals as goal

pub loop-binder-init : goal.loop-binder-init
loop-binder-init c = record { keeps = c.renamed.ensures.keeps; there = c.in_ok-part.ensures.moves.there; is = c.in_ok-part.ensures.moves.is }

pub loop-binder-preserved : goal.loop-binder-preserved
loop-binder-preserved c = record {
  keeps = extends-further _ _ _ c.loop-binder.invariant.keeps c.intern.ensures.keeps;
  there = c.in_ok-part-2.ensures.within;
  is = c.in_ok-part-2.ensures.denotes ∙ ap bare c.loop-binder.invariant.is ∙ sym (abstracted_more c.args.arguments.now c.loop-binder._binder _ c.loop-binder-test.true);
}

pub returns-clause-moves : goal.returns-clause-moves
returns-clause-moves c = record {
  there = c.loop-binder.invariant.there;
  is = c.loop-binder.invariant.is ∙ abstracted_all c.args.arguments.now c.loop-binder._binder _ c.loop-binder-test.false;
}
