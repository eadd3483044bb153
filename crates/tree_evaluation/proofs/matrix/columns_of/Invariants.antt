use Rattle.std.proofs.Common.{◌≡◌, map, take}
use Rattle.tree_evaluation.specs.Views.{at_depth, tree, columns_of}
use Rattle.tree_evaluation.specs.Tellings.{AreUnmoved}
use Rattle.tree_evaluation.proofs.matrix.columns_of.Given as goal

abbrev pub invariant-loop-term : goal.invariant-loop-term
invariant-loop-term l = record {
  shown : columns_of l.columns ≡ map (at_depth l.depth) (map tree (take l.term-index l.terms));
  unmoved : AreUnmoved l.columns;
}
