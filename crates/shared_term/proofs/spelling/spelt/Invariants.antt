-- The walk spells the term, and each turn leaves fewer.
use Rattle.std.proofs.Common.{◌≡◌, length}
use Rattle.dk_model.specs.Trees.{tree}
use Rattle.shared_term.specs.Storage.{IsSpelt}
use Rattle.shared_term.specs.Spelling.{AreThere, IsThere, spelt_tree, spells, left_to_spell}
use Rattle.shared_term.proofs.spelling.spelt.Given as goal

abbrev pub invariant-loop-stage : goal.invariant-loop-stage
invariant-loop-stage l = record {
  spelt : IsSpelt l.nodes.items;
  there : AreThere (length l.nodes.items) l.waiting.items;
  at : IsThere (length l.nodes.items) l.stage;
  spells : spells l.erases l.nodes.items l.waiting.items l.stage ≡ spelt_tree l.erases (tree l.fn.it);
}

abbrev pub decreases-loop-stage : goal.decreases-loop-stage
decreases-loop-stage l = left_to_spell l.erases l.waiting.items l.stage
