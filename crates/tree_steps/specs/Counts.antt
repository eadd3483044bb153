-- For proofs: a term with right counts.
use Rattle.std.specs.Prelude.{◌≡◌}
use Rattle.dk_model.specs.Trees.{tree}
use Rattle.tree_steps.specs.Shapes.{shape_of, shape}
use Rattle.tree_steps.specs.declared.counted.Counted.{Counted}

abbrev pub IsCounted : Counted → Type 0
IsCounted c = shape c.counts ≡ shape_of (tree c.term)
