-- For callers: the types of variables as lists of trees.
use Rattle.std.specs.Prelude.{List, ◌∷◌, map}
use Rattle.dk_model.specs.Trees.{Tree, tree}
use Rattle.tree_typing.specs.declared.context.Context.{Context}
use Rattle.tree_typing.specs.declared.context.Context.TheVariants.{Outer, Bound'}

-- the types of the bound variables, the innermost first
abbrev pub bound_types : Context → List Tree
bound_types (Outer ts) = map tree ts.now
bound_types (Bound' t p c) = tree t.now ∷ bound_types c
