-- For callers: what the code holds, as the plain data of the definitions.
use Rattle.std.specs.Prelude.{Option, List, map}
use Rattle.std.specs.declared.vec.Vec.{Vec}
use Rattle.std.specs.declared.alloc.Global.{Global}
use Rattle.dk_model.specs.Trees.{Tree, tree}
use Rattle.dk_model.specs.Signatures.{maybe_tree}
use Rattle.dk_model.specs.PlainEntries.{PlainRule}
use Rattle.dk_model.specs.Bindings.{Bindings}
use Rattle.dk_model.specs.Solving.{Equation as PlainEquation, binds, parts as equation_parts, clash, nothing}
use Rattle.dk_model.specs.declared.term.Term.{Term}
use Rattle.typing_model.specs.Steps.{Part as PlainPart, variable_part, guard_part}
use Rattle.checked_steps.specs.Taken.{Solved as PlainSolved}
use Rattle.tree_terms.specs.Rules.{rule}
use Rattle.tree_steps.specs.declared.parts.Part.{Part}
use Rattle.tree_steps.specs.declared.parts.Part.TheVariants.{Variable, Guard}
use Rattle.tree_steps.specs.declared.pairs.Pair.{Pair}
use Rattle.tree_steps.specs.declared.counted.Counted.{Counted}
use Rattle.tree_steps.specs.declared.steps.Firing.{Firing}
use Rattle.tree_steps.specs.declared.equations.Equation.{Equation}
use Rattle.tree_steps.specs.declared.equations.Equation.TheVariants.{Binds, Parts, Clash, Nothing}
use Rattle.tree_steps.specs.declared.solving.Solved.{Solved}

abbrev pub part : Part → PlainPart
part (Variable k t) = variable_part k (tree t)
part (Guard depth g t) = guard_part depth (tree g) (tree t)

abbrev pub pair : Pair → Tree × Tree
pair p = (tree p.first, tree p.second)

abbrev pub term_of : Counted → Tree
term_of c = tree c.term

abbrev pub parts : Vec Part Global → List PlainPart
parts ps = map part ps.items

abbrev pub firing : Firing → PlainRule × List PlainPart
firing f = (rule f.rule, parts f.parts)

abbrev pub pairs : List Pair → List (Tree × Tree)
pairs ps = map pair ps

abbrev pub equation : Equation → PlainEquation
equation (Binds k t) = binds k (tree t)
equation (Parts ps) = equation_parts (map pair ps)
equation Clash = clash
equation Nothing = nothing

abbrev pub bindings : Vec (Option Term) Global → Bindings
bindings s = map maybe_tree s.items

abbrev pub solved : Solved → PlainSolved
solved s = (bindings s.bindings, map pair s.parts)
