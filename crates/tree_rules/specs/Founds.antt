-- For callers: what the walk of a left side finds, as dk_model's plain data.
use Rattle.std.specs.Prelude.{List, Option, map}
use Rattle.dk_model.specs.Trees.{Tree, tree}
use Rattle.dk_model.specs.Signatures.{maybe_tree}
use Rattle.dk_model.specs.RuleTypingOver.{Guard as PlainGuard, Found as PlainFound, Walked as PlainWalked, Posed as PlainPosed}
use Rattle.tree_typing.specs.Given.{bindings}
use Rattle.tree_rules.specs.declared.found.Guard.{Guard}
use Rattle.tree_rules.specs.declared.found.Found.{Found}
use Rattle.tree_rules.specs.declared.found.Walked.{Walked}
use Rattle.tree_rules.specs.declared.found.Posed.{Posed}

-- the types of the rule variables
abbrev pub types_of : Found → List (Option Tree)
types_of w = map maybe_tree w.types.items

abbrev pub guard_of : Guard → PlainGuard
guard_of g = record { context = map tree g.context; term = tree g.term; typ = tree g.typ }

abbrev pub found_of : Found → PlainFound
found_of w = record { types = types_of w; guards = map guard_of w.guards.items; bindings = bindings w.bindings }

abbrev pub walked_of : Walked → PlainWalked
walked_of w = record { term = tree w.term; typ = tree w.typ; found = found_of w.found }

abbrev pub posed_of : Posed → PlainPosed
posed_of p = record { typ = tree p.typ; bindings = bindings p.bindings }
