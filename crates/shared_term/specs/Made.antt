-- For callers: the terms that are being made, by the places of their nodes.
use Rattle.std.specs.Prelude.{List, [], ◌∷◌, length}
use Rattle.dk_model.specs.Trees.{Tree}
use Rattle.shared_term.specs.declared.id.TermId.{TermId}
use Rattle.shared_term.specs.Pools.{Node, term}
use Rattle.shared_term.specs.Storage.{IsSpelt}
use Rattle.shared_term.specs.Winding.{AreWithin}

-- the terms of these places on others, the one of the last place first
abbrev pub made_on : List Node → List Tree → List TermId → List Tree
made_on ns ts [] = ts
made_on ns ts (i ∷ ids) = made_on ns (term ns i ∷ ts) ids

abbrev pub made : List Node → List TermId → List Tree
made ns ids = made_on ns [] ids

-- each place is one of these nodes, which stand behind their parts
abbrev pub AreMade : List Node → List TermId → Type 0
AreMade ns ids = IsSpelt ns × AreWithin (length ns) ids

-- the terms of a `Making`, the one that was made last first
abbrev pub stack : List Node × List TermId → List Tree
stack m = made m.0 m.1
