-- For proofs: what takes the place of the variables of a term of a pool.
use Rattle.std.specs.Prelude.{ℕ, ◌<◌, List}
use Rattle.dk_model.specs.Trees.{Tree}
use Rattle.dk_model.specs.Captures.{filled}
use Rattle.dk_model.specs.Substitution.{substitute}
use Rattle.shared_term.specs.Pools.{Node, term}
use Rattle.shared_term.specs.Changes.{AreCaptures, captured_terms}
use Rattle.conversion.specs.declared.putting.Filling.{Filling}
use Rattle.conversion.specs.declared.putting.Filling.TheVariants.{Captures, Argument}

-- the tree with this in the place of its variables
abbrev pub put_by : List Node → Filling → Tree → Tree
put_by ns (Captures cs) t = filled (captured_terms ns cs.now) 0 t
put_by ns (Argument a) t = substitute 0 (term ns a) t

-- it is of a pool of so many nodes
abbrev pub IsFilling : ℕ → Filling → Type 0
IsFilling n (Captures cs) = AreCaptures n cs.now
IsFilling n (Argument a) = a.0 < n
