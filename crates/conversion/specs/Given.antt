-- For proofs: what an evaluation gives, by the cases of its result. Want of memory says nothing.
use Rattle.std.specs.Prelude.{ℕ, ◌≡◌, ◌<◌, Option, Some, None, Bool, Result, Ok, Err, List, length}
use Rattle.dk_model.specs.Trees.{Tree}
use Rattle.dk_model.specs.Units.{Units}
use Rattle.dk_model.specs.declared.stop.Stop.{Stop}
use Rattle.dk_model.specs.declared.stop.Stop.TheVariants.{Ended, NoMemory}
use Rattle.shared_term.specs.declared.id.TermId.{TermId}
use Rattle.shared_term.specs.Pools.{Node, term}

-- a term of the pool, with the units left; where they don't suffice none is left
abbrev pub GivesTerm : Units Tree → List Node → Result TermId Stop → ℕ → Type 0
GivesTerm due ns (Ok v) left = (due ≡ Some (term ns v, left)) × (v.0 < length ns)
GivesTerm due ns (Err Ended) left = (due ≡ None) × (left ≡ 0)
GivesTerm due ns (Err NoMemory) left = Unit {0}

-- yes or no, with the units left; where they don't suffice none is left
abbrev pub GivesBool : Units Bool → Result Bool Stop → ℕ → Type 0
GivesBool due (Ok b) left = due ≡ Some (b, left)
GivesBool due (Err Ended) left = (due ≡ None) × (left ≡ 0)
GivesBool due (Err NoMemory) left = Unit {0}

-- a weak head form that is there at once, with fewer units left than these; or all of them are left
abbrev pub Recalls : Units Tree → List Node → ℕ → Result (Option TermId) Stop → ℕ → Type 0
Recalls due ns n (Ok (Some v)) left = (due ≡ Some (term ns v, left)) × (v.0 < length ns) × (left < n)
Recalls due ns n (Ok None) left = left ≡ n
Recalls due ns n (Err Ended) left = (due ≡ None) × (left ≡ 0)
Recalls due ns n (Err NoMemory) left = Unit {0}
