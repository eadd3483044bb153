-- For proofs: what stands for a term of a pool.
use Rattle.std.specs.Prelude.{◌<◌, length}
use Rattle.dk_model.specs.Trees.{Tree}
use Rattle.shared_term.specs.declared.id.TermId.{TermId}
use Rattle.shared_term.specs.Pools.{term}
use Rattle.conversion.specs.declared.state.PoolReducer.{PoolReducer}

-- the number of one of its nodes
abbrev pub owned : PoolReducer → TermId → Type 0
owned r t = t.0 < length r.pool

-- and stands for that node's term
abbrev pub denoted : PoolReducer → TermId → Tree
denoted r t = term r.pool t
