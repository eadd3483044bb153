-- Places of a stored term's nodes.
use Rattle.std.proofs.Common.{◌≡◌, ◌≤◌, ℕ, List, length, subst, sym}
use Rattle.std.proofs.lemmas.List.{get_or_past}
use Rattle.std.specs.Prelude.{get_or}
use Rattle.dk_model.specs.Trees.{star}
use Rattle.shared_term.specs.Pools.{Node, terms}
use Rattle.shared_term.proofs.Growth.{length-terms}

-- past the last node a place is `Type`
pub past_the_last : (ns : List Node) (k : ℕ) → length ns ≤ k → get_or (terms ns) k star ≡ star
past_the_last ns k past = get_or_past (terms ns) k star (subst (λ n. n ≤ k) (sym (length-terms ns)) past)
