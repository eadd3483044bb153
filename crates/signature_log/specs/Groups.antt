-- For proofs: the entries of a version: whole groups in blocks, and the last ones in a chain.
use Rattle.std.specs.Prelude.{ℕ, ◌≡◌, ◌<◌, ◌≤◌, List, ◌++◌, length}
use Rattle.std.specs.List.{All, flat_map}
use Rattle.signature_log.specs.Blocks.{leaf_places, places_3, IsSound_3}

-- what stands in the groups, in order, then what stands in the chain
abbrev pub grouped : {A : Type 0} → List (List (List (List A))) → List A → List A
grouped groups recent = flat_map leaf_places (places_3 groups) ++ recent

-- each group has 32 places, fewer are in the chain, and this many are all of them, at most 32 · 32 · 32 · 32
pub record IsGrouped {A : Type 0} (groups : List (List (List (List A)))) (recent : List A) (count : ℕ) : Type 0 where
  pub sound : IsSound_3 groups
  pub whole : All (λ group. length group ≡ 32) (places_3 groups)
  pub few : length recent < 32
  pub counted : count ≡ length (grouped groups recent)
  pub within : count ≤ 1048576
