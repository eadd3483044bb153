-- For proofs: blocks in a row, as one list of places.
use Rattle.std.specs.Prelude.{ℕ, ◌-◌, ◌*◌, min, ◌≡◌, ◌<◌, ◌≤◌, ◌^◌, List, [], ◌∷◌, length}
use Rattle.std.specs.List.{flat_map}

-- the last block has a place at least, each other as many as it can
abbrev pub IsFilled : {B A : Type 0} → (B → List A) → ℕ → B → List B → Type 0
IsFilled places most b [] = (0 < length (places b)) × (length (places b) ≤ most)
IsFilled places most b (c ∷ bs) = length (places b) ≡ most

abbrev pub AreFilled : {B A : Type 0} → (B → List A) → (B → Type 0) → ℕ → List B → Type 0
AreFilled places sound most [] = Unit {0}
AreFilled places sound most (b ∷ bs) = sound b × (IsFilled places most b bs × AreFilled places sound most bs)

-- at most 32 of them, with as many places as a number of 64 bits counts
pub record IsBranch {B A : Type 0} (places : B → List A) (sound : B → Type 0) (most : ℕ) (bs : List B) : Type 0 where
  pub few : length bs ≤ 32
  pub filled : AreFilled places sound most bs
  pub fits : length (flat_map places bs) < 2 ^ 64

-- the lowest level
abbrev pub leaf_places : {A : Type 0} → List A → List A
leaf_places leaf = leaf

abbrev pub IsLeaf : {A : Type 0} → List A → Type 0
IsLeaf leaf = length leaf ≤ 32

-- how many places a block has, of blocks that have so many, as far as a number of 64 bits counts
abbrev pub wide : ℕ → ℕ
wide most = min (32 * most) (2 ^ 64 - 1)

-- ---- the levels above each other

abbrev pub places_2 : {A : Type 0} → List (List A) → List A
places_2 = flat_map leaf_places

abbrev pub places_3 : {A : Type 0} → List (List (List A)) → List A
places_3 = flat_map places_2

abbrev pub places_4 : {A : Type 0} → List (List (List (List A))) → List A
places_4 = flat_map places_3

abbrev pub places_5 : {A : Type 0} → List (List (List (List (List A)))) → List A
places_5 = flat_map places_4

abbrev pub places_6 : {A : Type 0} → List (List (List (List (List (List A))))) → List A
places_6 = flat_map places_5

abbrev pub IsSound_2 : {A : Type 0} → List (List A) → Type 0
IsSound_2 = IsBranch leaf_places IsLeaf 32

abbrev pub IsSound_3 : {A : Type 0} → List (List (List A)) → Type 0
IsSound_3 = IsBranch places_2 IsSound_2 (wide 32)

abbrev pub IsSound_4 : {A : Type 0} → List (List (List (List A))) → Type 0
IsSound_4 = IsBranch places_3 IsSound_3 (wide (wide 32))

abbrev pub IsSound_5 : {A : Type 0} → List (List (List (List (List A)))) → Type 0
IsSound_5 = IsBranch places_4 IsSound_4 (wide (wide (wide 32)))

abbrev pub IsSound_6 : {A : Type 0} → List (List (List (List (List (List A))))) → Type 0
IsSound_6 = IsBranch places_5 IsSound_5 (wide (wide (wide (wide 32))))
