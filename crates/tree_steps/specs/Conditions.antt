-- For proofs: the condition that one part leaves.
use Rattle.std.specs.Prelude.{ℕ, Option, List, [], ◌∷◌}
use Rattle.dk_model.specs.PlainTerms.{Tree}
use Rattle.dk_model.specs.Substitution.{shift}
use Rattle.typing_model.specs.Steps.{Part, variable_part, guard_part, capture, instantiated, later_occurrence}

-- of a part behind these, where its rule variable has stood before
abbrev pub later : List Part → Part → List (Tree × Tree)
later before (variable_part k t) = later_occurrence (capture before k) t
later before (guard_part depth g t) = []

-- of a guard
abbrev pub guard : (ℕ → Option Tree) → Part → List (Tree × Tree)
guard s (variable_part k t) = []
guard s (guard_part depth g t) = (t, shift 0 depth (instantiated s 0 g)) ∷ []
