-- For proofs: lists whose last element is on top.
use Rattle.std.specs.Prelude.{List, [], ◌∷◌}

-- these things on others, the last one on top
abbrev pub stacked_on : {A B : Type 0} → (A → B) → List B → List A → List B
stacked_on view ys [] = ys
stacked_on view ys (x ∷ xs) = stacked_on view (view x ∷ ys) xs

-- the last one first
abbrev pub innermost_first : {A : Type 0} → List A → List A
innermost_first xs = stacked_on (λ x. x) [] xs
