-- A binding put at the place of its rule variable.
use Rattle.std.proofs.Common.{List, [], ◌∷◌, ◌++◌, ◌≡◌, ◌≤◌, ◌<◌, ℕ, zero, suc, Option, Some, None, length, map, ap, refl, arith}
use Rattle.std.specs.Prelude.{slice_set}
use Rattle.dk_model.specs.Trees.{Tree, tree}
use Rattle.dk_model.specs.Signatures.{maybe_tree}
use Rattle.dk_model.specs.Bindings.{with_binding}
use Rattle.dk_model.specs.declared.term.Term.{Term}

pub with_padded : (os : List (Option Term)) (k : ℕ) (u : Tree) → length os ≤ k → with_binding (map maybe_tree (os ++ None ∷ [])) k u ≡ with_binding (map maybe_tree os) k u
with_padded [] zero u l = refl
with_padded [] (suc k) u l = refl
with_padded (o ∷ os) zero u l = absurd (omega arith)
with_padded (o ∷ os) (suc k) u l = ap (λ (xs : List (Option Tree)). maybe_tree o ∷ xs) (with_padded os k u (omega arith))

pub with_set : (os : List (Option Term)) (k : ℕ) (t : Term) → k < length os → map maybe_tree (slice_set os k (Some t)) ≡ with_binding (map maybe_tree os) k (tree t)
with_set [] k t l = absurd (omega arith)
with_set (o ∷ os) zero t l = refl
with_set (o ∷ os) (suc k) t l = ap (λ (xs : List (Option Tree)). maybe_tree o ∷ xs) (with_set os k t (omega arith))
