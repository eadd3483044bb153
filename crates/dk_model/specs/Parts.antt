-- Trusted: the comparison and the normal form of a term's parts, from left to right (docs/evaluation.md).
use Rattle.std.specs.Prelude.{ℕ, Some, Bool, true, false, List, [], ◌∷◌, if◌then◌else◌}
use Rattle.dk_model.specs.PlainTerms.{Tree, apply, bare, annotated, product}
use Rattle.dk_model.specs.Units.{Units, bind}

-- the comparison `C` of pairs of parts, up to the first no
abbrev pub each_same : (ℕ → Tree → Tree → Units Bool) → List (Tree × Tree) → ℕ → Units Bool
each_same C [] n = Some (true, n)
each_same C (pair ∷ pairs) n = bind (C n pair.0 pair.1) (λ alike n1. if alike then each_same C pairs n1 else Some (false, n1))

-- a term with the normal form `N` of each of its parts
abbrev pub each_normal : (ℕ → Tree → Units Tree) → Tree → ℕ → Units Tree
each_normal N (apply f a) n = bind (each_normal N f n) (λ f' n1. bind (N n1 a) (λ a' n2. Some (apply f' a', n2)))
each_normal N (bare b) n = bind (N n b) (λ b' n1. Some (bare b', n1))
each_normal N (annotated a b) n = bind (N n a) (λ a' n1. bind (N n1 b) (λ b' n2. Some (annotated a' b', n2)))
each_normal N (product a b) n = bind (N n a) (λ a' n1. bind (N n1 b) (λ b' n2. Some (product a' b', n2)))
each_normal N t n = Some (t, n)
