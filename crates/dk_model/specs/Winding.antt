-- For callers: a term as a head beside a stack of its arguments, of which the first one lies on top; the size of a term.
use Rattle.std.specs.Prelude.{ℕ, ◌+◌, Bool, true, false, List, [], ◌∷◌, map}
use Rattle.std.specs.Borrow.{Bor}
use Rattle.dk_model.specs.Trees.{Tree, apply, bare, annotated, product, tree}
use Rattle.dk_model.specs.declared.term.Term.{Term}

-- the head applied to the arguments of a stack, whose last item is the first argument
abbrev pub wound : Tree → List Tree → Tree
wound t [] = t
wound t (x ∷ xs) = apply (wound t xs) x

abbrev pub is_application : Tree → Bool
is_application (apply f a) = true
is_application t = false

-- how many nodes a term has
abbrev pub size : Tree → ℕ
size (apply f a) = size f + size a + 1
size (bare b) = size b + 1
size (annotated d b) = size d + size b + 1
size (product d b) = size d + size b + 1
size t = 1

abbrev pub total_size : List Tree → ℕ
total_size [] = 0
total_size (x ∷ xs) = size x + total_size xs

-- the trees behind references
abbrev pub behind_references : List (Bor Term) → List Tree
behind_references ts = map (λ t. tree t.now) ts
