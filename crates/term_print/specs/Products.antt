-- For proofs: which products are written with a name, as one pass over a term finds it.
use Rattle.std.specs.Prelude.{ℕ, ◌+◌, ◌*◌, Bool, false, ◌||◌, List, [], ◌∷◌, ◌++◌, length}
use Rattle.dk_model.specs.PlainTerms.{Tree, apply, bare, annotated, product}
use Rattle.term_print.specs.Named.{mentions}
use Rattle.term_print.specs.declared.products.Step.{Step}
use Rattle.term_print.specs.declared.products.Step.TheVariants as step
use Rattle.term_print.specs.declared.products.Survey.{Survey}

-- how many nodes
abbrev pub size : Tree → ℕ
size (apply f a) = size f + size a + 1
size (bare b) = size b + 1
size (annotated d b) = size d + size b + 1
size (product a b) = size a + size b + 1
size t = 1

-- for each product, the last one printed first, whether its codomain mentions its variable
abbrev pub named_last : Tree → List Bool
named_last (apply f a) = named_last a ++ named_last f
named_last (bare b) = named_last b
named_last (annotated d b) = named_last b ++ named_last d
named_last (product a b) = named_last b ++ (named_last a ++ mentions 0 b ∷ [])
named_last t = []

-- for each binder around a term, the outermost first, whether it was mentioned before or the term mentions it
abbrev pub mentioned : Tree → List Bool → List Bool
mentioned t [] = []
mentioned t (s ∷ ss) = (mentions (length ss) t || s) ∷ mentioned t ss

-- the last one, and those before it
abbrev pub last_one : List Bool → Bool
last_one [] = false
last_one (s ∷ []) = s
last_one (s ∷ t ∷ ss) = last_one (t ∷ ss)

abbrev pub front : List Bool → List Bool
front [] = []
front (s ∷ []) = []
front (s ∷ t ∷ ss) = s ∷ front (t ∷ ss)

-- what has been found: the binders around, and the products so far
pub record Found : Type 0 where
  pub around : List Bool
  pub named : List Bool

module _ (denotes : ℕ → Tree) where
  -- what has been found after this step
  abbrev pub after : Step → Found → Found
  after (step.Term t) f = record { around = mentioned (denotes t) f.around; named = f.named ++ named_last (denotes t) }
  after step.Leave f = record { around = front f.around; named = f.named }
  after (step.Domain a) f = record { around = mentioned (denotes a) (front f.around); named = f.named ++ (named_last (denotes a) ++ last_one f.around ∷ []) }
  after (step.Product b) f = record { around = f.around; named = f.named ++ b ∷ [] }

  -- after all of them, of which the last comes first
  abbrev pub after_all : List Step → Found → Found
  after_all [] f = f
  after_all (s ∷ ss) f = after s (after_all ss f)

  abbrev pub step_weight : Step → ℕ
  step_weight (step.Term t) = 4 * size (denotes t)
  step_weight step.Leave = 1
  step_weight (step.Domain a) = 4 * size (denotes a) + 2
  step_weight (step.Product b) = 1

  abbrev pub step_weights : List Step → ℕ
  step_weights [] = 0
  step_weights (s ∷ ss) = step_weight s + step_weights ss

abbrev pub found : Survey → Found
found s = record { around = s.around.items; named = s.named.items }
