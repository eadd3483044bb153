-- For proofs: the spellings of a term's symbols, as one pass over the term finds them.
use Rattle.std.specs.Prelude.{◌≡◌, ℕ, ◌+◌, Bool, false, ◌||◌, List, [], ◌∷◌}
use Rattle.dk_model.specs.PlainTerms.{Tree}
use Rattle.scope_terms.specs.Scopes.{Spelling}
use Rattle.term_print.specs.Named.{Word, has, spellings}
use Rattle.term_print.specs.Products.{size}

-- a spelling is one of these exactly where it is one of those
abbrev pub SameSpellings : List Spelling → List Spelling → Type 0
SameSpellings xs ys = (x : Spelling) → has xs x ≡ has ys x

module _ (denotes : ℕ → Tree) (words : ℕ → Word) where
  -- a symbol of one of these terms is so spelt
  abbrev pub some_spelt : List ℕ → Spelling → Bool
  some_spelt [] x = false
  some_spelt (t ∷ ts) x = has (spellings words (denotes t)) x || some_spelt ts x

  -- a term is gone through: what was found, with the terms that were left before and then
  abbrev pub Finds : List Spelling → ℕ → List ℕ → List Spelling → List ℕ → Type 0
  Finds found t left found_then left_then = (x : Spelling)
      → (has found x || (has (spellings words (denotes t)) x || some_spelt left x)) ≡ (has found_then x || some_spelt left_then x)

abbrev pub sizes : (ℕ → Tree) → List ℕ → ℕ
sizes denotes [] = 0
sizes denotes (t ∷ ts) = size (denotes t) + sizes denotes ts
