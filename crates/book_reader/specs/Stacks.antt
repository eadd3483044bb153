-- For proofs: what is left of several open books: of the one being read, then of each below it.
use Rattle.std.specs.Prelude.{ℕ, suc, List, [], ◌∷◌, map, Option}
use Rattle.theory_walk.specs.declared.needs.ModuleLimits.{ModuleLimits}
use Rattle.theory_walk.specs.Libraries.{BookStep, BookTail, Key, Library}
use Rattle.theory_walk.specs.Walks.{Walk, needs_in, passes, then_walk, walk_steps}

-- what is left of a book
pub record Rest : Type 0 where
  pub book : Key
  pub steps : List BookStep
  pub tail : BookTail

abbrev pub books_of : List Rest → List Key
books_of rests = map (λ (r : Rest). r.book) rests

module _ (most : ModuleLimits) (own : Option (List ℕ)) (lib : Library) where
  -- the rest of the book being read, then the rest of the one below, and so on
  abbrev pub walk_stack : ℕ → List Rest → List (List ℕ) → Walk
  walk_stack room [] known = passes known
  walk_stack room (r ∷ rs) known =
      then_walk (walk_steps (needs_in most own lib room (books_of rs) r.book) r.book r.steps r.tail known) (walk_stack (suc room) rs)
