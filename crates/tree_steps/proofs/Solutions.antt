-- An equation by its word, once its sides have taken their steps.
use Rattle.std.proofs.Common.{◌≡◌, refl, ap, List, [], ◌∷◌, ◌++◌, Option, Some, None}
use Rattle.std.specs.Prelude.{unwrap_or}
use Rattle.dk_model.specs.PlainTerms.{Tree}
use Rattle.dk_model.specs.PlainEntries.{PlainSignature}
use Rattle.dk_model.specs.Bindings.{Bindings, under}
use Rattle.dk_model.specs.TypingOver.{ended}
use Rattle.checked_steps.specs.Items.{ItemWord, ItemSteps, Item, reduction, joining, equation}
use Rattle.checked_steps.specs.Matching.{within}
use Rattle.checked_steps.specs.Taken.{Solved, and_then, steps_taken, word_taken, equation_taken}
use Rattle.checked_steps.specs.Checked.{with_rest, solving_on, solutions_taken}
use Rattle.tree_steps.specs.Equations.{both, sides_taken}
use Rattle.tree_steps.specs.Items.{next_equation}

both_then : (s : Bindings) (g : Tree → Tree → Option Solved) (o p : Option Tree)
    → and_then o (λ a. and_then p (λ b. g (under s a) (under s b))) ≡ and_then (both (within (under s) o) (within (under s) p)) (λ q. g q.0 q.1)
both_then s g None p = refl
both_then s g (Some a) None = refl
both_then s g (Some a) (Some b) = refl

pub equation_is : (S : PlainSignature) (w : ItemWord) (xs ys : ItemSteps) (s : Bindings) (t u : Tree)
    → equation_taken S w xs ys s t u ≡ and_then (sides_taken S xs ys s (t, u)) (λ q. word_taken S w s q.0 q.1)
equation_is S w xs ys s t u = both_then s (word_taken S w s) (steps_taken S xs (under s t)) (steps_taken S ys (under s u))

-- ---- one equation after the other

module _ (S : PlainSignature) (ps : List (Tree × Tree)) where
  goes : (items rest : List Item) (o : Option Solved) (r : Bindings) (qs : List (Tree × Tree)) → with_rest items o ≡ Some ((r, qs), rest)
      → solving_on o (λ b cs. solutions_taken S items b (cs ++ ps)) ≡ solutions_taken S rest r (qs ++ ps)
  goes items rest None r qs e = cc
  goes items rest (Some q) r qs e =
      ap (λ (x : Solved × List Item). solutions_taken S x.1 x.0.0 (x.0.1 ++ ps)) (ap (λ (o : Option (Solved × List Item)). unwrap_or o (q, items)) e)

  stops : (items : List Item) (o : Option Solved) → with_rest items o ≡ None → solving_on o (λ b cs. solutions_taken S items b (cs ++ ps)) ≡ ended
  stops items None e = refl
  stops items (Some q) e = cc

  pub solutions_go : (items rest : List Item) (s r : Bindings) (p : Tree × Tree) (qs : List (Tree × Tree)) → next_equation S items s p ≡ Some ((r, qs), rest)
      → solutions_taken S items s (p ∷ ps) ≡ solutions_taken S rest r (qs ++ ps)
  solutions_go [] rest s r p qs e = cc
  solutions_go (reduction xs ∷ items) rest s r p qs e = cc
  solutions_go (joining xs ys ∷ items) rest s r p qs e = cc
  solutions_go (equation w xs ys ∷ items) rest s r p qs e = goes items rest (equation_taken S w xs ys s p.0 p.1) r qs e

  pub solutions_stop : (items : List Item) (s : Bindings) (p : Tree × Tree) → next_equation S items s p ≡ None → solutions_taken S items s (p ∷ ps) ≡ ended
  solutions_stop [] s p e = refl
  solutions_stop (reduction xs ∷ items) s p e = refl
  solutions_stop (joining xs ys ∷ items) s p e = refl
  solutions_stop (equation w xs ys ∷ items) s p e = stops items (equation_taken S w xs ys s p.0 p.1) e
