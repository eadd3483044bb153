-- Trusted: a checked derivation of a command: typing, where each evaluation that it asks for has an item in its place
-- (docs/certificates.md).
use Rattle.std.specs.Prelude.{◌≡◌, Option, Some, None, Bool, true, if◌then◌else◌, List, [], ◌∷◌, ◌++◌}
use Rattle.dk_model.specs.PlainTerms.{Tree}
use Rattle.dk_model.specs.PlainEntries.{PlainSignature}
use Rattle.dk_model.specs.PlainCommands.{PlainCommand, declare, rule_command, query}
use Rattle.dk_model.specs.Bindings.{Bindings}
use Rattle.dk_model.specs.TypingOver.{Evaluator, JudgedIn, answer, ended}
use Rattle.dk_model.specs.CommandTypingOver.{command_checked}
use Rattle.checked_steps.specs.Items.{Item, reduction, joining, equation}
use Rattle.checked_steps.specs.Taken.{Solved, both_same, steps_taken, equation_taken}

abbrev pub with_rest : {A : Type 0} → List Item → Option A → Option (A × List Item)
with_rest items None = None
with_rest items (Some a) = Some (a, items)

-- solving goes on where an equation is solved
abbrev pub solving_on : Option Solved → (Bindings → List (Tree × Tree) → JudgedIn (List Item) Bindings) → JudgedIn (List Item) Bindings
solving_on None g = ended
solving_on (Some p) g = g p.0 p.1

module _ (S : PlainSignature) where
  -- the form to which the next item reduces the term
  abbrev pub next_reduction : List Item → Tree → Option (Tree × List Item)
  next_reduction (reduction xs ∷ items) t = with_rest items (steps_taken S xs t)
  next_reduction items t = None

  -- yes where the next item joins the terms; an item never says no
  abbrev pub next_joining : List Item → Tree → Tree → Option (Bool × List Item)
  next_joining (joining xs ys ∷ items) t u = if both_same (steps_taken S xs t) (steps_taken S ys u) then Some (true, items) else None
  next_joining items t u = None

  -- the bindings once these equations are solved, in order, each by the next item; the parts of one stand in its place
  abbrev pub solutions_taken : List Item → Bindings → List (Tree × Tree) → JudgedIn (List Item) Bindings
  solutions_taken items s [] = answer s items
  solutions_taken (equation w xs ys ∷ items) s (p ∷ ps) = solving_on (equation_taken S w xs ys s p.0 p.1) (λ r qs. solutions_taken items r (qs ++ ps))
  solutions_taken items s (p ∷ ps) = ended

  abbrev pub next_solution : List Item → Bindings → Tree → Tree → JudgedIn (List Item) Bindings
  next_solution items s t u = solutions_taken items s ((t, u) ∷ [])

-- each evaluation takes the next item off the list, which must do its work; what is spent is items
abbrev pub by_items : PlainSignature → Evaluator (List Item)
by_items S = record { whnf = next_reduction S; same = next_joining S; normal = next_reduction S; solve = next_solution S }

-- the check of a command over the items; a query asks for none
abbrev pub checked_by_items : PlainSignature → PlainCommand → List Item → JudgedIn (List Item) (Unit {0})
checked_by_items S (declare s A b) items = command_checked (by_items S) S (declare s A b) items
checked_by_items S (rule_command rs) items = command_checked (by_items S) S (rule_command rs) items
checked_by_items S (query demand asked) items = answer tt items

-- the items are a checked derivation of the command over the signature: none is missing, and none is left over
abbrev pub IsChecked : PlainSignature → PlainCommand → List Item → Type 0
IsChecked S command items = checked_by_items S command items ≡ answer tt []
