-- For callers: the items that are left, and what they give.
use Rattle.std.specs.Prelude.{Option, Some, None, Bool, true, if◌then◌else◌, List, ◌∷◌}
use Rattle.dk_model.specs.PlainTerms.{Tree}
use Rattle.dk_model.specs.PlainEntries.{PlainSignature}
use Rattle.dk_model.specs.Bindings.{Bindings}
use Rattle.dk_model.specs.TypingOver.{JudgedIn, answer, ended}
use Rattle.checked_steps.specs.Items.{Item, equation}
use Rattle.checked_steps.specs.Taken.{Solved, equation_taken}
use Rattle.checked_steps.specs.Checked.{with_rest}
use Rattle.certificate_items.specs.Views.{plain_items}
use Rattle.tree_steps.specs.declared.items.ItemsLeft.{ItemsLeft}

abbrev pub left_of : ItemsLeft → List Item
left_of left = plain_items left.items.now

-- the items that are left where an item has joined two terms
abbrev pub if_joined : List Item → Bool → Option (Bool × List Item)
if_joined items joined = if joined then Some (true, items) else None

-- and where items have solved an equation
abbrev pub if_solved : List Item → Option Bindings → JudgedIn (List Item) Bindings
if_solved items None = ended
if_solved items (Some s) = answer s items

-- an equation as the next item solves it, with the items that are left
abbrev pub next_equation : PlainSignature → List Item → Bindings → Tree × Tree → Option (Solved × List Item)
next_equation S (equation w xs ys ∷ items) s p = with_rest items (equation_taken S w xs ys s p.0 p.1)
next_equation S items s p = None
