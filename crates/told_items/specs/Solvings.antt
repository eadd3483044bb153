-- For proofs: the equations that are left: what they give with units, and by items.
use Rattle.std.specs.Prelude.{ℕ, ◌≡◌, Result, Ok, Err, List, ◌++◌, map}
use Rattle.dk_model.specs.PlainTerms.{Tree}
use Rattle.dk_model.specs.PlainEntries.{PlainSignature}
use Rattle.dk_model.specs.Bindings.{Bindings}
use Rattle.dk_model.specs.Solving.{each_solved, solved}
use Rattle.dk_model.specs.TypingOver.{JudgedIn}
use Rattle.dk_model.specs.declared.stop.TypeFault.{TypeFault}
use Rattle.checked_steps.specs.Items.{Item}
use Rattle.checked_steps.specs.Checked.{solutions_taken}
use Rattle.tree_steps.specs.Views.{pair, bindings as plain}
use Rattle.tree_typing.specs.Given.{Fails}
use Rattle.told_items.specs.declared.equations.Solving.{Solving}

-- what is due with these units
abbrev pub given : PlainSignature → Solving → ℕ → JudgedIn ℕ Bindings
given S v n = each_solved (solved S) (map pair v.left) (plain v.bindings) n

-- the equations that are left give what is due, or this is a fault
abbrev pub GoesOn : PlainSignature → JudgedIn ℕ Bindings → Result Solving TypeFault → ℕ → Type 0
GoesOn S due (Ok v) n = due ≡ given S v n
GoesOn S due (Err f) n = Fails f due n

-- behind these items it is the equations that are left
abbrev pub AreLeft : PlainSignature → (List Item → JudgedIn (List Item) Bindings) → List Item → List (Tree × Tree) → Bindings → Type 0
AreLeft S due items ps s = (rest : List Item) → due (items ++ rest) ≡ solutions_taken S rest s ps
