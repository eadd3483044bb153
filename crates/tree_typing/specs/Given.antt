-- For callers: what an evaluation and a typing give where this is due, and what is left then. Want of memory says nothing.
use Rattle.std.specs.Prelude.{◌≡◌, Option, Some, None, Result, Ok, Err, map}
use Rattle.dk_model.specs.PlainTerms.{Tree}
use Rattle.dk_model.specs.Bindings as plain
use Rattle.dk_model.specs.Signatures.{maybe_tree}
use Rattle.dk_model.specs.Trees.{tree}
use Rattle.dk_model.specs.TypingOver.{JudgedIn, answer, refused, ended}
use Rattle.dk_model.specs.declared.stop.Stop.{Stop}
use Rattle.dk_model.specs.declared.stop.Stop.TheVariants.{Ended as Over, NoMemory as NoRoom}
use Rattle.dk_model.specs.declared.stop.TypeFault.{TypeFault}
use Rattle.dk_model.specs.declared.stop.TypeFault.TheVariants.{Refused, Ended, NoMemory}
use Rattle.tree_typing.specs.declared.bindings.Bindings.{Bindings}
use Rattle.tree_typing.specs.declared.product.Product.{Product}

-- what an evaluation gives, as the view shows it
abbrev pub Gives : {X A B : Type 0} → (A → B) → Option (B × X) → Result A Stop → X → Type 0
Gives view due (Ok a) left = due ≡ Some (view a, left)
Gives view due (Err Over) left = due ≡ None
Gives view due (Err NoRoom) left = Unit {0}

-- the fault of a typing
abbrev pub Fails : {X B : Type 0} → TypeFault → JudgedIn X B → X → Type 0
Fails (Refused code) due left = due ≡ refused code left
Fails Ended due left = due ≡ ended
Fails NoMemory due left = Unit {0}

-- what a typing gives, as the view shows it
abbrev pub Judges : {X A B : Type 0} → (A → B) → JudgedIn X B → Result A TypeFault → X → Type 0
Judges view due (Ok a) left = due ≡ answer (view a) left
Judges view due (Err fault) left = Fails fault due left

-- the domain and the codomain of a product
abbrev pub parts : Product → Tree × Tree
parts p = (tree p.domain, tree p.codomain)

-- what rule variables are bound to
abbrev pub bindings : Bindings → plain.Bindings
bindings b = map maybe_tree b.terms
