-- For callers: what a call of a reducer gives, and what it leaves as it was.
use Rattle.std.specs.Prelude.{ℕ, ◌≡◌, List, [], ◌∷◌, Option, Some, None, Bool, Result, Ok, Err}
use Rattle.dk_model.specs.Trees.{Tree, star, kind, symbol, variable, rule_variable, apply, bare, annotated, product}
use Rattle.dk_model.specs.Units.{Units}
use Rattle.dk_model.specs.declared.node.NodeOf.{NodeOf}
use Rattle.dk_model.specs.declared.node.NodeOf.TheVariants.{Star, Kind, Sym, Var, Rvar, App, Abs, Prod}
use Rattle.dk_model.specs.declared.stop.Stop.{Stop}
use Rattle.dk_model.specs.declared.stop.Stop.TheVariants.{Ended, NoMemory}

-- what stood for a term of the reducer's stands for the same one
pub record Keeps {R T : Type 0} (owns : R → T → Type 0) (denotes : R → T → Tree) (old new : R) : Type 0 where
  pub own : (t : T) → owns old t → owns new t
  pub same : (t : T) → owns old t → denotes new t ≡ denotes old t

-- a term of the reducer's, with the units left; where they don't suffice none is left
abbrev pub Gives : {R T : Type 0} → (R → T → Type 0) → (R → T → Tree) → Units Tree → R → Result T Stop → ℕ → Type 0
Gives owns denotes due r (Ok t) left = (due ≡ Some (denotes r t, left)) × owns r t
Gives owns denotes due r (Err Ended) left = (due ≡ None) × (left ≡ 0)
Gives owns denotes due r (Err NoMemory) left = Unit {0}

-- yes or no, with the units left; where they don't suffice none is left
abbrev pub GivesAnswer : Units Bool → Result Bool Stop → ℕ → Type 0
GivesAnswer due (Ok b) left = due ≡ Some (b, left)
GivesAnswer due (Err Ended) left = (due ≡ None) × (left ≡ 0)
GivesAnswer due (Err NoMemory) left = Unit {0}

-- a term of the reducer's that stands for this one
abbrev pub Makes : {R T : Type 0} → (R → T → Type 0) → (R → T → Tree) → R → Tree → T → Type 0
Makes owns denotes r due t = (denotes r t ≡ due) × owns r t

-- the term whose outermost node this is
abbrev pub built : {R T : Type 0} → (R → T → Tree) → R → NodeOf T → Tree
built denotes r Star = star
built denotes r Kind = kind
built denotes r (Sym k) = symbol k
built denotes r (Var k) = variable k
built denotes r (Rvar k) = rule_variable k
built denotes r (App f a) = apply (denotes r f) (denotes r a)
built denotes r (Abs None b) = bare (denotes r b)
built denotes r (Abs (Some n) b) = annotated (denotes r n) (denotes r b)
built denotes r (Prod a b) = product (denotes r a) (denotes r b)

-- that the parts of a node are the reducer's
abbrev pub OwnsParts : {R T : Type 0} → (R → T → Type 0) → R → NodeOf T → Type 0
OwnsParts owns r Star = Unit {0}
OwnsParts owns r Kind = Unit {0}
OwnsParts owns r (Sym k) = Unit {0}
OwnsParts owns r (Var k) = Unit {0}
OwnsParts owns r (Rvar k) = Unit {0}
OwnsParts owns r (App f a) = owns r f × owns r a
OwnsParts owns r (Abs None b) = owns r b
OwnsParts owns r (Abs (Some n) b) = owns r n × owns r b
OwnsParts owns r (Prod a b) = owns r a × owns r b

-- that the values of a list are the reducer's
abbrev pub AreOwned : {R T : Type 0} → (R → T → Type 0) → R → List T → Type 0
AreOwned owns r [] = Unit {0}
AreOwned owns r (t ∷ ts) = owns r t × AreOwned owns r ts

-- that a value, where there is one, is the reducer's
abbrev pub OwnsSome : {R T : Type 0} → (R → T → Type 0) → R → Option T → Type 0
OwnsSome owns r None = Unit {0}
OwnsSome owns r (Some t) = owns r t

-- the same of each of a list
abbrev pub OwnsSomes : {R T : Type 0} → (R → T → Type 0) → R → List (Option T) → Type 0
OwnsSomes owns r [] = Unit {0}
OwnsSomes owns r (o ∷ os) = OwnsSome owns r o × OwnsSomes owns r os

-- the outermost node of this term
abbrev pub Shows : {R T : Type 0} → (R → T → Type 0) → (R → T → Tree) → R → Tree → NodeOf T → Type 0
Shows owns denotes r t n = (t ≡ built denotes r n) × OwnsParts owns r n
