-- For callers: what a step of typing answers, beside what is due.
use Rattle.std.specs.Prelude.{ℕ, ◌≡◌, Result, Ok, Err}
use Rattle.dk_model.specs.Trees.{Tree}
use Rattle.dk_model.specs.Typing.{Judged, answer, refused, ended}
use Rattle.dk_model.specs.declared.stop.TypeFault.{TypeFault}
use Rattle.dk_model.specs.declared.stop.TypeFault.TheVariants.{Refused, Ended, NoMemory}
use Rattle.infer_check.specs.declared.product.Product.{Product}

-- the fault of a typing with the units left; where they do not suffice none is left
abbrev pub Fails : {A : Type 0} → TypeFault → ℕ → Judged A → Type 0
Fails (Refused c) left due = due ≡ refused c left
Fails Ended left due = (due ≡ ended) × (left ≡ 0)
Fails NoMemory left due = Unit {0}

-- a type of the reducer's, with the units left
abbrev pub GivesType : {R T : Type 0} → (R → T → Type 0) → (R → T → Tree) → Judged Tree → R → Result T TypeFault → ℕ → Type 0
GivesType owns denotes due r (Ok t) left = (due ≡ answer (denotes r t) left) × owns r t
GivesType owns denotes due r (Err fault) left = Fails fault left due

-- the two parts of a product, with the units left
abbrev pub GivesProduct : {R T : Type 0} → (R → T → Type 0) → (R → T → Tree) → Judged (Tree × Tree) → R → Result (Product T) TypeFault → ℕ → Type 0
GivesProduct owns denotes due r (Ok p) left = (due ≡ answer (denotes r p.domain, denotes r p.codomain) left) × owns r p.domain × owns r p.codomain
GivesProduct owns denotes due r (Err fault) left = Fails fault left due

-- that a test is met, with the units left
abbrev pub GivesFit : Judged (Unit {0}) → Result Unit TypeFault → ℕ → Type 0
GivesFit due (Ok u) left = due ≡ answer tt left
GivesFit due (Err fault) left = Fails fault left due
