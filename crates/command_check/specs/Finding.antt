-- For proofs: what the check of a query answers, beside what is due.
use Rattle.std.specs.Prelude.{ℕ, ◌≡◌, Bool, true, false, Result, Ok, Err}
use Rattle.dk_model.specs.Trees.{Tree}
use Rattle.dk_model.specs.Scoping.{PlainAsked, typed, alike, type_of, value_of, PlainFound, yes, no, of_type, value}
use Rattle.dk_model.specs.Typing.{Judged, answer}
use Rattle.dk_model.specs.declared.stop.TypeFault.{TypeFault}
use Rattle.infer_check.specs.Given.{Fails}
use Rattle.command_check.specs.declared.found.FoundOf.{FoundOf}
use Rattle.command_check.specs.declared.found.FoundOf.TheVariants.{Yes, No, Of, Value}

-- whether a refusal is the answer no
abbrev pub says_no : Bool → PlainAsked → Bool
says_no true a = false
says_no false (typed t A) = true
says_no false (alike t u) = true
says_no false (type_of t) = false
says_no false (value_of t) = false

-- what was found, as plain data
abbrev pub found_in : {R T : Type 0} → (R → T → Tree) → R → FoundOf T → PlainFound
found_in denotes r Yes = yes
found_in denotes r No = no
found_in denotes r (Of t) = of_type (denotes r t)
found_in denotes r (Value t) = value (denotes r t)

-- its term is the reducer's
abbrev pub OwnsFound : {R T : Type 0} → (R → T → Type 0) → R → FoundOf T → Type 0
OwnsFound owns r Yes = Unit {0}
OwnsFound owns r No = Unit {0}
OwnsFound owns r (Of t) = owns r t
OwnsFound owns r (Value t) = owns r t

-- what was found, with the units left
abbrev pub GivesFound : {R T : Type 0} → (R → T → Type 0) → (R → T → Tree) → Judged PlainFound → R → Result (FoundOf T) TypeFault → ℕ → Type 0
GivesFound owns denotes due r (Ok found) left = (due ≡ answer (found_in denotes r found) left) × OwnsFound owns r found
GivesFound owns denotes due r (Err fault) left = Fails fault left due
