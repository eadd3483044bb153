-- For proofs: what is said of one line and of one part at the front of bytes.
use Rattle.std.specs.Prelude.{ℕ, ◌≡◌, Option, Ok, List, [], ◌∷◌}
use Rattle.dk_model.specs.PlainTerms.{Tree}
use Rattle.dk_model.specs.PlainEntries.{PlainRule, PlainSignature}
use Rattle.dk_model.specs.PlainCommands.{PlainCommand, declare, rule_command, query}
use Rattle.dk_model.specs.Shapes.{shapes_of}
use Rattle.certificate_lines.specs.declared.line.Line.{Line}
use Rattle.certificate_items.specs.Texts.{BeginsWith}
use Rattle.checked_steps.specs.Items.{Item}
use Rattle.checked_steps.specs.Certificates.{type_by_items}
use Rattle.recheck_theory.specs.Answers.{IsPart}

-- the bytes don't begin with this line
abbrev pub BeginsWithout : Line → List ℕ → Type 0
BeginsWithout line bytes = (rest : List ℕ) → ¬ BeginsWith (line ∷ []) bytes rest

-- a part stands at the front of the bytes, whose items give this type
pub record HasPart (S : PlainSignature) (number : ℕ) (command : PlainCommand) (bytes : List ℕ) (typ : Option Tree) (behind : List ℕ) : Type 0 where
  pub items : List Item
  pub part : IsPart S number command items bytes behind
  pub given : typ ≡ type_by_items S command items

-- no part stands there
abbrev pub HasNoPart : PlainSignature → ℕ → PlainCommand → List ℕ → Type 0
HasNoPart S number command bytes = (items : List Item) (behind : List ℕ) → ¬ IsPart S number command items bytes behind

-- rules have their shapes, so that they have an entry
abbrev pub HasShapes : PlainSignature → PlainCommand → Type 0
HasShapes S (declare s A b) = Unit {0}
HasShapes S (rule_command rs) = (shapes : List PlainRule) × (shapes_of S rs ≡ Ok shapes)
HasShapes S (query demand a) = Unit {0}
