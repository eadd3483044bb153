-- Trusted: the bytes of one part of a certificate, and its command (docs/certificates.md).
use Rattle.std.specs.Prelude.{ℕ, ◌≡◌, Option, List, [], ◌∷◌, ◌++◌}
use Rattle.dk_model.specs.PlainTerms.{Tree}
use Rattle.dk_model.specs.PlainEntries.{PlainSignature}
use Rattle.dk_model.specs.PlainCommands.{PlainCommand}
use Rattle.dk_model.specs.Verdicts.{entry_of}
use Rattle.checked_steps.specs.Items.{Item}
use Rattle.checked_steps.specs.Checked.{IsChecked}
use Rattle.checked_steps.specs.Certificates.{type_by_items}
use Rattle.certificate_items.specs.Texts.{IsTextOf}

-- the bytes are the text of items that are a checked derivation of the command over these entries, and give it this type
pub record IsPart (S : PlainSignature) (command : PlainCommand) (bytes : List ℕ) (typ : Option Tree) : Type 0 where
  pub items : List Item
  pub text : IsTextOf bytes items
  pub checked : IsChecked S command items
  pub given : typ ≡ type_by_items S command items

-- no items with this text are a checked derivation of the command
abbrev pub IsNoPart : PlainSignature → PlainCommand → List ℕ → Type 0
IsNoPart S command bytes = (items : List Item) → IsTextOf bytes items → ¬ IsChecked S command items

-- commands one after the other over the entries of those before them, each with the bytes of its part, which give the type of
-- its entry where it is a definition without a declared one
pub data HaveParts : PlainSignature → List PlainCommand → List (List ℕ) → Type 0 where
  no_parts : {S : PlainSignature} → HaveParts S [] []
  more_parts : {S : PlainSignature} {command : PlainCommand} {bytes : List ℕ} {commands : List PlainCommand} {parts : List (List ℕ)} (typ : Option Tree)
      → IsPart S command bytes typ → HaveParts (S ++ (entry_of S command typ ∷ [])) commands parts → HaveParts S (command ∷ commands) (bytes ∷ parts)
