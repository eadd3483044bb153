-- Trusted: certificates of the commands of a theory, one part for each (docs/certificates.md).
use Rattle.std.specs.Prelude.{Option, Some, None, List, [], ◌∷◌, ◌++◌}
use Rattle.dk_model.specs.PlainTerms.{Tree}
use Rattle.dk_model.specs.PlainEntries.{PlainSignature}
use Rattle.dk_model.specs.PlainCommands.{PlainCommand, declare, rule_command, query}
use Rattle.dk_model.specs.CommandTypingOver.{body_type}
use Rattle.dk_model.specs.Verdicts.{answer_of, entry_of}
use Rattle.checked_steps.specs.Items.{Item}
use Rattle.checked_steps.specs.Checked.{by_items, IsChecked}

-- the type that the items give to a definition without a declared one
abbrev pub type_by_items : PlainSignature → PlainCommand → List Item → Option Tree
type_by_items S (declare s None (Some b)) items = answer_of (body_type (by_items S) S b items)
type_by_items S (declare s None None) items = None
type_by_items S (declare s (Some A) b) items = None
type_by_items S (rule_command rs) items = None
type_by_items S (query demand a) items = None

-- commands one after the other over the entries of those before them, each checked by its part
pub data AreChecked : PlainSignature → List PlainCommand → List (List Item) → Type 0 where
  none_checked : {S : PlainSignature} → AreChecked S [] []
  one_checked : {S : PlainSignature} {command : PlainCommand} {items : List Item} {commands : List PlainCommand} {parts : List (List Item)}
      → IsChecked S command items → AreChecked (S ++ (entry_of S command (type_by_items S command items) ∷ [])) commands parts → AreChecked S (command ∷ commands) (items ∷ parts)

-- a certificate of the commands of a theory
abbrev pub IsCertificate : List PlainCommand → List (List Item) → Type 0
IsCertificate commands parts = AreChecked [] commands parts
