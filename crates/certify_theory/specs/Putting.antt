-- For proofs: what was put through the buffer, where all commands are certified and where it stops.
use Rattle.std.specs.Prelude.{ℕ, ◌+◌, ◌≡◌, List, [], ◌∷◌, ◌++◌, length, Option}
use Rattle.dk_io.specs.Bytes.{AddsSome}
use Rattle.dk_io.specs.Gathered.{Moves}
use Rattle.dk_model.specs.PlainEntries.{PlainSignature}
use Rattle.dk_model.specs.PlainCommands.{PlainCommand}
use Rattle.dk_model.specs.Verdicts.{entry_of, inferred_type}
use Rattle.certificate_items.specs.Texts.{AreShort, lines_text}
use Rattle.checked_steps.specs.Items.{Item}
use Rattle.checked_steps.specs.Checked.{IsChecked}
use Rattle.checked_steps.specs.Certificates.{IsCertificate, type_by_items}
use Rattle.checked_steps.specs.Laws.{AreAccepted}
use Rattle.certify_theory.specs.Parts.{first_lines, AreFirstParts}
use Rattle.certify_theory.specs.declared.fault.CertifyFault.{CertifyFault}
use Rattle.certify_theory.specs.declared.fault.CertifyFault.TheVariants.{NotAccepted, Failed, NoMemory}

-- the command is checked by its items, and the signature goes on with its entry, which is the check's
pub record IsNext (budget : ℕ) (S : PlainSignature) (command : PlainCommand) (items : List Item) (next : PlainSignature) : Type 0 where
  pub checked : IsChecked S command items
  pub by_items : next ≡ S ++ (entry_of S command (type_by_items S command items) ∷ [])
  pub by_units : next ≡ S ++ (entry_of S command (inferred_type S command budget) ∷ [])

-- the first line and the parts of all commands
pub record PutAll (commands : List PlainCommand) (before : Option (List ℕ)) (waited : List ℕ) (after : Option (List ℕ)) (waits : List ℕ) : Type 0 where
  pub parts : List (List Item)
  pub certificate : IsCertificate commands parts
  pub short : AreShort (first_lines parts)
  pub moves : Moves before waited after waits (lines_text (first_lines parts))

-- those of the commands before the one of this number
pub record PutParts (commands : List PlainCommand) (number : ℕ) (before : Option (List ℕ)) (waited : List ℕ) (after : Option (List ℕ)) (waits : List ℕ) : Type 0 where
  pub parts : List (List Item)
  pub firsts : AreFirstParts commands parts
  pub count : number ≡ length parts + 1
  pub short : AreShort (first_lines parts)
  pub moves : Moves before waited after waits (lines_text (first_lines parts))

-- the sink took a front of what waited, of the first line and of the parts of some first commands
pub record PutFront (commands : List PlainCommand) (before : Option (List ℕ)) (waited : List ℕ) (after : Option (List ℕ)) : Type 0 where
  pub parts : List (List Item)
  pub firsts : AreFirstParts commands parts
  pub front : AddsSome before after (waited ++ lines_text (first_lines parts))

abbrev pub StopsBy : ℕ → List PlainCommand → Option (List ℕ) → List ℕ → Option (List ℕ) → List ℕ → CertifyFault → Type 0
StopsBy budget commands before waited after waits (NotAccepted number) = (¬ AreAccepted budget [] commands) × PutParts commands number before waited after waits
StopsBy budget commands before waited after waits (NoMemory number) = PutParts commands number before waited after waits
StopsBy budget commands before waited after waits Failed = PutFront commands before waited after
