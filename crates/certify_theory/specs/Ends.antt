-- For callers: how the writing of a certificate ends, and what the sink has taken then (docs/certificates.md).
use Rattle.std.specs.Prelude.{ℕ, ◌+◌, ◌≡◌, List, [], length, Option, Result, Ok, Err}
use Rattle.dk_io.specs.Bytes.{added, AddsSome}
use Rattle.dk_io.specs.Causes.{Rose}
use Rattle.dk_model.specs.PlainCommands.{PlainCommand}
use Rattle.certificate_items.specs.Texts.{AreShort, lines_text}
use Rattle.checked_steps.specs.Items.{Item}
use Rattle.checked_steps.specs.Certificates.{IsCertificate}
use Rattle.checked_steps.specs.Laws.{AreAccepted}
use Rattle.recheck_theory.specs.Laws.{certificate_lines}
use Rattle.certify_theory.specs.Parts.{first_lines, AreFirstParts}
use Rattle.certify_theory.specs.declared.fault.CertifyFault.{CertifyFault}
use Rattle.certify_theory.specs.declared.fault.CertifyFault.TheVariants.{NotAccepted, Failed, NoMemory}

-- just the text of a certificate of the commands was taken
pub record TakesCertificate (commands : List PlainCommand) (before after : Option (List ℕ)) : Type 0 where
  pub parts : List (List Item)
  pub certificate : IsCertificate commands parts
  pub short : AreShort (certificate_lines parts)
  pub taken : after ≡ added before (lines_text (certificate_lines parts))

-- just the first line was taken and the parts of all commands before the one of this number, counted from 1
pub record TakesParts (commands : List PlainCommand) (number : ℕ) (before after : Option (List ℕ)) : Type 0 where
  pub parts : List (List Item)
  pub firsts : AreFirstParts commands parts
  pub count : number ≡ length parts + 1
  pub short : AreShort (first_lines parts)
  pub taken : after ≡ added before (lines_text (first_lines parts))

-- a front was taken of the first line and of the parts of some first commands, or of the text of a certificate of all
pub data TakesFront (commands : List PlainCommand) (before after : Option (List ℕ)) : Type 0 where
  of_parts : (parts : List (List Item)) → AreFirstParts commands parts → AddsSome before after (lines_text (first_lines parts)) → TakesFront commands before after
  of_all : (parts : List (List Item)) → IsCertificate commands parts → AreShort (certificate_lines parts)
      → AddsSome before after (lines_text (certificate_lines parts)) → TakesFront commands before after

-- what a fault says: the commands aren't all accepted, one after the other, with so many units; or nothing of them
abbrev pub EndsBy : ℕ → List PlainCommand → Option (List ℕ) → Option (List ℕ) → CertifyFault → Type 0
EndsBy budget commands before after (NotAccepted number) = (¬ AreAccepted budget [] commands) × TakesParts commands number before after
EndsBy budget commands before after (NoMemory number) = TakesParts commands number before after
EndsBy budget commands before after Failed = TakesFront commands before after

-- the count of the sink's faults rose where it failed, and stands in any other case
abbrev pub RisesWhereFailed : ℕ → ℕ → Result (Unit {0}) CertifyFault → Type 0
RisesWhereFailed before now (Ok u) = now ≡ before
RisesWhereFailed before now (Err (NotAccepted number)) = now ≡ before
RisesWhereFailed before now (Err (NoMemory number)) = now ≡ before
RisesWhereFailed before now (Err Failed) = Rose before now
