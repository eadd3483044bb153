-- Trusted: what a recheck answers, of the commands of a theory and the bytes of a certificate (docs/certificates.md).
use Rattle.std.specs.Prelude.{ℕ, ◌+◌, ◌≢◌, List, [], ◌∷◌, ◌++◌}
use Rattle.dk_model.specs.PlainEntries.{PlainSignature}
use Rattle.dk_model.specs.PlainCommands.{PlainCommand}
use Rattle.dk_model.specs.Verdicts.{entry_of}
use Rattle.certificate_lines.specs.declared.line.Line.TheVariants.{First, Part, Last}
use Rattle.certificate_items.specs.Texts.{BeginsWith, HasFront, lines_text}
use Rattle.checked_steps.specs.Items.{Item}
use Rattle.checked_steps.specs.Checked.{IsChecked}
use Rattle.checked_steps.specs.Certificates.{type_by_items}

-- so many commands are rechecked; or the part of the command of this number isn't as it must be: 0 is the first line, and one
-- more than there are commands is the end
pub data Answer : Type 0 where
  rechecked : ℕ → Answer
  rejected : ℕ → Answer

-- the part of a command stands at the front of the bytes: its line, and behind it items that are a checked derivation of it; none
-- is left over
pub record IsPart (S : PlainSignature) (number : ℕ) (command : PlainCommand) (items : List Item) (bytes behind : List ℕ) : Type 0 where
  pub begun : List ℕ
  pub line : BeginsWith (Part number ∷ []) bytes begun
  pub front : HasFront begun items behind
  pub checked : IsChecked S command items

-- what is answered behind the parts of so many commands
pub data AnswersBehind : PlainSignature → ℕ → List PlainCommand → List ℕ → Answer → Type 0 where
  of_the_end : {S : PlainSignature} {done : ℕ} → AnswersBehind S done [] (lines_text (Last ∷ [])) (rechecked done)
  of_no_end : {S : PlainSignature} {done : ℕ} {bytes : List ℕ} → bytes ≢ lines_text (Last ∷ []) → AnswersBehind S done [] bytes (rejected (done + 1))
  of_a_part : {S : PlainSignature} {done : ℕ} {command : PlainCommand} {commands : List PlainCommand} {items : List Item} {bytes behind : List ℕ} {answer : Answer}
      → IsPart S (done + 1) command items bytes behind → AnswersBehind (S ++ (entry_of S command (type_by_items S command items) ∷ [])) (done + 1) commands behind answer
      → AnswersBehind S done (command ∷ commands) bytes answer
  of_no_part : {S : PlainSignature} {done : ℕ} {command : PlainCommand} {commands : List PlainCommand} {bytes : List ℕ}
      → ((items : List Item) (behind : List ℕ) → ¬ IsPart S (done + 1) command items bytes behind) → AnswersBehind S done (command ∷ commands) bytes (rejected (done + 1))

-- what is answered of a certificate
pub data Answers : List PlainCommand → List ℕ → Answer → Type 0 where
  of_the_first_line : {commands : List PlainCommand} {bytes behind : List ℕ} {answer : Answer}
      → BeginsWith (First ∷ []) bytes behind → AnswersBehind [] 0 commands behind answer → Answers commands bytes answer
  of_no_first_line : {commands : List PlainCommand} {bytes : List ℕ} → ((behind : List ℕ) → ¬ BeginsWith (First ∷ []) bytes behind) → Answers commands bytes (rejected 0)
