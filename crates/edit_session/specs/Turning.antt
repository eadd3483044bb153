-- For proofs: one turn of the fold of a session.
use Rattle.std.specs.Prelude.{ℕ, ◌≡◌, ◌+◌, Some, List, [], ◌∷◌, ◌++◌, slice_get, slice_set}
use Rattle.std.specs.Option.{option_map}
use Rattle.dk_model.specs.PlainCommands.{PlainCommand}
use Rattle.dk_model.specs.Scoping.{plain_command}
use Rattle.dk_model.specs.Signatures.{maybe_by}
use Rattle.dk_model.specs.Verdicts.{entry_of, inferred_type}
use Rattle.dk_model.specs.declared.signature.Entry.{Entry}
use Rattle.dk_parser.specs.RawViews.{written_form}
use Rattle.board_core.specs.Places.{in_file}
use Rattle.scope_terms.specs.Names.{reading}
use Rattle.shared_term.specs.Finding.{plain_found}
use Rattle.shared_term.specs.Storage.{stored_term}
use Rattle.shared_term.specs.declared.stored.Stored.{Stored}
use Rattle.signature_log.specs.Versions.{entries_of, stored_entry}
use Rattle.verdict_book.specs.declared.shown.Shown.{Shown}
use Rattle.edit_session.specs.Answering.{AnswersRightly, Question, kept_of, list_of}
use Rattle.edit_session.specs.Folding.{IsQuiet}
use Rattle.edit_session.specs.Grounds.{IsGround, texts_in}
use Rattle.edit_session.specs.Resting.{IsResting, RestOn, behind}
use Rattle.edit_session.specs.Sessions.{checks_for}
use Rattle.edit_session.specs.Shaping.{IsEntryFor}
use Rattle.edit_session.specs.Shown.{shown_with, words_in}
use Rattle.edit_session.specs.declared.answering.Answered.{Answered}
use Rattle.edit_session.specs.declared.finding.Findings.{Findings}
use Rattle.edit_session.specs.declared.fold.Fold.{Fold}
use Rattle.edit_session.specs.declared.grounds.Ground.{Ground}
use Rattle.edit_session.specs.declared.shaping.Shaped.{Shaped}
use Rattle.edit_session.specs.declared.slot.Slot.{Slot}

-- the fold is the same but for what is known of commands, and how many were checked
pub record IsSameFold (old new : Fold) : Type 0 where
  pub most : new.most ≡ old.most
  pub budget : new.budget ≡ old.budget
  pub names : new.names ≡ old.names
  pub version : new.version ≡ old.version
  pub lines : new.lines ≡ old.lines

-- the command of the text at `at` is answered, which changes the slot
pub record AnswersAt (at : ℕ) (c : PlainCommand) (old : Fold) (slots : List Slot) (new : Fold) (slots' : List Slot) (findings : Findings) : Type 0 where
  pub slot : Slot
  pub here : slice_get slots at ≡ Some slot
  pub slot' : Slot
  pub slots_are : slots' ≡ slice_set slots at slot'
  pub places : List ℕ
  pub rest : (commands : List PlainCommand) → IsResting commands old.resting → RestOn commands c places
  pub resting : (commands : List PlainCommand) → IsResting commands old.resting → IsResting (behind commands c) new.resting
  pub basis : Ground
  pub is_ground : IsGround (texts_in slots) places at basis
  pub answered : Answered
  pub findings_are : answered.findings ≡ findings
  pub right : AnswersRightly slot slot' basis (let q : Question = record { signature = entries_of old.version; command = c; budget = old.budget } in q) answered
  pub listed : kept_of slot' ≡ Some (list_of slot basis)
  pub counts : answered.checks ≡ checks_for (kept_of slot) (Some (list_of slot basis))
  pub text : slot'.text ≡ slot.text
  pub raw : slot'.raw ≡ slot.raw
  pub checked : new.checked ≡ old.checked + answered.checks
  pub same : IsSameFold old new

-- the command, which was found to be so and stands on this line, is added
pub record Accepts (slot : Slot) (line : ℕ) (shaped : Shaped) (findings : Findings) (old new : Fold) : Type 0 where
  pub entry : Entry Stored
  pub shown : Shown
  pub entry_is : (budget : ℕ) → IsEntryFor (entries_of old.version) (plain_command shaped.command) shaped.entry
      → maybe_by stored_term findings.typ ≡ inferred_type (entries_of old.version) (plain_command shaped.command) budget
      → stored_entry entry ≡ entry_of (entries_of old.version) (plain_command shaped.command) (inferred_type (entries_of old.version) (plain_command shaped.command) budget)
  pub version : entries_of new.version ≡ entries_of old.version ++ stored_entry entry ∷ []
  pub shown_is : shown ≡ shown_with (words_in (reading old.names)) (written_form slot.raw.form) (option_map plain_found findings.found)
  pub titles : new.lines.titles ≡ old.lines.titles ++ record { shown = shown; place = in_file line } ∷ []
  pub quiet : (count : ℕ) → IsQuiet old.lines.book count → IsQuiet new.lines.book (count + 1)
  pub most : new.most ≡ old.most
  pub budget : new.budget ≡ old.budget
  pub names : new.names ≡ old.names
  pub resting : new.resting ≡ old.resting
  pub checked : new.checked ≡ old.checked
