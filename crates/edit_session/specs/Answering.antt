-- For proofs: the answer on a command, kept or made anew.
use Rattle.std.specs.Prelude.{ℕ, ◌≡◌, Bool, true, false, Option, Some, None, List, [], ◌∷◌, ◌++◌, map}
use Rattle.std.specs.Arc.{arc_value}
use Rattle.std.specs.Option.{ForSome, option_map}
use Rattle.dk_model.specs.PlainCommands.{PlainCommand}
use Rattle.dk_model.specs.PlainEntries.{PlainSignature}
use Rattle.dk_model.specs.Scoping.{plain_command}
use Rattle.dk_model.specs.declared.limits.Limits.{Limits}
use Rattle.prune_theory.specs.Folds.{Declared}
use Rattle.prune_theory.specs.Renumbering.{picked}
use Rattle.signature_log.specs.Versions.{entries_of}
use Rattle.edit_session.specs.Answers.{Answer, IsCommandBehind, IsMade, answer_on, answer_with, is_among, renumbered}
use Rattle.edit_session.specs.Grounds.{same_texts}
use Rattle.edit_session.specs.Held.{kept_list, plain_answer, plain_kept}
use Rattle.edit_session.specs.declared.answering.Answered.{Answered}
use Rattle.edit_session.specs.declared.answering.Asked.{Asked}
use Rattle.edit_session.specs.declared.finding.Findings.{Findings}
use Rattle.edit_session.specs.declared.grounds.Ground.{Ground}
use Rattle.edit_session.specs.declared.slot.Kept.{Kept}
use Rattle.edit_session.specs.declared.slot.Slot.{Slot}

-- a command over a signature, and the units for its check
pub record Question : Type 0 where
  pub signature : PlainSignature
  pub command : PlainCommand
  pub budget : ℕ

abbrev pub question_of : Asked → Question
question_of a = record { signature = entries_of a.version.now; command = plain_command a.command.now; budget = a.budget }

-- the answer on it
abbrev pub answer_to : Question → Answer
answer_to q = answer_on q.signature q.command q.budget

-- the list of texts for which an answer is kept
abbrev pub kept_of : Slot → Option (List (List ℕ))
kept_of s = option_map (kept_list (arc_value s.text)) s.kept

-- the list of the texts on which the command rests, its own last
abbrev pub list_of : Slot → Ground → List (List ℕ)
list_of s g = map arc_value g.texts.items ++ arc_value s.text ∷ []

abbrev pub has_texts : Kept → Ground → Bool
has_texts k g = same_texts (map arc_value k.texts.items) (map arc_value g.texts.items)

-- the answer that is kept for these texts, over their present places, or that none is
abbrev pub IsKeptAnswer : Option Kept → Ground → Option Findings → Type 0
IsKeptAnswer None g o = o ≡ None
IsKeptAnswer (Some k) g None = has_texts k g ≡ false
IsKeptAnswer (Some k) g (Some f) = (has_texts k g ≡ true) × (plain_answer f ≡ answer_with (renumbered k.places g.places) (plain_answer k.findings))

-- what is known where the answer is asked for
pub record IsAskedAt (limits : Limits) (slot : Slot) (g : Ground) (q : Question) : Type 0 where
  pub before : List (List ℕ)
  pub theory : Declared
  pub is_behind : IsCommandBehind limits q.budget before (arc_value slot.text) g.places theory q.command
  pub signature : theory.signature ≡ q.signature
  pub texts : map arc_value g.texts.items ≡ picked (is_among g.places) 0 before
  pub kept : ForSome slot.kept (λ k. IsMade limits q.budget (arc_value slot.text) (plain_kept k))

-- then it is the present one, and what is kept was made
pub record AnswersRightly (old new : Slot) (g : Ground) (q : Question) (a : Answered) : Type 0 where
  pub answers : (limits : Limits) → IsAskedAt limits old g q → plain_answer a.findings ≡ answer_on q.signature q.command q.budget
  pub made : (limits : Limits) → IsAskedAt limits old g q → ForSome new.kept (λ k. IsMade limits q.budget (arc_value old.text) (plain_kept k))
