-- For proofs: what a session holds, as plain data.
use Rattle.std.specs.Prelude.{ℕ, ◌≡◌, true, Some, List, [], ◌∷◌, ◌++◌, map}
use Rattle.std.specs.Arc.{arc_value}
use Rattle.std.specs.Option.{ForSome, option_map}
use Rattle.dk_model.specs.Signatures.{maybe_by}
use Rattle.dk_model.specs.declared.limits.Limits.{Limits}
use Rattle.dk_parser.specs.RawViews.{written_form}
use Rattle.shared_term.specs.Finding.{plain_found}
use Rattle.shared_term.specs.Storage.{stored_term}
use Rattle.edit_session.specs.declared.finding.Findings.{Findings}
use Rattle.edit_session.specs.declared.slot.Kept.{Kept}
use Rattle.edit_session.specs.declared.slot.Slot.{Slot}
use Rattle.edit_session.specs.Answers.{Answer, IsMade, PlainKept}
use Rattle.edit_session.specs.Sessions.{PlainSlot}
use Rattle.edit_session.specs.Texts.{form_of, is_command_text}

abbrev pub plain_answer : Findings → Answer
plain_answer f = record { verdict = f.verdict; typ = maybe_by stored_term f.typ; found = option_map plain_found f.found }

abbrev pub plain_kept : Kept → PlainKept
plain_kept k = record { texts = map arc_value k.texts.items; places = k.places; answer = plain_answer k.findings }

-- the list of texts for which an answer is kept, the own one last
abbrev pub kept_list : List ℕ → Kept → List (List ℕ)
kept_list text k = map arc_value k.texts.items ++ text ∷ []

abbrev pub plain_slot : Slot → PlainSlot
plain_slot s = record { text = arc_value s.text; kept = option_map (kept_list (arc_value s.text)) s.kept }

-- the text is a command, the one that is kept beside it, and what is kept of it was once its answer
pub record IsSlot (limits : Limits) (budget : ℕ) (s : Slot) : Type 0 where
  pub is_text : is_command_text limits (arc_value s.text) ≡ true
  pub form : form_of limits (arc_value s.text) ≡ Some (written_form s.raw.form)
  pub kept : ForSome s.kept (λ k. IsMade limits budget (arc_value s.text) (plain_kept k))
