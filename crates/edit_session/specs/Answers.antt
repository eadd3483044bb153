-- For callers: the answer on a command, an answer that is kept of one, and its use behind other commands (docs/sessions.md).
use Rattle.std.specs.Prelude.{ℕ, ◌≡◌, eqb, Option, Some, None, Bool, true, false, List, ◌∷◌, map, if◌then◌else◌}
use Rattle.std.specs.Option.{option_map}
use Rattle.dk_model.specs.PlainTerms.{Tree}
use Rattle.dk_model.specs.PlainEntries.{PlainSignature}
use Rattle.dk_model.specs.PlainCommands.{PlainCommand, PlainFound}
use Rattle.dk_model.specs.Answering.{is_answered}
use Rattle.dk_model.specs.Captures.{is_in}
use Rattle.dk_model.specs.Verdicts.{verdict_of, inferred_type, found_of}
use Rattle.dk_model.specs.declared.limits.Limits.{Limits}
use Rattle.dk_model.specs.declared.code.Verdict.{Verdict}
use Rattle.dk_parser.specs.Written.{WrittenForm}
use Rattle.prune_theory.specs.Folds.{Declared}
use Rattle.prune_theory.specs.Laws.{IsBehind}
use Rattle.prune_theory.specs.Mentions.{IsAscending}
use Rattle.prune_theory.specs.Renamed.{found_with_symbols, with_symbols}
use Rattle.prune_theory.specs.Renumbering.{picked}
pub use Rattle.edit_session.specs.Texts.{at_top}
use Rattle.edit_session.specs.Texts.{form_of}

-- the verdict on a command; the type of a definition without one; what a query found that only asks
pub record Answer : Type 0 where
  pub verdict : Verdict
  pub typ : Option Tree
  pub found : Option PlainFound

abbrev pub asked_found : Bool → Option PlainFound → Option PlainFound
asked_found true found = found
asked_found false found = None

-- the answer on this command over this signature
abbrev pub answer_on : PlainSignature → PlainCommand → ℕ → Answer
answer_on S c budget = record { verdict = verdict_of S c budget; typ = inferred_type S c budget; found = asked_found (is_answered c) (found_of S c budget) }

-- the same with other numbers for the symbols
abbrev pub answer_with : (ℕ → ℕ) → Answer → Answer
answer_with m a = record { verdict = a.verdict; typ = option_map (with_symbols m) a.typ; found = option_map (found_with_symbols m) a.found }

-- ---- numbers of symbols

-- the number that stands in the second list where this one stands in the first
abbrev pub renumbered : List ℕ → List ℕ → ℕ → ℕ
renumbered (a ∷ old) (b ∷ new) k = if eqb k a then b else renumbered old new k
renumbered old new k = k

abbrev pub is_among : List ℕ → ℕ → Bool
is_among places i = is_in i places

-- ---- what is kept

-- an answer, the texts of what the command then rested on but for its own, and the places of these and of its own
pub record PlainKept : Type 0 where
  pub texts : List (List ℕ)
  pub places : List ℕ
  pub answer : Answer

-- behind these texts, whose commands are all accepted and make this theory, this text is this command, and rests on these places
pub record IsCommandBehind (limits : Limits) (budget : ℕ) (before : List (List ℕ)) (text : List ℕ) (places : List ℕ) (T : Declared) (c : PlainCommand) : Type 0 where
  pub forms : List WrittenForm
  pub forms_are : map (form_of limits) before ≡ map Some forms
  pub form : WrittenForm
  pub form_is : form_of limits text ≡ Some form
  pub behind : IsBehind budget (is_among places) T (map at_top forms) (at_top form) c
  pub ascending : IsAscending places

-- it is the answer on this text behind some others, as it was made once
pub record IsMade (limits : Limits) (budget : ℕ) (text : List ℕ) (kept : PlainKept) : Type 0 where
  pub before : List (List ℕ)
  pub theory : Declared
  pub command : PlainCommand
  pub is_command : IsCommandBehind limits budget before text kept.places theory command
  pub texts_are : kept.texts ≡ picked (is_among kept.places) 0 before
  pub answer_is : kept.answer ≡ answer_on theory.signature command budget
