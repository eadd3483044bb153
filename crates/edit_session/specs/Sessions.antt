-- Trusted: a session: its texts, for which lists of texts it keeps an answer, and what a report checks again (docs/sessions.md).
use Rattle.std.specs.Prelude.{ℕ, ◌≡◌, ◌+◌, ◌<◌, Bool, true, false, Option, Some, None, Result, Ok, Err, List, [], ◌∷◌, ◌++◌, length, map, take, slice_get, if◌then◌else◌}
use Rattle.std.specs.Cmp.Lexicographic.{pointwise}
use Rattle.dk_model.specs.PlainEntries.{PlainRule, PlainSignature}
use Rattle.dk_model.specs.PlainCommands.{PlainCommand, declare, query, rule_command}
use Rattle.dk_model.specs.Shapes.{shapes_of}
use Rattle.dk_model.specs.declared.code.Code.{Code}
use Rattle.dk_model.specs.declared.limits.Limits.{Limits}
use Rattle.dk_parser.specs.Written.{WrittenForm}
use Rattle.scope_terms.specs.Scopes.{same_spelling, scope_of, scoped}
use Rattle.prune_theory.specs.Folds.{AreAccepted, Declared, nothing_declared}
use Rattle.prune_theory.specs.Resting.{Rests, picked}
use Rattle.edit_session.specs.Texts.{at_top, forms_of}

-- a text, and the list of texts for which an answer on its command is kept, if one is
pub record PlainSlot : Type 0 where
  pub text : List ℕ
  pub kept : Option (List (List ℕ))

pub record PlainSession : Type 0 where
  pub limits : Limits
  pub budget : ℕ
  pub slots : List PlainSlot

abbrev pub texts_of : List PlainSlot → List (List ℕ)
texts_of slots = map (λ (s : PlainSlot). s.text) slots

-- a text of which nothing is kept
abbrev pub new_slot : List ℕ → PlainSlot
new_slot text = record { text = text; kept = None }

-- ---- what a report checks again

abbrev pub are_shapes : Result (List PlainRule) Code → Bool
are_shapes (Ok rs) = true
are_shapes (Err code) = false

-- each rule of the command has its shape
abbrev pub is_shaped : PlainSignature → PlainCommand → Bool
is_shaped S (rule_command rs) = are_shapes (shapes_of S rs)
is_shaped S (declare s A b) = true
is_shaped S (query demand a) = true

-- the report of these texts gets to the text at `k`, from 0: those before it are all accepted, and it is scoped and has its shapes.
-- The list has the texts of what its command rests on, its own last
pub record Reaches (limits : Limits) (budget : ℕ) (texts : List (List ℕ)) (k : ℕ) (list : List (List ℕ)) : Type 0 where
  pub within : k < limits.commands
  pub theory : Declared
  pub commands : List PlainCommand
  pub left : List ℕ
  pub accepted : AreAccepted budget nothing_declared (map at_top (take k (forms_of limits texts))) commands left theory
  pub form : WrittenForm
  pub form_is : slice_get (forms_of limits texts) k ≡ Some form
  pub command : PlainCommand
  pub scopes : scope_of theory.names None form ≡ scoped command
  pub shaped : is_shaped theory.signature command ≡ true
  pub keep : ℕ → Bool
  pub keeps : (i : ℕ) → keep i ≡ true → Rests (commands ++ command ∷ []) k i
  pub keeps_all : (i : ℕ) → Rests (commands ++ command ∷ []) k i → keep i ≡ true
  pub list_is : list ≡ picked keep 0 (take (k + 1) texts)

-- for each text its list, where the report gets to it
pub record AreReached (limits : Limits) (budget : ℕ) (texts : List (List ℕ)) (lists : List (Option (List (List ℕ)))) : Type 0 where
  pub count : length lists ≡ length texts
  pub reached : (k : ℕ) (list : List (List ℕ)) → slice_get lists k ≡ Some (Some list) → Reaches limits budget texts k list
  pub others : (k : ℕ) (list : List (List ℕ)) → slice_get lists k ≡ Some None → ¬ Reaches limits budget texts k list

-- one check for a list that differs from the one for which an answer is kept
abbrev pub checks_for : Option (List (List ℕ)) → Option (List (List ℕ)) → ℕ
checks_for kept None = 0
checks_for None (Some list) = 1
checks_for (Some old) (Some list) = if pointwise same_spelling old list then 0 else 1

abbrev pub checks : List PlainSlot → List (Option (List (List ℕ))) → ℕ
checks [] lists = 0
checks slots [] = 0
checks (slot ∷ slots) (list ∷ lists) = checks_for slot.kept list + checks slots lists

-- then an answer is kept for each of these lists; else what was kept before
abbrev pub kept_for : PlainSlot → Option (List (List ℕ)) → PlainSlot
kept_for slot None = slot
kept_for slot (Some list) = record { text = slot.text; kept = Some list }

abbrev pub kept_then : List PlainSlot → List (Option (List (List ℕ))) → List PlainSlot
kept_then (slot ∷ slots) (list ∷ lists) = kept_for slot list ∷ kept_then slots lists
kept_then slots lists = slots
