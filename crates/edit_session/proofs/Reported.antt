-- The report of a session is that of its texts.
use Rattle.std.proofs.Common.{ℕ, ◌≡◌, ◌≤◌, true, false, nat_le, Option, Result, List, [], ◌∷◌, All, length, map, ap, sym, subst, ◌∙◌, arith}
use Rattle.std.specs.Arc.{arc_value}
use Rattle.std.proofs.lemmas.Bool.Decides.{nat_tests}
use Rattle.std.proofs.lemmas.List.Elements.{All-cons, All-head, All-nil, All-tail}
use Rattle.dk_io.specs.Writing.{Wrote}
use Rattle.dk_lexer.specs.Tokens.{input_limit}
use Rattle.dk_model.specs.declared.limits.Limits.{Limits}
use Rattle.verdict_book.specs.Report.{FileReport, report_of}
use Rattle.edit_session.specs.Folding.{KeepsSlots, forms_in}
use Rattle.edit_session.specs.Forms.{AreCommandTexts, Fit, report_from_forms}
use Rattle.edit_session.specs.Grounds.{texts_in}
use Rattle.edit_session.specs.Held.{IsSlot, plain_slot}
use Rattle.edit_session.specs.Reporting.{IsReported}
use Rattle.edit_session.specs.Sessions.{AreReached, PlainSession, PlainSlot, checks, kept_then, texts_of}
use Rattle.edit_session.specs.Texts.{bytes_of, is_command_text, report_of_texts}
use Rattle.edit_session.specs.declared.fold.Fold.{Fold}
use Rattle.edit_session.specs.declared.slot.Slot.{Slot}
use Rattle.edit_session.proofs.Accepting.{forms_are}
use Rattle.edit_session.proofs.Counting.{map_map}
use Rattle.edit_session.proofs.Joined.{reports_from_forms}

pub texts_are : (slots : List Slot) → texts_of (map plain_slot slots) ≡ texts_in slots
texts_are slots = map_map (λ (s : PlainSlot). s.text) plain_slot slots

command_texts : (limits : Limits) (budget : ℕ) (slots : List Slot) → All (IsSlot limits budget) slots → AreCommandTexts limits (texts_in slots)
command_texts limits budget [] h = All-nil (λ text. is_command_text limits text ≡ true)
command_texts limits budget (s ∷ ss) h = let is : IsSlot limits budget s = All-head (IsSlot limits budget) s ss h in
    All-cons (λ text. is_command_text limits text ≡ true) (arc_value s.text) (texts_in ss) is.is_text (command_texts limits budget ss (All-tail (IsSlot limits budget) s ss h))

-- where the texts fit
pub report_is : (limits : Limits) (budget : ℕ) (slots : List Slot) → All (IsSlot limits budget) slots → nat_le (length (bytes_of (texts_of (map plain_slot slots)))) (input_limit limits) ≡ true
    → report_of_texts limits budget (texts_of (map plain_slot slots)) ≡ report_from_forms limits budget (forms_in slots)
report_is limits budget slots right fits = ap (report_of_texts limits budget) (texts_are slots)
    ∙ reports_from_forms limits budget (texts_in slots) (command_texts limits budget slots right) (subst (Fit limits) (texts_are slots) (let q : length (bytes_of (texts_of (map plain_slot slots))) ≤ input_limit limits = grind (arith, nat_tests, fits) in q))
    ∙ ap (report_from_forms limits budget) (forms_are limits budget slots right)

-- ---- what the report of a session says

module _ (limits : Limits) (budget : ℕ) (start slots : List Slot) where
  pub texts_stay : KeepsSlots limits budget start slots → texts_of (map plain_slot slots) ≡ texts_of (map plain_slot start)
  texts_stay h = texts_are slots ∙ h.texts ∙ sym (texts_are start)

  module _ (f : Fold) (h : IsReported limits budget start slots f) where
    pub lists_reached : AreReached limits budget (texts_of (map plain_slot start)) h.counted.lists
    lists_reached = subst (λ ts. AreReached limits budget ts h.counted.lists) (sym (texts_are start)) h.counted.reached

    pub session_then : (let s : PlainSession = record { limits = limits; budget = budget; slots = map plain_slot slots } in s) ≡ record { limits = limits; budget = budget; slots = kept_then (map plain_slot start) h.counted.lists }
    session_then = λ i. let s : PlainSession = record { limits = limits; budget = budget; slots = h.counted.kept i } in s

  -- what is written
  pub text_written : nat_le (length (bytes_of (texts_of (map plain_slot start)))) (input_limit limits) ≡ true → All (IsSlot limits budget) start → (before after : Option (List ℕ)) {E : Type 0} (result : Result (Unit {0}) E)
      → Wrote before after (report_of (report_from_forms limits budget (forms_in start)).lines (report_from_forms limits budget (forms_in start)).outcome budget false []) result
      → Wrote before after (report_of (report_of_texts limits budget (texts_of (map plain_slot start))).lines (report_of_texts limits budget (texts_of (map plain_slot start))).outcome budget false []) result
  text_written fits right before after result w = subst (λ (r : FileReport). Wrote before after (report_of r.lines r.outcome budget false []) result) (sym (report_is limits budget start right fits)) w

-- the same of the session before, as it is seen
abbrev seen : Limits → ℕ → List Slot → PlainSession
seen limits budget slots = record { limits = limits; budget = budget; slots = map plain_slot slots }

pub told_texts : (limits : Limits) (budget : ℕ) (start slots : List Slot) (s : PlainSession) → seen limits budget start ≡ s → KeepsSlots limits budget start slots → texts_of (map plain_slot slots) ≡ texts_of s.slots
told_texts limits budget start slots s e h = texts_stay limits budget start slots h ∙ ap (λ (x : PlainSession). texts_of x.slots) e

pub told_lists : (limits : Limits) (budget : ℕ) (start slots : List Slot) (f : Fold) (s : PlainSession) → seen limits budget start ≡ s → IsReported limits budget start slots f
    → (x : List (Option (List (List ℕ)))) × AreReached s.limits s.budget (texts_of s.slots) x × (f.checked ≡ checks s.slots x) × (seen limits budget slots ≡ record s { slots = kept_then s.slots x })
told_lists limits budget start slots f s e h = subst (λ (s : PlainSession). (x : List (Option (List (List ℕ)))) × AreReached s.limits s.budget (texts_of s.slots) x × (f.checked ≡ checks s.slots x) × (seen limits budget slots ≡ record s { slots = kept_then s.slots x })) e
    (h.counted.lists, lists_reached limits budget start slots f h, h.counted.checks_are, session_then limits budget start slots f h)

pub told_text : (limits : Limits) (budget : ℕ) (start : List Slot) (s : PlainSession) → seen limits budget start ≡ s → All (IsSlot limits budget) start → nat_le (length (bytes_of (texts_of s.slots))) (input_limit s.limits) ≡ true
    → (before after : Option (List ℕ)) {E : Type 0} (result : Result (Unit {0}) E)
    → Wrote before after (report_of (report_from_forms limits budget (forms_in start)).lines (report_from_forms limits budget (forms_in start)).outcome budget false []) result
    → Wrote before after (report_of (report_of_texts s.limits s.budget (texts_of s.slots)).lines (report_of_texts s.limits s.budget (texts_of s.slots)).outcome s.budget false []) result
told_text limits budget start s e right fits before after result w = subst (λ (x : PlainSession). nat_le (length (bytes_of (texts_of x.slots))) (input_limit x.limits) ≡ true
    → Wrote before after (report_of (report_of_texts x.limits x.budget (texts_of x.slots)).lines (report_of_texts x.limits x.budget (texts_of x.slots)).outcome x.budget false []) result) e
    (λ f. text_written limits budget start [] f right before after result w) fits
