-- One turn of the fold of a session.
use Rattle.std.proofs.Common.{ℕ, zero, suc, ◌≡◌, ◌≢◌, ◌<◌, ◌≤◌, ◌+◌, inl, inr, Some, List, [], ◌∷◌, ◌++◌, slice_get, slice_set, get_or, length, refl, ap, sym, subst, ◌∙◌, arith}
use Rattle.std.specs.Option.{option_map}
use Rattle.dk_model.specs.PlainCommands.{PlainCommand}
use Rattle.dk_model.specs.Scoping.{plain_command}
use Rattle.dk_model.specs.Signatures.{maybe_by}
use Rattle.dk_model.specs.Verdicts.{entry_of, inferred_type}
use Rattle.dk_model.specs.declared.code.Code.{Code}
use Rattle.dk_model.specs.declared.code.Code.TheVariants.{E08}
use Rattle.dk_model.specs.declared.code.Fault.TheVariants as fault
use Rattle.dk_model.specs.declared.code.Verdict.{Verdict}
use Rattle.dk_model.specs.declared.code.Verdict.TheVariants as verdict
use Rattle.dk_model.specs.declared.limits.Limits.{Limits}
use Rattle.dk_parser.specs.RawViews.{written_form}
use Rattle.dk_parser.specs.declared.raw.Raw.{Raw}
use Rattle.board_core.specs.Places.{in_file}
use Rattle.scope_terms.specs.Names.{reading}
use Rattle.scope_terms.specs.Reading.{after_command, current}
use Rattle.scope_terms.specs.Scopes.{scope_of, scoped}
use Rattle.scope_terms.specs.declared.names.Names.{Names}
use Rattle.shared_term.specs.Finding.{plain_found}
use Rattle.shared_term.specs.Storage.{stored_term}
use Rattle.signature_log.specs.Versions.{entries_of, stored_entry}
use Rattle.signature_log.specs.declared.version.Version.{Version}
use Rattle.verdict_book.specs.declared.title.Title.{Title}
use Rattle.edit_session.specs.Answers.{Answer}
use Rattle.edit_session.specs.Folding.{IsFolded, IsQuiet, IsStopped, KeepsSlots}
use Rattle.edit_session.specs.Resting.{IsResting}
use Rattle.edit_session.specs.Shaping.{IsEntryFor, IsNotShaped, IsShapedAs}
use Rattle.edit_session.specs.Shown.{shown_with, words_in}
use Rattle.edit_session.specs.Turning.{Accepts, AnswersAt}
use Rattle.edit_session.specs.declared.finding.Findings.{Findings}
use Rattle.edit_session.specs.declared.fold.Fold.{Fold}
use Rattle.edit_session.specs.declared.fold.Lines.{Lines}
use Rattle.edit_session.specs.declared.shaping.Shaped.{Shaped}
use Rattle.edit_session.specs.declared.slot.Slot.{Slot}
use Rattle.edit_session.proofs.Checking.{IsAdded, IsJudged, answer_now, goes_further, slots_then, stops_checked}
use Rattle.edit_session.proofs.Shapes.{for_shaped}
use Rattle.edit_session.proofs.Stepping.{stops_full, stops_unscoped, stops_unshaped}

pub kept_between : {limits : Limits} {budget : ℕ} {start slots slots' : List Slot} → KeepsSlots limits budget start slots → KeepsSlots limits budget start slots' → KeepsSlots limits budget slots slots'
kept_between h g = record { texts = g.texts ∙ sym h.texts; forms = g.forms ∙ sym h.forms; right = g.right }

-- nothing is changed
pub kept_same : {limits : Limits} {budget : ℕ} {start slots slots' : List Slot} → slots' ≡ slots → KeepsSlots limits budget start slots → KeepsSlots limits budget slots slots'
kept_same {limits} {budget} {start} {slots} e h = subst (KeepsSlots limits budget slots) (sym e) (record { texts = refl; forms = refl; right = h.right })

module _ (limits : Limits) (start : List Slot) (at : ℕ) (slots slots' : List Slot) (old : Fold) (names' : Names) (mid : Fold) (h : IsFolded limits old.budget start at slots old) (shaped : Shaped) (findings : Findings) (raw : Raw)
    (is : IsShapedAs (reading old.names) (entries_of old.version) (written_form raw.form) shaped) (below : at < old.most)
    (n : AnswersAt at (plain_command shaped.command) (record old { names = names' }) slots mid slots' findings) (r : raw ≡ n.slot.raw) where
  abbrev c : PlainCommand
  c = plain_command shaped.command

  judged : IsJudged old.budget h.behind.commands at slots old n.slot n.slot' c n.answered
  judged = record {
    scopes = subst (λ (x : Raw). scope_of (reading old.names).symbols (current (reading old.names)) (written_form x.form) ≡ scoped c) r is.scopes;
    shaped = for_shaped (entries_of old.version) c shaped.entry is.entry;
    below = below;
    places = n.places;
    rest = n.rest h.behind.commands h.behind.resting;
    basis = n.basis;
    is_ground = n.is_ground;
    right = n.right;
    listed = n.listed;
    counts = n.counts;
    text = n.text;
    raw = n.raw;
  }

  taken_kept : KeepsSlots limits old.budget start slots'
  taken_kept = subst (KeepsSlots limits old.budget start) (sym n.slots_are) (slots_then limits old.budget start at slots old h n.slot n.here n.slot' c n.answered judged)

  pub taken_slots : KeepsSlots limits old.budget slots slots'
  taken_slots = kept_between h.slots_kept taken_kept

  pub taken_stops : (v : Verdict) → findings.verdict ≡ v → v ≢ verdict.Accepted → IsStopped limits old.budget start at v slots' mid
  taken_stops v e m = subst (λ ss. IsStopped limits old.budget start at v ss mid) (sym n.slots_are)
      (stops_checked limits old.budget start at slots old h n.slot n.here n.slot' c n.answered judged mid v n.same.lines n.checked (ap (λ (x : Findings). x.verdict) n.findings_are ∙ e) m)

  pub taken_goes : findings.verdict ≡ verdict.Accepted → (line : ℕ) → line ≡ at + 1 → (new : Fold) (slot : Slot) → slot.raw ≡ n.slot.raw → Accepts slot line shaped findings mid new
      → reading names' ≡ after_command (reading old.names) (written_form raw.form) → IsFolded limits old.budget start (at + 1) slots' new
  taken_goes e line l new slot s acc after = subst (λ ss. IsFolded limits old.budget start (at + 1) ss new) (sym n.slots_are)
      (goes_further limits old.budget start at slots old h n.slot n.here n.slot' c n.answered judged (ap (λ (x : Findings). x.verdict) n.findings_are ∙ e) new acc.entry acc.shown added)
    where
      names_are : new.names ≡ names'
      names_are = acc.names ∙ n.same.names

      typ_is : maybe_by stored_term findings.typ ≡ inferred_type (entries_of old.version) c old.budget
      typ_is = ap (λ (x : Findings). maybe_by stored_term x.typ) (sym n.findings_are) ∙ ap (λ (x : Answer). x.typ) (answer_now limits old.budget start at slots old h n.slot n.here n.slot' c n.answered judged)

      entry_now : stored_entry acc.entry ≡ entry_of (entries_of old.version) c (inferred_type (entries_of old.version) c old.budget)
      entry_now = subst (λ (v : Version). IsEntryFor (entries_of v) c shaped.entry → maybe_by stored_term findings.typ ≡ inferred_type (entries_of v) c old.budget → stored_entry acc.entry ≡ entry_of (entries_of v) c (inferred_type (entries_of v) c old.budget)) n.same.version (acc.entry_is old.budget) is.entry typ_is

      added : IsAdded limits old.budget start at slots old h n.slot n.here n.slot' c n.answered judged new acc.entry acc.shown
      added = record {
        most = acc.most ∙ n.same.most;
        names = ap reading names_are ∙ after ∙ ap (λ (x : Raw). after_command (reading old.names) (written_form x.form)) r;
        entry = entry_now;
        version = acc.version ∙ ap (λ v. entries_of v ++ stored_entry acc.entry ∷ []) n.same.version;
        resting = subst (IsResting (h.behind.commands ++ c ∷ [])) (sym acc.resting) (n.resting h.behind.commands h.behind.resting);
        shown_is = acc.shown_is ∙ (λ i. shown_with (words_in (reading (sym acc.names i))) (written_form (s i).form) (option_map plain_found (sym n.findings_are i).found));
        titles = acc.titles ∙ (λ i. (n.same.lines i).titles ++ (let t : Title = record { shown = acc.shown; place = in_file (l i) } in t) ∷ []);
        quiet = acc.quiet at (subst (λ (x : Lines). IsQuiet x.book at) (sym n.same.lines) h.quiet);
        checked = acc.checked ∙ n.checked;
      }

-- ---- what isn't checked

slot_there : (slots : List Slot) (i : ℕ) → i < length slots → (s : Slot) × (slice_get slots i ≡ Some s)
slot_there [] i l = absurd (omega (arith, l))
slot_there (s ∷ ss) zero l = (s, refl)
slot_there (s ∷ ss) (suc i) l = slot_there ss i (omega (arith, l))

pub taken_full : (limits : Limits) (start : List Slot) (at : ℕ) (slots : List Slot) (old : Fold) → at < length slots → old.most ≤ at → IsFolded limits old.budget start at slots old → IsStopped limits old.budget start at (verdict.Refused E08) slots old
taken_full limits start at slots old l m h = let s : (x : Slot) × (slice_get slots at ≡ Some x) = slot_there slots at l in stops_full limits old.budget start at slots old h s.0 s.1 m

module _ (limits : Limits) (start : List Slot) (at : ℕ) (slots : List Slot) (old : Fold) (names' : Names) (slot : Slot) (here : slice_get slots at ≡ Some slot) (below : at < old.most) (h : IsFolded limits old.budget start at slots old) where
  stopped_with : (v : Verdict) → IsStopped limits old.budget start at v slots old → IsStopped limits old.budget start at v slots (record old { names = names' })
  stopped_with v s = record { lines = s.lines; titles = s.titles; quiet = s.quiet; counted = s.counted; slots_kept = s.slots_kept; fault = s.fault; told = s.told }

  pub taken_refused : (code : Code) → IsNotShaped (reading old.names) (entries_of old.version) (written_form slot.raw.form) (fault.Refused code) → IsStopped limits old.budget start at (verdict.Refused code) slots (record old { names = names' })
  taken_refused code (inl e) = stopped_with (verdict.Refused code) (stops_unscoped limits old.budget start at slots old h slot here below code e)
  taken_refused code (inr n) = stopped_with (verdict.Refused code) (stops_unshaped limits old.budget start at slots old h slot here below code n.0 n.1 n.2)

-- what was put at a place is read there
set_read : (xs : List Slot) (i : ℕ) (x y : Slot) → i < length xs → y ≡ get_or (slice_set xs i x) i y → y ≡ x
set_read [] i x y l e = absurd (omega (arith, l))
set_read (z ∷ xs) zero x y l e = e
set_read (z ∷ xs) (suc i) x y l e = set_read xs i x y (omega (arith, l)) e

pub raw_there : (slots slots' : List Slot) (at : ℕ) (x y : Slot) (r : Raw) → at < length slots → slots' ≡ slice_set slots at x → y ≡ get_or slots' at y → x.raw ≡ r → y.raw ≡ r
raw_there slots slots' at x y r l e d q = ap (λ (s : Slot). s.raw) (set_read slots at x y l (subst (λ ss. y ≡ get_or ss at y) e d)) ∙ q

-- one step after the others
pub kept_on : {limits : Limits} {budget other : ℕ} {start slots slots' : List Slot} → budget ≡ other → KeepsSlots limits budget start slots → KeepsSlots limits budget slots slots' → KeepsSlots limits other start slots'
kept_on {limits} {start} {slots'} e h g = subst (λ n. KeepsSlots limits n start slots') e (record { texts = g.texts ∙ h.texts; forms = g.forms ∙ h.forms; right = g.right })
