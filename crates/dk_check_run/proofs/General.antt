-- What follows from the one clause whatever the commands, with no look at their rows.
use Rattle.std.proofs.Common.{◌≡◌, ◌≢◌, ◌⊎◌, ◌<◌, inl, inr, ℕ, List, sym, ap, ◌∙◌, arith}
use Rattle.std.specs.Prelude.{Option, Some, None}
use Rattle.dk_io.specs.Causes.{Rose}
use Rattle.command_line.specs.Usage.{usage_text}
use Rattle.book_reader.specs.Shelves.{HasHeld, ShelfState}
use Rattle.dk_check_run.specs.Run.{SinkState, Writes, memory_at_once}
use Rattle.dk_check_run.specs.Rows.{Answers, Cause, Row, Shows, books, given, unread, unopened, memory, of_no_command, of_no_words, of_command}

pub is_status : {old new : SinkState} {text : List ℕ} {status result : ℕ} → Writes old new text status result → result ≢ 5 → result ≡ status
is_status w not = elim w.known [ inl e ↦ e | inr e ↦ absurd (not e) ]

-- at a status of its own, which no failed write has
pub stands : {old new : SinkState} {text : List ℕ} {status result n : ℕ} → Writes old new text status result → result ≡ n → n ≢ 5 → status ≡ n
stands w is not = sym (is_status w (λ five. not (sym is ∙ five))) ∙ is

pub held_same : (old new : ShelfState) → new ≡ old → HasHeld old new
held_same old new same = record { faults = ap (λ (s : ShelfState). s.faults) same; missed = λ name. ap (λ (s : ShelfState). s.missed name) same }

pub some_same : {C : Type 0} (c d : C) → Some c ≡ Some d → c ≡ d
some_same c d e = cc

pub none_some : {C : Type 0} (c : C) → None ≡ Some c → ⊥
none_some c e = cc

-- what a cause allows: a status of the table, never that of the usage text, and 0 only where the shelf held
allowed : (cause : Cause) (status : ℕ) (old new : ShelfState) → Shows cause status old new → (status < 7) × (status ≢ 2) × (status ≡ 0 → HasHeld old new)
allowed books status old new (inl e, held) = (omega (arith, e), λ f. absurd (omega (arith, e, f)), λ zero. held)
allowed books status old new (inr (inl e), held) = (omega (arith, e), λ f. absurd (omega (arith, e, f)), λ zero. held)
allowed books status old new (inr (inr e), held) = (omega (arith, e), λ f. absurd (omega (arith, e, f)), λ zero. held)
allowed given status old new (inl e, rose) = (omega (arith, e), λ f. absurd (omega (arith, e, f)), λ zero. absurd (omega (arith, e, zero)))
allowed given status old new (inr e, rose) = (omega (arith, e), λ f. absurd (omega (arith, e, f)), λ zero. absurd (omega (arith, e, zero)))
allowed unread status old new (e, rose) = (omega (arith, e), λ f. absurd (omega (arith, e, f)), λ zero. absurd (omega (arith, e, zero)))
allowed (unopened name) status old new (e, rose) = (omega (arith, e), λ f. absurd (omega (arith, e, f)), λ zero. absurd (omega (arith, e, zero)))
allowed memory status old new e = (omega (arith, e), λ f. absurd (omega (arith, e, f)), λ zero. absurd (omega (arith, e, zero)))

module _ {C : Type 0} (rows : C → Row) (request : Option C) (old new : ShelfState) (before after : SinkState) (result : ℕ) where
  abbrev pub Answered : Type 0
  Answered = Answers rows request old new before after result

  -- a text was written, and its status is one of the table
  written : Answered → (status : ℕ) × (text : List ℕ) × Writes before after text status result × (status < 7)
  written (of_no_command none same w) = (2, usage_text, w, omega arith)
  written (of_no_words same w) = (4, memory_at_once, w, omega arith)
  written (of_command c is r) = (r.status, r.text, r.writes, (allowed r.cause r.status old new r.shows).0)

  pub sink_failed : Answered → result ≡ 5 → Rose before.faults after.faults
  sink_failed a = let w = written a in w.2.failed

  pub sink_held : Answered → result ≢ 5 → after.faults ≡ before.faults
  sink_held a = let w = written a in w.2.held

  pub statuses : Answered → result < 7
  statuses a = let w = written a in let small = w.3 in elim w.2.known [ inl e ↦ omega (arith, e, small) | inr e ↦ omega (arith, e) ]

  pub usage : Answered → request ≡ None → Writes before after usage_text 2 result ⊎ Writes before after memory_at_once 4 result
  usage (of_no_command none same w) is = inl w
  usage (of_no_words same w) is = inr w
  usage (of_command c e r) is = absurd (none_some c (sym is ∙ e))

  pub usage_only : Answered → result ≡ 2 → request ≡ None
  usage_only (of_no_command none same w) two = none
  usage_only (of_no_words same w) two = let e = stands w two (λ f. absurd (omega (arith, f))) in absurd (omega (arith, e))
  usage_only (of_command c is r) two = absurd ((allowed r.cause r.status old new r.shows).1 (stands r.writes two (λ f. absurd (omega (arith, f)))))

  pub shelf_held : Answered → result ≡ 0 → HasHeld old new
  shelf_held (of_no_command none same w) zero = held_same old new same
  shelf_held (of_no_words same w) zero = held_same old new same
  shelf_held (of_command c is r) zero = (allowed r.cause r.status old new r.shows).2 (stands r.writes zero (λ f. absurd (omega (arith, f))))
