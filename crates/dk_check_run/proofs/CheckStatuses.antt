-- What the rows of `check` say, each by the status, whatever is written of a report.
use Rattle.std.proofs.Common.{◌≡◌, ◌≢◌, ◌⊎◌, inl, inr, ℕ, List, refl, sym, ap, subst, ◌∙◌, arith}
use Rattle.std.specs.Prelude.{Option, None, Some}
use Rattle.dk_io.specs.Bytes.{Books}
use Rattle.dk_io.specs.Causes.{Rose}
use Rattle.dk_model.specs.declared.limits.Limits.{Limits}
use Rattle.command_line.specs.Requests.{CheckRequest}
use Rattle.verdict_book.specs.Report.{FileReport, PlainShown, status_of}
use Rattle.verdict_book.specs.declared.outcome.Outcome.{Outcome}
use Rattle.verdict_book.specs.declared.outcome.Outcome.TheVariants.{Unopened}
use Rattle.theory_walk.specs.BookNames.{book_named}
use Rattle.theory_walk.specs.Libraries.{Key}
use Rattle.book_reader.specs.Shelved.{Setting, whole_library, without}
use Rattle.book_reader.specs.Shelves.{ShelfState}
use Rattle.file_check.specs.Failures.{of_opening}
use Rattle.dk_check_run.specs.Books.{IsOfBooks, asked_setting, report_for}
use Rattle.dk_check_run.specs.Check as check
use Rattle.dk_check_run.specs.Rows.{Cause, Shows}
use Rattle.dk_check_run.specs.Run.{IsBookDue}
use Rattle.dk_check_run.proofs.PruneStatuses.{decided_not3, stopped_not3}

-- what is so of the books that the shelf tells
told : (limits : Limits) (q : CheckRequest) (books : Books) (held : Option Books) (P : Setting → Type 0) → held ≡ Some books → IsOfBooks limits q held P → P (asked_setting limits q books)
told limits q books held P is of = subst (λ b. IsOfBooks limits q b P) is of

-- at 0, 1 and 6 the row is the books' own
module _ (limits : Limits) (q : CheckRequest) (put : List PlainShown → Outcome → List ℕ) (held : Books) (old new : ShelfState) (is : old.books ≡ Some held) where
  abbrev pub IsOwn : ℕ → List ℕ → Type 0
  IsOwn status text = (status ≡ status_of (report_for limits q held).outcome) × (text ≡ put (report_for limits q held).lines (report_for limits q held).outcome)

  own_at : (r : FileReport) → report_for limits q held ≡ r → IsOwn (status_of r.outcome) (put r.lines r.outcome)
  own_at r is = (ap (λ (x : FileReport). status_of x.outcome) (sym is), ap (λ (x : FileReport). put x.lines x.outcome) (sym is))

  pub check_own : (cause : Cause) (status : ℕ) (text : List ℕ) → check.IsDue limits q put old new cause status text → Shows cause status old new → status ≢ 3 → status ≢ 4 → IsOwn status text
  check_own cause status text (check.of_the_books r of) shows not3 not4 = own_at r (told limits q held old.books (λ s. check.IsReport q r s (whole_library s)) is of)
  check_own cause status text (check.of_the_given r number place v failure outcome_is counted of) shows not3 not4 =
      own_at r (told limits q held old.books (λ s. check.IsReport q r s (whole_library s) × check.IsOfGiven new failure s (check.IsReport q r s)) is of).0
  check_own cause status text (check.of_a_failed_read r number place unread_is of) shows not3 not4 = absurd (not3 shows.0)
  check_own cause status text (check.of_a_failed_opening leaves) shows not3 not4 = absurd (not3 refl)
  check_own cause status text (check.of_a_missing_module r name missing_is of) shows not3 not4 = absurd (not3 shows.0)
  check_own cause status text (check.of_memory lines number place of) shows not3 not4 = absurd (not4 refl)
  check_own cause status text check.of_no_memory shows not3 not4 = absurd (not4 refl)

  -- a module whose failed opening is told was due
  missing_due : (r : FileReport) (name : List ℕ) → r.outcome ≡ Unopened name
      → IsOfBooks limits q old.books (λ s. check.IsReport q r s (without (Some name) (whole_library s)) × check.IsOfGiven new (of_opening name) s (check.IsReport q r s))
      → IsBookDue limits q held (Some name)
  missing_due r name missing_is of =
      ap (λ (x : FileReport). x.outcome)
      (told limits q held old.books (λ s. check.IsReport q r s (without (Some name) (whole_library s)) × check.IsOfGiven new (of_opening name) s (check.IsReport q r s)) is of).0
      ∙ missing_is

  -- at 3 a read failed, or the opening of a book that was due
  pub failed_due : (cause : Cause) (status : ℕ) (text : List ℕ) → check.IsDue limits q put old new cause status text → Shows cause status old new → status ≡ 3
      → Rose old.faults new.faults ⊎ ((book : Key) × IsBookDue limits q held book × Rose (old.missed (book_named q.file book)) (new.missed (book_named q.file book)))
  failed_due cause status text (check.of_the_books r of) shows three = decided_not3 shows.0 three
  failed_due cause status text (check.of_the_given r number place v failure outcome_is counted of) shows three = stopped_not3 shows.0 three
  failed_due cause status text (check.of_a_failed_read r number place unread_is of) shows three = inl shows.1
  failed_due cause status text (check.of_a_failed_opening leaves) shows three = inr (None, refl, shows.1)
  failed_due cause status text (check.of_a_missing_module r name missing_is of) shows three = inr (Some name, missing_due r name missing_is of, shows.1)
  failed_due cause status text (check.of_memory lines number place of) shows three = absurd (omega (arith, three))
  failed_due cause status text check.of_no_memory shows three = absurd (omega (arith, three))
