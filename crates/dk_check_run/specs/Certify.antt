-- Trusted: the rows of `certify` (docs/certificates.md).
use Rattle.std.specs.Prelude.{◌≡◌, ◌≢◌, ◌⊎◌, ◌≤◌, ℕ, List, ◌++◌, length, Bool, true, false, Option, None, Some}
use Rattle.dk_io.specs.Bytes.{Books, added}
use Rattle.dk_io.specs.Causes.{Rose}
use Rattle.dk_model.specs.PlainCommands.{PlainCommand}
use Rattle.dk_model.specs.declared.code.Verdict.{Verdict}
use Rattle.dk_model.specs.declared.code.Verdict.TheVariants as verdict
use Rattle.dk_model.specs.declared.limits.Limits.{Limits}
use Rattle.command_line.specs.Requests.{CertifyRequest, CheckRequest, Request, to_certify}
use Rattle.board_core.specs.declared.event.Place.{Place}
use Rattle.verdict_book.specs.Report.{last_line, stop_status}
use Rattle.verdict_book.specs.declared.outcome.Outcome.{Outcome}
use Rattle.verdict_book.specs.declared.outcome.Outcome.TheVariants.{Accepted, Stopped, Unopened, Unread}
use Rattle.theory_walk.specs.BookNames.{book_named, folder_of}
use Rattle.theory_walk.specs.Libraries.{Key}
use Rattle.file_report.specs.Reports.{module_shown}
use Rattle.book_reader.specs.Shelved.{Setting, whole_library, without}
use Rattle.book_reader.specs.Shelves.{ShelfState}
use Rattle.file_check.specs.Failures.{of_opening, of_read}
use Rattle.theory_reading.specs.Reads.{outcome_in}
use Rattle.certificate_items.specs.Texts.{AreShort, lines_text}
use Rattle.checked_steps.specs.Items.{Item}
use Rattle.checked_steps.specs.Certificates.{IsCertificate}
use Rattle.recheck_theory.specs.Answers.{rechecked}
use Rattle.certify_theory.specs.Parts.{AreFirstParts, first_lines, whole_lines}
use Rattle.dk_check_run.specs.Books.{IsOfBooks, asked_setting, report_for, report_in}
use Rattle.dk_check_run.specs.Check as check
use Rattle.dk_check_run.specs.Check.{IsOfGiven}
use Rattle.dk_check_run.specs.Recheck.{IsAnswered, IsRead, certificate_limit, commands_of}
use Rattle.dk_check_run.specs.Run.{IsBookDue, memory_at_once}
use Rattle.dk_check_run.specs.Run as line
use Rattle.dk_check_run.specs.Rows.{Cause, books, unread, unopened, memory}

-- ---- the file

-- it is checked first, with its modules, by so many workers
abbrev pub checked : CertifyRequest → CheckRequest
checked q = record { file = q.file; workers = 4; split = None; budget = q.budget; quiet = true }

-- and its commands are read again, as `recheck` reads them
abbrev pub file_setting : Limits → CertifyRequest → Books → Setting
file_setting limits q held = asked_setting limits (checked q) held

-- the plain check accepts it, with all that it needs
abbrev pub IsAccepted : CertifyRequest → Setting → Type 0
IsAccepted q s = (count : ℕ) × ((report_in s q.budget (whole_library s)).outcome ≡ Accepted count)

-- where the shelf tells its books, it does, and this is so of them
abbrev pub IsOfAccepted : Limits → CertifyRequest → Option Books → (Setting → Type 0) → Type 0
IsOfAccepted limits q told P = IsOfBooks limits (checked q) told (λ s. IsAccepted q s × P s)

-- the last line of a report that ends so
abbrev pub last_of : CertifyRequest → Outcome → List ℕ
last_of q outcome = last_line outcome q.budget (folder_of q.file)

-- ---- texts

-- the text of a certificate of these commands, all of whose numbers are below 2^64
pub record IsCertificateText (commands : List PlainCommand) (text : List ℕ) : Type 0 where
  pub parts : List (List Item)
  pub certificate : IsCertificate commands parts
  pub short : AreShort (whole_lines parts)
  pub text_is : text ≡ lines_text (whole_lines parts)

-- its first line, and the parts of some first commands of these
pub record IsFrontText (commands : List PlainCommand) (text : List ℕ) : Type 0 where
  pub parts : List (List Item)
  pub firsts : AreFirstParts commands parts
  pub text_is : text ≡ lines_text (first_lines parts)

-- ---- the rows

pub data IsDue (limits : Limits) (q : CertifyRequest) (old new : ShelfState) : Cause → ℕ → List ℕ → Type 0 where
  -- the file is accepted, and this is the text of a certificate of its commands
  of_the_certificate : (text : List ℕ) → IsOfAccepted limits q old.books (λ s. IsCertificateText (commands_of s) text) → IsDue limits q old new books 0 text
  -- its check ended otherwise: a row of `check`, the last line of its report alone
  of_the_check : (cause : Cause) → (status : ℕ) → (text : List ℕ) → status ≢ 0 → check.IsDue limits (checked q) (λ lines outcome. last_of q outcome) old new cause status text
      → IsDue limits q old new cause status text
  -- it is accepted, and a read failed when its commands were read again: so what was given then ends
  of_a_later_read : (number : ℕ) → (place : Place) → IsOfAccepted limits q old.books (λ s. IsOfGiven new of_read s (λ lib. outcome_in s lib ≡ Unread number place))
      → IsDue limits q old new unread 3 (last_of q (Unread number place))
  -- or the file couldn't be opened again
  of_a_later_opening : IsOfAccepted limits q old.books (λ s. Unit {0}) → IsDue limits q old new (unopened q.file) 3 (line.unopened q.file)
  -- or a module couldn't be, and without it what was given then ends there; so do the whole books
  of_a_later_module : (name : List ℕ) → IsOfAccepted limits q old.books (λ s.
      (outcome_in s (without (Some name) (whole_library s)) ≡ Unopened name) × IsOfGiven new (of_opening name) s (λ lib. outcome_in s lib ≡ Unopened name))
      → IsDue limits q old new (unopened (book_named q.file (Some name))) 3 (last_of q (Unopened name))
  -- or memory ended while its certificate was written, behind some first parts
  of_memory : (front : List ℕ) → IsOfAccepted limits q old.books (λ s. IsFrontText (commands_of s) front) → IsDue limits q old new memory 4 (front ++ memory_at_once)

-- ---- what a reader looks for

-- the words ask to certify a file, and the shelf tells its books
pub record AsksToCertify (request : Option Request) (told_books : Option Books) (q : CertifyRequest) (held : Books) : Type 0 where
  pub asked : request ≡ Some (to_certify q)
  pub told_are : told_books ≡ Some held

-- a book is due where its failed opening would be the outcome of the check, or of reading the commands again
abbrev pub IsOpeningDue : Limits → CertifyRequest → Books → Key → Type 0
IsOpeningDue limits q held book =
    IsBookDue limits (checked q) held book
    ⊎ (outcome_in (file_setting limits q held) (without book (whole_library (file_setting limits q held))) ≡ Unopened (module_shown book))

-- what was written, and the status: the file is accepted, and just the text of a certificate of its commands; or it isn't, and
-- the last line of its report
pub data CertifiesFile (limits : Limits) (q : CertifyRequest) (held : Books) (before after : Option (List ℕ)) : ℕ → Type 0 where
  as_certified : (text : List ℕ) → IsAccepted q (file_setting limits q held) → IsCertificateText (commands_of (file_setting limits q held)) text
      → after ≡ added before text → CertifiesFile limits q held before after 0
  as_reported : (number : ℕ) → (place : Place) → (v : Verdict) → (report_for limits (checked q) held).outcome ≡ Stopped number place v → v ≢ verdict.Accepted
      → after ≡ added before (last_of q (Stopped number place v)) → CertifiesFile limits q held before after (stop_status v)

-- a text was written that, where a certificate may be so long, `recheck` answers as that of all commands of the file, which it reads
pub record IsRecheckedWhole (limits : Limits) (q : CertifyRequest) (held : Books) (before after : Option (List ℕ)) : Type 0 where
  pub text : List ℕ
  pub taken : after ≡ added before text
  pub read : IsRead (file_setting limits q held)
  pub answered : length text ≤ certificate_limit limits
      → IsAnswered limits (commands_of (file_setting limits q held)) text (rechecked (length (commands_of (file_setting limits q held))))

-- an opening failed, or a read, and the text that was written says which: of the file, or of a module
pub data HasCertifyFault (q : CertifyRequest) (old new : ShelfState) (before after : Option (List ℕ)) : Type 0 where
  of_the_file : Rose (old.missed q.file) (new.missed q.file) → after ≡ added before (line.unopened q.file) → HasCertifyFault q old new before after
  of_a_module : (name : List ℕ) → Rose (old.missed (book_named q.file (Some name))) (new.missed (book_named q.file (Some name)))
      → after ≡ added before (last_of q (Unopened name)) → HasCertifyFault q old new before after
  of_a_read : (number : ℕ) → (place : Place) → Rose old.faults new.faults → after ≡ added before (last_of q (Unread number place)) → HasCertifyFault q old new before after

-- where the words ask to certify a file, which is opened twice, the shelf has no book open
abbrev pub IsClosedFor : Option Request → Bool → Type 0
IsClosedFor request is_open = (q : CertifyRequest) → request ≡ Some (to_certify q) → is_open ≡ false
