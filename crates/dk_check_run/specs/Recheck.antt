-- Trusted: the rows of `recheck` (docs/certificates.md).
use Rattle.std.specs.Prelude.{◌≡◌, ◌≤◌, ◌<◌, ◌==◌, ◌+◌, ℕ, List, [], ◌∷◌, ◌++◌, codes, length, take, if◌then◌else◌, Option, None, Some}
use Rattle.dk_io.specs.Bytes.{Books, added, book_of}
use Rattle.dk_io.specs.Causes.{Rose}
use Rattle.dk_lexer.specs.Tokens.{input_limit}
use Rattle.dk_model.specs.PlainCommands.{PlainCommand}
use Rattle.dk_model.specs.declared.code.Code.{Code}
use Rattle.dk_model.specs.declared.code.Verdict.TheVariants as verdict
use Rattle.dk_model.specs.declared.limits.Limits.{Limits}
use Rattle.command_line.specs.Requests.{RecheckRequest, Request, to_recheck}
use Rattle.board_core.specs.declared.event.Place.{Place}
use Rattle.verdict_book.specs.Report.{last_line, word_line}
use Rattle.verdict_book.specs.declared.outcome.Outcome.{Outcome}
use Rattle.verdict_book.specs.declared.outcome.Outcome.TheVariants.{Accepted, Stopped, Unopened, Unread}
use Rattle.theory_walk.specs.BookNames.{book_named, folder_of}
use Rattle.book_reader.specs.Shelved.{Setting, whole_library, without}
use Rattle.book_reader.specs.Shelves.{ShelfState}
use Rattle.file_check.specs.Failures.{of_opening, of_read}
use Rattle.theory_reading.specs.Reads.{commands_in, outcome_in}
use Rattle.checked_steps.specs.Theories.{HaveDerivations}
use Rattle.recheck_theory.specs.Answers.{Answer, Answers, rechecked, rejected}
use Rattle.dk_check_run.specs.Books.{setting_for, standard_modules}
use Rattle.dk_check_run.specs.Check.{IsOfGiven}
use Rattle.dk_check_run.specs.Run.{LeavesBooks, memory_at_once}
use Rattle.dk_check_run.specs.Run as line
use Rattle.dk_check_run.specs.Rows.{Cause, books, unread, unopened, memory}

-- ---- the file

-- it is read with its modules, as `check` reads it
abbrev pub read_setting : Limits → RecheckRequest → Books → Setting
read_setting limits q held = setting_for limits standard_modules q.file held

-- where the shelf tells its books, this is so of the file in them
abbrev pub IsOfFile : Limits → RecheckRequest → Option Books → (Setting → Type 0) → Type 0
IsOfFile limits q None P = Unit {0}
IsOfFile limits q (Some held) P = P (read_setting limits q held)

-- it is read to its end, with all that it needs: no command has a code
abbrev pub IsRead : Setting → Type 0
IsRead s = (count : ℕ) × (outcome_in s (whole_library s) ≡ Accepted count)

-- its commands
abbrev pub commands_of : Setting → List PlainCommand
commands_of s = commands_in s (whole_library s)

-- a module is due where its failed opening would be the outcome
abbrev pub IsModuleDue : Limits → RecheckRequest → Books → List ℕ → Type 0
IsModuleDue limits q held m =
    outcome_in (read_setting limits q held) (without (Some m) (whole_library (read_setting limits q held))) ≡ Unopened m

-- the last line of a report that ends so
abbrev pub last_of : RecheckRequest → Outcome → List ℕ
last_of q outcome = last_line outcome 0 (folder_of q.file)

-- ---- the certificate

-- how many bytes it may have
abbrev pub certificate_limit : Limits → ℕ
certificate_limit limits = input_limit limits

-- the byte past the limit rejects the part that is due there: behind the end of so many commands that is one more
abbrev pub past : ℕ → Answer → Answer
past commands (rechecked count) = rejected (commands + 1)
past commands (rejected number) = rejected number

-- what is answered of the bytes of a certificate
pub data IsAnswered (limits : Limits) (commands : List PlainCommand) (bytes : List ℕ) : Answer → Type 0 where
  within : (answer : Answer) → length bytes ≤ certificate_limit limits → Answers commands bytes answer → IsAnswered limits commands bytes answer
  too_long : (answer : Answer) → certificate_limit limits < length bytes → Answers commands (take (certificate_limit limits) bytes) answer
      → IsAnswered limits commands bytes (past (length commands) answer)

abbrev pub answer_line : Answer → List ℕ
answer_line (rechecked count) = word_line (codes "rechecked") count
answer_line (rejected number) = word_line (codes "rejected") number

abbrev pub answer_status : Answer → ℕ
answer_status (rechecked count) = 0
answer_status (rejected number) = 1

-- the number of the line that is due behind some bytes: one more than there are newlines
abbrev pub line_due : List ℕ → ℕ
line_due [] = 1
line_due (b ∷ bs) = (if b == 10 then 1 else 0) + line_due bs

-- a read failed while that line was due
abbrev pub unread_line : ℕ → List ℕ
unread_line number = word_line (codes "unread") number

-- where the shelf tells its books, the file is read, and this is so of its commands and of the bytes of the certificate
abbrev pub IsOfBoth : Limits → RecheckRequest → Option Books → (List PlainCommand → List ℕ → Type 0) → Type 0
IsOfBoth limits q None P = Unit {0}
IsOfBoth limits q (Some held) P =
    IsRead (read_setting limits q held) × ((bytes : List ℕ) × (book_of held q.certificate ≡ Some bytes) × P (commands_of (read_setting limits q held)) bytes)

-- so much was given of them, and this is left
abbrev pub IsGiven : List ℕ → Option (List ℕ) → List ℕ → Type 0
IsGiven given left bytes = (rest : List ℕ) × (left ≡ Some rest) × (bytes ≡ given ++ rest)

-- ---- the rows

pub data IsDue (limits : Limits) (q : RecheckRequest) (old new : ShelfState) : Cause → ℕ → List ℕ → Type 0 where
  -- what is answered of the whole certificate
  of_the_certificate : (answer : Answer) → IsOfBoth limits q old.books (λ commands bytes. IsAnswered limits commands bytes answer)
      → IsDue limits q old new books (answer_status answer) (answer_line answer)
  -- reading the file ends at a command that has a code, or at what stands where it was due
  of_a_code : (number : ℕ) → (place : Place) → (code : Code) → IsOfFile limits q old.books (λ s. outcome_in s (whole_library s) ≡ Stopped number place (verdict.Refused code))
      → IsDue limits q old new books 1 (last_of q (Stopped number place (verdict.Refused code)))
  -- a read of the file or of a module failed, and so what was given ends
  of_a_failed_read : (number : ℕ) → (place : Place) → IsOfFile limits q old.books (λ s. IsOfGiven new of_read s (λ lib. outcome_in s lib ≡ Unread number place))
      → IsDue limits q old new unread 3 (last_of q (Unread number place))
  of_a_failed_opening : LeavesBooks old new → IsDue limits q old new (unopened q.file) 3 (line.unopened q.file)
  -- a module couldn't be opened, and without it what was given ends there; so do the whole books
  of_a_missing_module : (name : List ℕ) → IsOfFile limits q old.books (λ s.
      (outcome_in s (without (Some name) (whole_library s)) ≡ Unopened name) × IsOfGiven new (of_opening name) s (λ lib. outcome_in s lib ≡ Unopened name))
      → IsDue limits q old new (unopened (book_named q.file (Some name))) 3 (last_of q (Unopened name))
  -- the file is read, and the certificate couldn't be opened
  of_no_certificate : IsOfFile limits q old.books IsRead → IsDue limits q old new (unopened q.certificate) 3 (line.unopened q.certificate)
  -- a read of the certificate failed, behind so much of it
  of_an_unread_certificate : (given : List ℕ) → length given ≤ certificate_limit limits → IsOfBoth limits q old.books (λ commands bytes. IsGiven given new.left bytes)
      → IsDue limits q old new unread 3 (unread_line (line_due given))
  of_no_memory : IsDue limits q old new memory 4 memory_at_once

-- ---- what a reader looks for

-- the words ask to recheck a file, and the shelf tells its books
pub record AsksToRecheck (request : Option Request) (told_books : Option Books) (q : RecheckRequest) (held : Books) : Type 0 where
  pub asked : request ≡ Some (to_recheck q)
  pub told_are : told_books ≡ Some held

-- what was written, and the status: what is answered of the certificate; or the code at which reading the file ends
pub data RechecksFile (limits : Limits) (q : RecheckRequest) (held : Books) (before after : Option (List ℕ)) : ℕ → Type 0 where
  as_answered : (bytes : List ℕ) → (answer : Answer) → IsRead (read_setting limits q held) → book_of held q.certificate ≡ Some bytes
      → IsAnswered limits (commands_of (read_setting limits q held)) bytes answer → after ≡ added before (answer_line answer)
      → RechecksFile limits q held before after (answer_status answer)
  as_refused : (number : ℕ) → (place : Place) → (code : Code)
      → outcome_in (read_setting limits q held) (whole_library (read_setting limits q held)) ≡ Stopped number place (verdict.Refused code)
      → after ≡ added before (last_of q (Stopped number place (verdict.Refused code))) → RechecksFile limits q held before after 1

-- the file is read with all that it needs, and each of its commands has a derivation over the entries of those before it
abbrev pub IsRecheckDerived : Limits → RecheckRequest → Books → Type 0
IsRecheckDerived limits q held = IsRead (read_setting limits q held) × HaveDerivations [] (commands_of (read_setting limits q held))

-- an opening failed, or a read, and the text that was written says which: of the file or of a module, or of the certificate
pub data HasRecheckFault (q : RecheckRequest) (old new : ShelfState) (before after : Option (List ℕ)) : Type 0 where
  of_the_file : LeavesBooks old new → Rose (old.missed q.file) (new.missed q.file) → after ≡ added before (line.unopened q.file) → HasRecheckFault q old new before after
  of_a_module : (name : List ℕ) → Rose (old.missed (book_named q.file (Some name))) (new.missed (book_named q.file (Some name)))
      → after ≡ added before (last_of q (Unopened name)) → HasRecheckFault q old new before after
  of_a_read : (number : ℕ) → (place : Place) → Rose old.faults new.faults → after ≡ added before (last_of q (Unread number place)) → HasRecheckFault q old new before after
  of_its_certificate : Rose (old.missed q.certificate) (new.missed q.certificate) → after ≡ added before (line.unopened q.certificate) → HasRecheckFault q old new before after
  of_a_read_of_it : (given : List ℕ) → Rose old.faults new.faults → after ≡ added before (unread_line (line_due given)) → HasRecheckFault q old new before after
