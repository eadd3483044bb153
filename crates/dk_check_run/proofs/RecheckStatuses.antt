-- What the rows of `recheck` say, each by the status.
use Rattle.std.proofs.Common.{◌≡◌, ◌≢◌, ◌⊎◌, inl, inr, ℕ, List, [], length, refl, subst, arith}
use Rattle.std.specs.Prelude.{Option, Some}
use Rattle.dk_io.specs.Bytes.{Books, added, book_of}
use Rattle.dk_io.specs.Causes.{Rose}
use Rattle.dk_model.specs.PlainCommands.{PlainCommand}
use Rattle.dk_model.specs.declared.code.Verdict.TheVariants as verdict
use Rattle.dk_model.specs.declared.limits.Limits.{Limits}
use Rattle.command_line.specs.Requests.{RecheckRequest}
use Rattle.verdict_book.specs.declared.outcome.Outcome.TheVariants.{Stopped, Unopened}
use Rattle.theory_walk.specs.BookNames.{book_named}
use Rattle.book_reader.specs.Shelved.{Setting, whole_library, without}
use Rattle.book_reader.specs.Shelves.{ShelfState}
use Rattle.file_check.specs.Failures.{of_opening}
use Rattle.theory_reading.specs.Reads.{outcome_in}
use Rattle.checked_steps.specs.Theories.{HaveDerivations}
use Rattle.recheck_theory.specs.Answers.{Answer, Answers, rechecked, rejected}
use Rattle.recheck_theory.specs.Laws.{RecheckedHaveDerivations}
use Rattle.dk_check_run.specs.Check.{IsOfGiven}
use Rattle.dk_check_run.specs.Recheck.{HasRecheckFault, IsAnswered, IsDue, IsModuleDue, IsOfBoth, IsOfFile, IsRead, IsRecheckDerived, RechecksFile, answer_status, as_answered, as_refused, commands_of, of_a_code, of_a_failed_opening, of_a_failed_read, of_a_missing_module, of_a_module, of_a_read, of_a_read_of_it, of_an_unread_certificate, of_its_certificate, of_no_certificate, of_no_memory, of_the_certificate, of_the_file, past, read_setting, too_long, within}
use Rattle.dk_check_run.specs.Rows.{Cause, Shows}
use Rattle.dk_check_run.specs.Run.{SinkState}
use Rattle.dk_check_run.proofs.PruneStatuses.{decided_not3}

-- what is rechecked isn't past the limit
past_rejects : (commands : ℕ) (answer : Answer) (count : ℕ) → past commands answer ≡ rechecked count → ⊥
past_rejects commands (rechecked n) count e = cc
past_rejects commands (rejected n) count e = cc

rechecked_derives : RecheckedHaveDerivations → (limits : Limits) (commands : List PlainCommand) (bytes : List ℕ) (answer : Answer) (count : ℕ) → IsAnswered limits commands bytes answer → answer ≡ rechecked count
    → HaveDerivations [] commands
rechecked_derives law limits commands bytes answer count (within a short is) e = (law commands bytes count (subst (Answers commands bytes) e is)).1
rechecked_derives law limits commands bytes answer count (too_long a long is) e = absurd (past_rejects (length commands) a count e)

module _ (limits : Limits) (q : RecheckRequest) (old new : ShelfState) (before after : SinkState) where
  -- at 3 an opening failed, or a read
  pub recheck_failed : (cause : Cause) (status : ℕ) (text : List ℕ) → IsDue limits q old new cause status text → Shows cause status old new → status ≡ 3 → after.taken ≡ added before.taken text
      → HasRecheckFault q old new before.taken after.taken
  recheck_failed cause status text (of_the_certificate answer of) shows three taken = decided_not3 shows.0 three
  recheck_failed cause status text (of_a_code number place code of) shows three taken = absurd (omega (arith, three))
  recheck_failed cause status text (of_a_failed_read number place of) shows three taken = of_a_read number place shows.1 taken
  recheck_failed cause status text (of_a_failed_opening leaves) shows three taken = of_the_file leaves shows.1 taken
  recheck_failed cause status text (of_a_missing_module name of) shows three taken = of_a_module name shows.1 taken
  recheck_failed cause status text (of_no_certificate of) shows three taken = of_its_certificate shows.1 taken
  recheck_failed cause status text (of_an_unread_certificate given short of) shows three taken = of_a_read_of_it given shows.1 taken
  recheck_failed cause status text of_no_memory shows three taken = absurd (omega (arith, three))

  module _ (held : Books) (is : old.books ≡ Some held) where
    told_file : (P : Setting → Type 0) → IsOfFile limits q old.books P → P (read_setting limits q held)
    told_file P of = subst (λ b. IsOfFile limits q b P) is of

    told_both : (P : List PlainCommand → List ℕ → Type 0) → IsOfBoth limits q old.books P
        → IsRead (read_setting limits q held) × ((bytes : List ℕ) × (book_of held q.certificate ≡ Some bytes) × P (commands_of (read_setting limits q held)) bytes)
    told_both P of = subst (λ b. IsOfBoth limits q b P) is of

    -- which opening
    abbrev pub HasMissed : Type 0
    HasMissed = Rose (old.missed q.file) (new.missed q.file)
        ⊎ (((m : List ℕ) × IsModuleDue limits q held m × Rose (old.missed (book_named q.file (Some m))) (new.missed (book_named q.file (Some m))))
        ⊎ Rose (old.missed q.certificate) (new.missed q.certificate))

    pub recheck_missed : (cause : Cause) (status : ℕ) (text : List ℕ) → IsDue limits q old new cause status text → Shows cause status old new → status ≡ 3 → Rose old.faults new.faults ⊎ HasMissed
    recheck_missed cause status text (of_the_certificate answer of) shows three = decided_not3 shows.0 three
    recheck_missed cause status text (of_a_code number place code of) shows three = absurd (omega (arith, three))
    recheck_missed cause status text (of_a_failed_read number place of) shows three = inl shows.1
    recheck_missed cause status text (of_a_failed_opening leaves) shows three = inr (inl shows.1)
    recheck_missed cause status text (of_a_missing_module name of) shows three =
        inr (inr (inl (name, (told_file (λ s. (outcome_in s (without (Some name) (whole_library s)) ≡ Unopened name) × IsOfGiven new (of_opening name) s (λ lib. outcome_in s lib ≡ Unopened name)) of).0, shows.1)))
    recheck_missed cause status text (of_no_certificate of) shows three = inr (inr (inr shows.1))
    recheck_missed cause status text (of_an_unread_certificate given short of) shows three = inl shows.1
    recheck_missed cause status text of_no_memory shows three = absurd (omega (arith, three))

    -- at 0 and 1 the row is that of the books
    pub recheck_own : (cause : Cause) (status : ℕ) (text : List ℕ) → IsDue limits q old new cause status text → Shows cause status old new → status ≢ 3 → status ≢ 4 → after.taken ≡ added before.taken text
        → RechecksFile limits q held before.taken after.taken status
    recheck_own cause status text (of_the_certificate answer of) shows not3 not4 taken =
        let b = told_both (λ commands bytes. IsAnswered limits commands bytes answer) of in
        as_answered b.1.0 answer b.0 b.1.1 b.1.2 taken
    recheck_own cause status text (of_a_code number place code of) shows not3 not4 taken =
        as_refused number place code (told_file (λ s. outcome_in s (whole_library s) ≡ Stopped number place (verdict.Refused code)) of) taken
    recheck_own cause status text (of_a_failed_read number place of) shows not3 not4 taken = absurd (not3 refl)
    recheck_own cause status text (of_a_failed_opening leaves) shows not3 not4 taken = absurd (not3 refl)
    recheck_own cause status text (of_a_missing_module name of) shows not3 not4 taken = absurd (not3 refl)
    recheck_own cause status text (of_no_certificate of) shows not3 not4 taken = absurd (not3 refl)
    recheck_own cause status text (of_an_unread_certificate given short of) shows not3 not4 taken = absurd (not3 refl)
    recheck_own cause status text of_no_memory shows not3 not4 taken = absurd (not4 refl)

-- what is so of a file that is rechecked with 0
pub rechecks_derived : RecheckedHaveDerivations → (limits : Limits) (q : RecheckRequest) (held : Books) (before after : Option (List ℕ)) (status : ℕ) → RechecksFile limits q held before after status → status ≡ 0
    → IsRecheckDerived limits q held
rechecks_derived law limits q held before after status (as_answered bytes answer read has is taken) zero = (read, by answer refl zero)
  where
    by : (a : Answer) → answer ≡ a → answer_status a ≡ 0 → HaveDerivations [] (commands_of (read_setting limits q held))
    by (rechecked count) e zero = rechecked_derives law limits (commands_of (read_setting limits q held)) bytes answer count is e
    by (rejected number) e zero = absurd (omega (arith, zero))
rechecks_derived law limits q held before after status (as_refused number place code is taken) zero = absurd (omega (arith, zero))
