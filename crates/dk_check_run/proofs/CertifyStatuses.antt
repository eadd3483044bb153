-- What the rows of `certify` say, each by the status.
use Rattle.std.proofs.Common.{◌≡◌, ◌≢◌, ◌⊎◌, inl, inr, ℕ, List, [], length, refl, sym, ap, subst, ◌∙◌, arith}
use Rattle.std.specs.Prelude.{Option, None, Some}
use Rattle.dk_io.specs.Bytes.{Books, added}
use Rattle.dk_io.specs.Causes.{Rose}
use Rattle.dk_model.specs.PlainCommands.{PlainCommand}
use Rattle.dk_model.specs.declared.code.Verdict.{Verdict}
use Rattle.dk_model.specs.declared.code.Verdict.TheVariants as verdict
use Rattle.dk_model.specs.declared.limits.Limits.{Limits}
use Rattle.command_line.specs.Requests.{CertifyRequest}
use Rattle.verdict_book.specs.Report.{status_of}
use Rattle.verdict_book.specs.declared.outcome.Outcome.{Outcome}
use Rattle.verdict_book.specs.declared.outcome.Outcome.TheVariants.{Accepted, Stopped, Unopened, Unread}
use Rattle.theory_walk.specs.BookNames.{book_named}
use Rattle.theory_walk.specs.Libraries.{Key}
use Rattle.book_reader.specs.Shelved.{Setting, whole_library, without}
use Rattle.book_reader.specs.Shelves.{ShelfState}
use Rattle.file_check.specs.Failures.{of_opening}
use Rattle.theory_reading.specs.Reads.{outcome_in}
use Rattle.accepted_theory.specs.Laws.{ReportedAreRead}
use Rattle.recheck_theory.specs.Answers.{Answers, rechecked}
use Rattle.certificate_items.specs.Texts.{AreShort, lines_text}
use Rattle.certify_theory.proofs.Lines.{certificate_whole}
use Rattle.certify_theory.specs.Laws.{CertifiedIsRechecked}
use Rattle.dk_check_run.specs.Books.{report_for}
use Rattle.dk_check_run.specs.Certify.{CertifiesFile, HasCertifyFault, IsAccepted, IsCertificateText, IsDue, IsOfAccepted, IsOpeningDue, IsRecheckedWhole, as_certified, as_reported, checked, file_setting, last_of, of_a_later_module, of_a_later_opening, of_a_later_read, of_a_module, of_a_read, of_memory, of_the_certificate, of_the_check, of_the_file}
use Rattle.dk_check_run.specs.Check as check
use Rattle.dk_check_run.specs.Check.{IsOfGiven}
use Rattle.dk_check_run.specs.Recheck.{commands_of, within}
use Rattle.dk_check_run.specs.Rows.{Cause, Shows}
use Rattle.dk_check_run.specs.Run.{SinkState}
use Rattle.dk_check_run.proofs.CertifyRows.{put}
use Rattle.dk_check_run.proofs.CheckStatuses.{check_own, failed_due}
use Rattle.dk_check_run.proofs.PruneStatuses.{decided_not3, stopped_not3}

module _ (limits : Limits) (q : CertifyRequest) (old new : ShelfState) (before after : SinkState) where
  -- the same of a row of the check
  check_failed : (cause : Cause) (status : ℕ) (text : List ℕ) → check.IsDue limits (checked q) (put q) old new cause status text → Shows cause status old new → status ≡ 3 → after.taken ≡ added before.taken text
      → HasCertifyFault q old new before.taken after.taken
  check_failed cause status text (check.of_the_books r of) shows three taken = decided_not3 shows.0 three
  check_failed cause status text (check.of_the_given r number place v failure outcome_is counted of) shows three taken = stopped_not3 shows.0 three
  check_failed cause status text (check.of_a_failed_read r number place unread_is of) shows three taken = of_a_read number place shows.1 (taken ∙ ap (λ o. added before.taken (last_of q o)) unread_is)
  check_failed cause status text (check.of_a_failed_opening leaves) shows three taken = of_the_file shows.1 taken
  check_failed cause status text (check.of_a_missing_module r name missing_is of) shows three taken = of_a_module name shows.1 (taken ∙ ap (λ o. added before.taken (last_of q o)) missing_is)
  check_failed cause status text (check.of_memory lines number place of) shows three taken = absurd (omega (arith, three))
  check_failed cause status text check.of_no_memory shows three taken = absurd (omega (arith, three))

  -- at 3 an opening failed, or a read
  pub certify_failed : (cause : Cause) (status : ℕ) (text : List ℕ) → IsDue limits q old new cause status text → Shows cause status old new → status ≡ 3 → after.taken ≡ added before.taken text
      → HasCertifyFault q old new before.taken after.taken
  certify_failed cause status text (of_the_certificate t of) shows three taken = absurd (omega (arith, three))
  certify_failed cause status text (of_the_check c s t not row) shows three taken = check_failed cause status text row shows three taken
  certify_failed cause status text (of_a_later_read number place of) shows three taken = of_a_read number place shows.1 taken
  certify_failed cause status text (of_a_later_opening of) shows three taken = of_the_file shows.1 taken
  certify_failed cause status text (of_a_later_module name of) shows three taken = of_a_module name shows.1 taken
  certify_failed cause status text (of_memory front of) shows three taken = absurd (omega (arith, three))

  module _ (held : Books) (is : old.books ≡ Some held) where
    abbrev s : Setting
    s = file_setting limits q held

    told_file : (P : Setting → Type 0) → IsOfAccepted limits q old.books P → IsAccepted q s × P s
    told_file P of = subst (λ b. IsOfAccepted limits q b P) is of

    -- which opening
    pub certify_missed : (cause : Cause) (status : ℕ) (text : List ℕ) → IsDue limits q old new cause status text → Shows cause status old new → status ≡ 3
        → Rose old.faults new.faults ⊎ ((book : Key) × IsOpeningDue limits q held book × Rose (old.missed (book_named q.file book)) (new.missed (book_named q.file book)))
    certify_missed cause status text (of_the_certificate t of) shows three = absurd (omega (arith, three))
    certify_missed cause status text (of_the_check c st t not row) shows three = elim (failed_due limits (checked q) (put q) held old new is cause status text row shows three) [
      | inl rose ↦ inl rose
      | inr m ↦ inr (m.0, inl m.1, m.2)
    ]
    certify_missed cause status text (of_a_later_read number place of) shows three = inl shows.1
    certify_missed cause status text (of_a_later_opening of) shows three = inr (None, inr refl, shows.1)
    certify_missed cause status text (of_a_later_module name of) shows three =
        inr (Some name, inr (told_file (λ s. (outcome_in s (without (Some name) (whole_library s)) ≡ Unopened name) × IsOfGiven new (of_opening name) s (λ lib. outcome_in s lib ≡ Unopened name)) of).1.0, shows.1)
    certify_missed cause status text (of_memory front of) shows three = absurd (omega (arith, three))

    -- a report that ends in none of these statuses ends at a command
    reported : (o : Outcome) → (report_for limits (checked q) held).outcome ≡ o → status_of o ≢ 0 → status_of o ≢ 3 → after.taken ≡ added before.taken (last_of q o)
        → CertifiesFile limits q held before.taken after.taken (status_of o)
    reported (Accepted count) e not0 not3 taken = absurd (not0 refl)
    reported (Unread number place) e not0 not3 taken = absurd (not3 refl)
    reported (Unopened m) e not0 not3 taken = absurd (not3 refl)
    reported (Stopped number place v) e not0 not3 taken = as_reported number place v e (λ a. not0 (ap (λ (w : Verdict). status_of (Stopped number place w)) a)) taken

    -- at 0, 1 and 6 the row is that of the books
    pub certify_own : (cause : Cause) (status : ℕ) (text : List ℕ) → IsDue limits q old new cause status text → Shows cause status old new → status ≢ 3 → status ≢ 4 → after.taken ≡ added before.taken text
        → CertifiesFile limits q held before.taken after.taken status
    certify_own cause status text (of_the_certificate t of) shows not3 not4 taken =
        let f = told_file (λ s. IsCertificateText (commands_of s) t) of in
        as_certified t f.0 f.1 taken
    certify_own cause status text (of_the_check c st t not row) shows not3 not4 taken =
        let own = check_own limits (checked q) (put q) held old new is cause status text row shows not3 not4 in
        subst (CertifiesFile limits q held before.taken after.taken) (sym own.0)
        (reported (report_for limits (checked q) held).outcome refl (λ e. not (own.0 ∙ e)) (λ e. not3 (own.0 ∙ e)) (taken ∙ ap (added before.taken) own.1))
    certify_own cause status text (of_a_later_read number place of) shows not3 not4 taken = absurd (not3 refl)
    certify_own cause status text (of_a_later_opening of) shows not3 not4 taken = absurd (not3 refl)
    certify_own cause status text (of_a_later_module name of) shows not3 not4 taken = absurd (not3 refl)
    certify_own cause status text (of_memory front of) shows not3 not4 taken = absurd (not4 refl)

-- ---- what is certified is rechecked

-- the text alone
text_rechecked : CertifiedIsRechecked → (commands : List PlainCommand) (text : List ℕ) → IsCertificateText commands text → Answers commands text (rechecked (length commands))
text_rechecked law commands text is =
    let lines_are = sym (certificate_whole is.parts) in
    let taken = law commands (Some []) (Some text) (record { parts = is.parts; certificate = is.certificate; short = subst AreShort lines_are is.short; taken = ap Some (is.text_is ∙ ap lines_text lines_are) }) in
    subst (λ (t : List ℕ). Answers commands t (rechecked (length commands))) (some_is taken.0 text (sym taken.1)) taken.2
  where
    some_is : (a b : List ℕ) → Some a ≡ Some b → a ≡ b
    some_is a b e = cc

pub rechecks_whole : ReportedAreRead → CertifiedIsRechecked → (limits : Limits) (q : CertifyRequest) (held : Books) (before after : Option (List ℕ)) (status : ℕ) → CertifiesFile limits q held before after status → status ≡ 0
    → IsRecheckedWhole limits q held before after
rechecks_whole read law limits q held before after status (as_certified text accepted is taken) zero = record {
  text = text;
  taken = taken;
  read = (accepted.0, read (file_setting limits q held) q.budget (whole_library (file_setting limits q held)) accepted.0 accepted.1);
  answered = λ short. within (rechecked (length (commands_of (file_setting limits q held)))) short (text_rechecked law (commands_of (file_setting limits q held)) text is);
}
rechecks_whole read law limits q held before after status (as_reported number place v e fault taken) zero = absurd (fault (by v zero))
  where
    by : (v : Verdict) → status_of (Stopped number place v) ≡ 0 → v ≡ verdict.Accepted
    by verdict.Accepted zero = refl
    by (verdict.Refused code) zero = absurd (omega (arith, zero))
    by verdict.Ended zero = absurd (omega (arith, zero))
    by verdict.Memory zero = absurd (omega (arith, zero))
