-- What a certification comes to is a row of `certify`.
use Rattle.std.proofs.Common.{◌≡◌, ◌≢◌, inl, inr, ℕ, List, [], ◌++◌, map, refl, sym, ap, subst, ◌∙◌, arith}
use Rattle.std.specs.Prelude.{Err, Ok, Option, Some, None}
use Rattle.std.specs.String.{string_bytes}
use Rattle.dk_io.specs.Bytes.{Books, added}
use Rattle.dk_io.specs.Causes.{Rose}
use Rattle.dk_io.proofs.Adds.{added-added}
use Rattle.dk_io.proofs.Gather.{adds_longer, moves_stop}
use Rattle.dk_model.specs.PlainCommands.{PlainCommand}
use Rattle.dk_model.specs.Scoping.{plain_command}
use Rattle.dk_model.specs.declared.code.Code.{Code}
use Rattle.dk_model.specs.declared.code.Verdict.TheVariants as verdict
use Rattle.dk_model.specs.declared.limits.Limits.{Limits}
use Rattle.dk_model.specs.declared.scoped.Scoped.{Scoped}
use Rattle.command_line.specs.Requests.{CertifyRequest, to_certify}
use Rattle.board_core.specs.declared.event.Event.{Event}
use Rattle.board_core.specs.declared.event.Place.{Place}
use Rattle.verdict_book.specs.Report.{FileReport, PlainShown, nowhere, status_of}
use Rattle.verdict_book.specs.declared.outcome.Outcome.{Outcome}
use Rattle.verdict_book.specs.declared.outcome.Outcome.TheVariants.{Accepted, Stopped, Unopened, Unread}
use Rattle.verdict_book.specs.Stops.{StopsAtFault}
use Rattle.verdict_book.specs.declared.title.Title.{Title}
use Rattle.theory_walk.specs.declared.needs.ModuleLimits.{ModuleLimits}
use Rattle.theory_walk.specs.BookNames.{book_named}
use Rattle.book_reader.specs.declared.walker.Root.{Root}
use Rattle.book_reader.specs.Shelved.{Setting, whole_library, without}
use Rattle.book_reader.specs.Shelves.{HasHeld, ShelfState}
use Rattle.book_reader.specs.Walkers.{setting_of}
use Rattle.file_check.specs.Checks.{ChecksShelf}
use Rattle.file_check.specs.Counts.{CountsAt, EndsOn}
use Rattle.file_check.specs.Failures.{of_opening, of_read}
use Rattle.theory_reading.specs.declared.reading.ReadingEnd.{ReadingEnd}
use Rattle.theory_reading.specs.declared.reading.ReadingEnd.TheVariants as end
use Rattle.theory_reading.specs.Reads.{CountsReading, ReadsBooks, commands_in, outcome_in}
use Rattle.accepted_theory.specs.Laws.{AcceptedAreRead, GivesAccepted}
use Rattle.certificate_items.specs.Texts.{AreShort, lines_text}
use Rattle.checked_steps.specs.Items.{Item}
use Rattle.checked_steps.specs.Certificates.{IsCertificate}
use Rattle.checked_steps.specs.Laws.{AreAccepted}
use Rattle.recheck_theory.specs.Laws.{certificate_lines}
use Rattle.certify_theory.proofs.Lines.{certificate_whole}
use Rattle.certify_theory.specs.Ends.{EndsBy, RisesWhereFailed, TakesCertificate, TakesFront, TakesParts, of_all, of_parts}
use Rattle.certify_theory.specs.declared.fault.CertifyFault.{CertifyFault}
use Rattle.certify_theory.specs.declared.fault.CertifyFault.TheVariants as fault
use Rattle.certify_theory.specs.Parts.{first_lines}
use Rattle.dk_check_run.specs.Books.{IsOfBooks, standard_modules}
use Rattle.dk_check_run.specs.Certify as certify
use Rattle.dk_check_run.specs.Certify.{IsAccepted, IsCertificateText, IsFrontText, IsOfAccepted, checked, file_setting, last_of}
use Rattle.dk_check_run.specs.Certifying.{PutsCertificate, WasAccepted}
use Rattle.dk_check_run.specs.Check as check
use Rattle.dk_check_run.specs.Check.{IsOfGiven}
use Rattle.dk_check_run.specs.Recheck.{commands_of}
use Rattle.dk_check_run.specs.Rechecking.{PutsEnd}
use Rattle.dk_check_run.specs.Roots.{IsRootOf}
use Rattle.dk_check_run.specs.Rows.{books, unread, unopened, memory}
use Rattle.dk_check_run.specs.Run.{LeavesBooks, SinkState, Writes, memory_at_once}
use Rattle.dk_check_run.specs.Run as line
use Rattle.dk_check_run.specs.Table.{RunsCommand}
use Rattle.dk_check_run.proofs.CheckRows as checking
use Rattle.dk_check_run.proofs.Settings.{fold_is, root_setting}

-- ---- what is written of commands

whole_text : (commands : List PlainCommand) (parts : List (List Item)) → IsCertificate commands parts → AreShort (certificate_lines parts) → IsCertificateText commands (lines_text (certificate_lines parts))
whole_text commands parts certificate short = record { parts = parts; certificate = certificate; short = subst AreShort (certificate_whole parts) short; text_is = ap lines_text (certificate_whole parts) }

module _ (commands : List PlainCommand) (before after : SinkState) where
  -- the certificate was taken whole
  pub all_puts : TakesCertificate commands before.taken after.taken → after.faults ≡ before.faults → PutsCertificate commands before after 0
  all_puts taken stands = inl (
    lines_text (certificate_lines taken.parts),
    whole_text commands taken.parts taken.certificate taken.short,
    record {
      known = inl refl;
      whole = λ _. taken.taken;
      held = λ _. stands;
      failed = λ five. absurd (omega (arith, five));
      front = λ five. absurd (omega (arith, five));
    },
  )

  -- the sink failed
  pub front_puts : TakesFront commands before.taken after.taken → Rose before.faults after.faults → PutsCertificate commands before after 5
  front_puts (of_parts parts firsts some) rose = inr (
    lines_text (first_lines parts),
    record { parts = parts; firsts = firsts; text_is = refl },
    record {
      known = inr refl;
      whole = λ not. absurd (not refl);
      held = λ not. absurd (not refl);
      failed = λ _. rose;
      front = λ _. adds_longer before.taken after.taken (lines_text (first_lines parts)) memory_at_once some;
    },
  )
  front_puts (of_all parts certificate short some) rose = inl (
    lines_text (certificate_lines parts),
    whole_text commands parts certificate short,
    record {
      known = inr refl;
      whole = λ not. absurd (not refl);
      held = λ not. absurd (not refl);
      failed = λ _. rose;
      front = λ _. some;
    },
  )

-- some first parts were taken, and then it was written that memory ended
pub parts_put : (commands : List PlainCommand) (number : ℕ) (before middle after : SinkState) (result : ℕ) → TakesParts commands number before.taken middle.taken → middle.faults ≡ before.faults
    → Writes middle after memory_at_once 4 result → PutsCertificate commands before after result
parts_put commands number before middle after result taken stands w = inr (
  lines_text (first_lines taken.parts),
  record { parts = taken.parts; firsts = taken.firsts; text_is = refl },
  record {
    known = w.known;
    whole = λ not. w.whole not ∙ ap (λ o. added o memory_at_once) taken.taken ∙ added-added before.taken (lines_text (first_lines taken.parts)) memory_at_once;
    held = λ not. w.held not ∙ stands;
    failed = λ five. subst (λ n. Rose n after.faults) stands (w.failed five);
    front = λ five. moves_stop {a = before.taken} {b = middle.taken} {c = after.taken} {w = lines_text (first_lines taken.parts)} {x = memory_at_once} {s = memory_at_once}
        (record { front = lines_text (first_lines taken.parts); parts = refl; taken = taken.taken }) (w.front five);
  },
)

-- the same where a fault tells it
module _ (budget : ℕ) (commands : List PlainCommand) (before middle : SinkState) (f : CertifyFault) (ends : EndsBy budget commands before.taken middle.taken f) (rises : RisesWhereFailed before.faults middle.faults (Err f)) where
  pub failed_put : f ≡ fault.Failed → PutsCertificate commands before middle 5
  failed_put is = front_puts commands before middle (subst (EndsBy budget commands before.taken middle.taken) is ends) (subst (λ e. RisesWhereFailed before.faults middle.faults (Err e)) is rises)

  module _ (number : ℕ) (after : SinkState) (result : ℕ) where
    pub memory_put : f ≡ fault.NoMemory number → Writes middle after memory_at_once 4 result → PutsCertificate commands before after result
    memory_put is w = parts_put commands number before middle after result (subst (EndsBy budget commands before.taken middle.taken) is ends) (subst (λ e. RisesWhereFailed before.faults middle.faults (Err e)) is rises) w

    pub other_put : f ≡ fault.NotAccepted number → Writes middle after memory_at_once 4 result → PutsCertificate commands before after result
    other_put is w =
        let p : (¬ AreAccepted budget [] commands) × TakesParts commands number before.taken middle.taken = subst (EndsBy budget commands before.taken middle.taken) is ends in
        parts_put commands number before middle after result p.1 (subst (λ e. RisesWhereFailed before.faults middle.faults (Err e)) is rises) w

-- ---- what is written of a check

-- the status of what isn't accepted isn't 0
pub not_zero : (o : Outcome) → ((count : ℕ) → o ≡ Accepted count → ⊥) → StopsAtFault o → status_of o ≢ 0
not_zero (Accepted count) not fault e = not count refl
not_zero (Unread number place) not fault e = absurd (omega (arith, e))
not_zero (Unopened m) not fault e = absurd (omega (arith, e))
not_zero (Stopped number place verdict.Accepted) not fault e = fault refl
not_zero (Stopped number place (verdict.Refused code)) not fault e = absurd (omega (arith, e))
not_zero (Stopped number place verdict.Ended) not fault e = absurd (omega (arith, e))
not_zero (Stopped number place verdict.Memory) not fault e = absurd (omega (arith, e))

abbrev pub put : CertifyRequest → List PlainShown → Outcome → List ℕ
put q = λ lines outcome. last_of q outcome

pub begins : (q : CertifyRequest) → put q [] (Stopped 0 nowhere verdict.Memory) ≡ memory_at_once
begins q = refl

-- ---- rows

module _ (limits : Limits) (q : CertifyRequest) (old new : ShelfState) (before after : SinkState) (result : ℕ) where
  -- a row of `certify` was written
  abbrev pub Row : Type 0
  Row = RunsCommand limits (to_certify q) old new before after result

  pub no_memory_row : Writes before after memory_at_once 4 result → Row
  no_memory_row w = record {
    cause = memory;
    status = 4;
    text = memory_at_once;
    row = certify.of_the_check memory 4 memory_at_once (λ e. absurd (omega (arith, e))) check.of_no_memory;
    shows = refl;
    writes = w;
  }

  -- a row of the check, which didn't accept
  pub check_row : (r : checking.Row limits (checked q) (put q) (begins q) old new before after result) → r.status ≢ 0 → Row
  check_row r not = record { cause = r.cause; status = r.status; text = r.text; row = certify.of_the_check r.cause r.status r.text not r.row; shows = r.shows; writes = r.writes }

  pub missed_row : LeavesBooks old new → Rose (old.missed q.file) (new.missed q.file) → Writes before after (line.unopened q.file) 3 result → Row
  missed_row leaves rose w = record {
    cause = unopened q.file;
    status = 3;
    text = line.unopened q.file;
    row = certify.of_the_check (unopened q.file) 3 (line.unopened q.file) (λ e. absurd (omega (arith, e))) (check.of_a_failed_opening leaves);
    shows = (refl, rose);
    writes = w;
  }

  -- what is so where the file was accepted
  of_accepted : (told : Option Books) (P : Setting → Type 0) → ((held : Books) → told ≡ Some held → IsAccepted q (file_setting limits q held) × P (file_setting limits q held)) → IsOfAccepted limits q told P
  of_accepted None P f = tt
  of_accepted (Some held) P f = f held refl

  module _ (middle : ShelfState) (was : WasAccepted limits q old middle) (root : Root) (root_is : IsRootOf limits standard_modules q.file root) where
    in_setting : (P : Setting → Type 0) (held : Books) → P (setting_of root held) → P (file_setting limits q held)
    in_setting P held p = subst P (root_setting limits standard_modules q.file root held root_is) p

    -- the same of what is read again
    again : (P : Setting → Type 0) → ((held : Books) → old.books ≡ Some held → P (setting_of root held)) → IsOfAccepted limits q old.books P
    again P f = of_accepted old.books P (λ held told. (was.accepted held told, in_setting P held (f held told)))

    -- no command of an accepted file has a code
    none_refused : AcceptedAreRead → (held : Books) → old.books ≡ Some held → (number : ℕ) (place : Place) (code : Code) → ReadsBooks (setting_of root held) new (Err (end.Refused number place code)) → ⊥
    none_refused law held told number place code reads =
        let accepted = was.accepted held told in
        let none : GivesAccepted q.budget accepted.0 (Err (end.Refused number place code)) = law (file_setting limits q held) q.budget accepted.0 new (Err (end.Refused number place code)) accepted.1 (in_setting (λ s. ReadsBooks s new (Err (end.Refused number place code))) held reads) in
        none

    -- the commands weren't read to their end
    pub end_row : AcceptedAreRead → (e : ReadingEnd) → ((held : Books) → middle.books ≡ Some held → ReadsBooks (setting_of root held) new (Err e)) → CountsReading (book_named (string_bytes root.file)) middle new (Err e)
        → PutsEnd before after q.file e result → Row
    end_row law (end.Refused number place code) reads counts w = record {
      cause = books;
      status = 1;
      text = last_of q (Stopped number place (verdict.Refused code));
      row = certify.of_the_check books 1 (last_of q (Stopped number place (verdict.Refused code))) (λ e. absurd (omega (arith, e)))
          (check.of_the_books (record { lines = []; outcome = Stopped number place (verdict.Refused code) }) (by old.books refl));
      shows = (inr (inl refl), record { faults = counts.faults ∙ was.held.faults; missed = λ name. counts.missed name ∙ was.held.missed name });
      writes = w;
    }
      where
        by : (told : Option Books) → old.books ≡ told → IsOfBooks limits (checked q) told (λ s. check.IsReport (checked q) (record { lines = []; outcome = Stopped number place (verdict.Refused code) }) s (whole_library s))
        by None told = tt
        by (Some held) told = absurd (none_refused law held told number place code (reads held (was.books ∙ told)))
    end_row law (end.Unread number place) reads counts w = record {
      cause = unread;
      status = 3;
      text = last_of q (Unread number place);
      row = certify.of_a_later_read number place (again (λ s. IsOfGiven new of_read s (λ lib. outcome_in s lib ≡ Unread number place)) (λ held told. reads held (was.books ∙ told)));
      shows = (refl, subst (λ n. Rose n new.faults) was.held.faults counts);
      writes = w;
    }
    end_row law (end.Unopened name) reads counts w = record {
      cause = unopened (book_named q.file (Some name));
      status = 3;
      text = last_of q (Unopened name);
      row = certify.of_a_later_module name (again (λ s. (outcome_in s (without (Some name) (whole_library s)) ≡ Unopened name) × IsOfGiven new (of_opening name) s (λ lib. outcome_in s lib ≡ Unopened name))
          (λ held told. reads held (was.books ∙ told)));
      shows = (
        refl,
        subst (λ n. Rose n (new.missed (book_named q.file (Some name)))) (was.held.missed (book_named q.file (Some name)))
            (subst (λ f. Rose (middle.missed (book_named f (Some name))) (new.missed (book_named f (Some name)))) root_is.file_is counts),
      );
      writes = w;
    }
    end_row law end.NoFile reads counts w = record {
      cause = unopened q.file;
      status = 3;
      text = line.unopened q.file;
      row = certify.of_a_later_opening (again (λ s. Unit {0}) (λ held told. tt));
      shows = (refl, subst (λ n. Rose n (new.missed q.file)) (was.held.missed q.file) (subst (λ f. Rose (middle.missed f) (new.missed f)) root_is.file_is counts));
      writes = w;
    }
    end_row law end.NoMemory reads counts w = no_memory_row w

    -- they were
    pub certificate_row : (commands : List Scoped) → ((held : Books) → middle.books ≡ Some held → ReadsBooks (setting_of root held) new (Ok commands)) → HasHeld middle new
        → PutsCertificate (map plain_command commands) before after result → Row
    certificate_row commands reads held puts = by puts
      where
        -- what is so of them
        of_commands : (P : List PlainCommand → Type 0) → P (map plain_command commands) → IsOfAccepted limits q old.books (λ s. P (commands_of s))
        of_commands P p = of_accepted old.books (λ s. P (commands_of s)) (λ there told. (
          was.accepted there told,
          subst (λ (cs : List PlainCommand). P cs) (sym (in_setting (λ s. commands_in s (whole_library s) ≡ map plain_command commands) there (reads there (was.books ∙ told)).1)) p,
        ))

        by : PutsCertificate (map plain_command commands) before after result → Row
        by (inl (text, is, w)) = record {
          cause = books;
          status = 0;
          text = text;
          row = certify.of_the_certificate text (of_commands (λ cs. IsCertificateText cs text) is);
          shows = (inl refl, record { faults = held.faults ∙ was.held.faults; missed = λ name. held.missed name ∙ was.held.missed name });
          writes = w;
        }
        by (inr (front, is, w)) = record {
          cause = memory;
          status = 4;
          text = front ++ memory_at_once;
          row = certify.of_memory front (of_commands (λ cs. IsFrontText cs front) is);
          shows = refl;
          writes = w;
        }

-- ---- the check

module _ (limits : Limits) (q : CertifyRequest) (most : ModuleLimits) (root : Root) (is : IsRootOf limits most q.file root) (standard : most ≡ standard_modules) (old new : ShelfState) (titles : List Title) (events : List Event) (checks : ChecksShelf root q.budget old new titles events) where
  -- the file was accepted
  pub was_accepted : (count : ℕ) → checks.report.outcome ≡ Accepted count → WasAccepted limits q old new
  was_accepted count accepted = record {
    books = checks.books;
    held = subst (CountsAt (book_named (string_bytes root.file)) old new) accepted checks.counts;
    accepted = λ held told. (
      count,
      let ends : EndsOn (file_setting limits q held) q.budget old new checks.report.lines (Accepted count) =
          subst (EndsOn (file_setting limits q held) q.budget old new checks.report.lines) accepted
          (checking.checked_ends limits (checked q) (put q) (begins q) most root is standard old new (record { taken = None; faults = 0 }) (record { taken = None; faults = 0 }) 0 titles events checks held told) in
          ap (λ (r : FileReport). r.outcome) (fold_is (file_setting limits q held) q.budget (whole_library (file_setting limits q held)) ∙ ends.0),
    );
  }

  -- or it wasn't
  pub other_row : (before after : SinkState) (result : ℕ) → (status_of checks.report.outcome ≢ 0) × Writes before after (last_of q checks.report.outcome) (status_of checks.report.outcome) result
      → RunsCommand limits (to_certify q) old new before after result
  other_row before after result (not, w) =
      let due = checking.checked_row limits (checked q) (put q) (begins q) most root is standard old new before after result titles events checks w in
      check_row limits q old new before after result due.0 (λ e. not (sym due.1 ∙ e))
