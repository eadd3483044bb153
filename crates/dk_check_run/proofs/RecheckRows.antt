-- What a recheck comes to is a row of `recheck`.
use Rattle.std.proofs.Common.{◌≡◌, ◌≢◌, inl, inr, ℕ, List, ◌++◌, length, length-append, map, refl, sym, ap, subst, ◌∙◌, arith}
use Rattle.std.specs.Prelude.{Err, Ok, Option, Some, None}
use Rattle.std.specs.String.{string_bytes}
use Rattle.std.proofs.lemmas.List.{take-append-le}
use Rattle.dk_io.specs.Bytes.{Books}
use Rattle.dk_io.specs.Causes.{Rose}
use Rattle.dk_model.specs.PlainCommands.{PlainCommand}
use Rattle.dk_model.specs.Scoping.{plain_command}
use Rattle.dk_model.specs.declared.code.Verdict.TheVariants as verdict
use Rattle.dk_model.specs.declared.limits.Limits.{Limits}
use Rattle.dk_model.specs.declared.scoped.Scoped.{Scoped}
use Rattle.command_line.specs.Requests.{RecheckRequest, to_recheck}
use Rattle.verdict_book.specs.declared.outcome.Outcome.TheVariants.{Accepted, Stopped, Unopened, Unread}
use Rattle.theory_walk.specs.BookNames.{book_named}
use Rattle.book_reader.specs.declared.walker.Root.{Root}
use Rattle.book_reader.specs.Shelved.{Setting, whole_library, without}
use Rattle.book_reader.specs.Shelves.{HasHeld, ShelfState}
use Rattle.book_reader.specs.Walkers.{setting_of}
use Rattle.file_check.specs.Failures.{of_opening, of_read}
use Rattle.theory_reading.specs.declared.reading.ReadingEnd.{ReadingEnd}
use Rattle.theory_reading.specs.declared.reading.ReadingEnd.TheVariants as end
use Rattle.theory_reading.specs.Reads.{CountsReading, KeepsUnopened, ReadsBooks, commands_in, outcome_in}
use Rattle.recheck_theory.specs.Answers.{Answer, Answers, rechecked, rejected}
use Rattle.dk_check_run.specs.Books.{standard_modules}
use Rattle.dk_check_run.specs.Check.{IsOfGiven}
use Rattle.dk_check_run.specs.Held.{EndsGiving, FitsGiving, rest_of}
use Rattle.dk_check_run.specs.Recheck as recheck
use Rattle.dk_check_run.specs.Recheck.{IsAnswered, IsOfBoth, IsOfFile, IsRead, answer_line, answer_status, certificate_limit, commands_of, last_of, line_due, past, read_setting, too_long, unread_line, within}
use Rattle.dk_check_run.specs.Rechecking.{GivesAnswer, PutsEnd}
use Rattle.dk_check_run.specs.Roots.{IsRootOf}
use Rattle.dk_check_run.specs.Rows.{books, unread, unopened, memory}
use Rattle.dk_check_run.specs.Run.{IsDecided, SinkState, Writes, memory_at_once}
use Rattle.dk_check_run.specs.Run as line
use Rattle.dk_check_run.specs.Table.{RunsCommand}
use Rattle.dk_check_run.specs.declared.held.Giving.{Giving}
use Rattle.dk_check_run.specs.declared.held.Giving.TheVariants as giving
use Rattle.dk_check_run.proofs.PruneRows.{IsGiven, no_more}
use Rattle.dk_check_run.proofs.Settings.{root_setting}

module _ (limits : Limits) (q : RecheckRequest) (old new : ShelfState) (before after : SinkState) (result : ℕ) where
  -- a row of `recheck` was written
  abbrev pub Row : Type 0
  Row = RunsCommand limits (to_recheck q) old new before after result

  pub no_memory_row : Writes before after memory_at_once 4 result → Row
  no_memory_row w = record { cause = memory; status = 4; text = memory_at_once; row = recheck.of_no_memory; shows = refl; writes = w }

  of_file : (told : Option Books) (P : Setting → Type 0) → ((held : Books) → told ≡ Some held → P (read_setting limits q held)) → IsOfFile limits q told P
  of_file None P f = tt
  of_file (Some held) P f = f held refl

  module _ (root : Root) (root_is : IsRootOf limits standard_modules q.file root) where
    in_setting : (P : Setting → Type 0) (held : Books) → P (setting_of root held) → P (read_setting limits q held)
    in_setting P held p = subst P (root_setting limits standard_modules q.file root held root_is) p

    -- the file wasn't read to its end
    pub end_row : (e : ReadingEnd) → ((held : Books) → old.books ≡ Some held → ReadsBooks (setting_of root held) new (Err e)) → CountsReading (book_named (string_bytes root.file)) old new (Err e)
        → KeepsUnopened old new e → PutsEnd before after q.file e result → Row
    end_row (end.Refused number place code) reads counts keeps w = record {
      cause = books;
      status = 1;
      text = last_of q (Stopped number place (verdict.Refused code));
      row = recheck.of_a_code number place code
          (of_file old.books _ (λ held told. in_setting (λ s. outcome_in s (whole_library s) ≡ Stopped number place (verdict.Refused code)) held (reads held told)));
      shows = (inr (inl refl), counts);
      writes = w;
    }
    end_row (end.Unread number place) reads counts keeps w = record {
      cause = unread;
      status = 3;
      text = last_of q (Unread number place);
      row = recheck.of_a_failed_read number place
          (of_file old.books _ (λ held told. in_setting (λ s. IsOfGiven new of_read s (λ lib. outcome_in s lib ≡ Unread number place)) held (reads held told)));
      shows = (refl, counts);
      writes = w;
    }
    end_row (end.Unopened name) reads counts keeps w = record {
      cause = unopened (book_named q.file (Some name));
      status = 3;
      text = last_of q (Unopened name);
      row = recheck.of_a_missing_module name
          (of_file old.books _ (λ held told. in_setting (λ s. (outcome_in s (without (Some name) (whole_library s)) ≡ Unopened name) × IsOfGiven new (of_opening name) s (λ lib. outcome_in s lib ≡ Unopened name)) held (reads held told)));
      shows = (refl, subst (λ f. Rose (old.missed (book_named f (Some name))) (new.missed (book_named f (Some name)))) root_is.file_is counts);
      writes = w;
    }
    end_row end.NoFile reads counts keeps w = record {
      cause = unopened q.file;
      status = 3;
      text = line.unopened q.file;
      row = recheck.of_a_failed_opening (record { left = keeps.0; aside = keeps.1; is_open = keeps.2 });
      shows = (refl, subst (λ f. Rose (old.missed f) (new.missed f)) root_is.file_is counts);
      writes = w;
    }
    end_row end.NoMemory reads counts keeps w = no_memory_row w

    -- the file was read
    module _ (middle : ShelfState) (commands : List Scoped) (reads : (held : Books) → old.books ≡ Some held → ReadsBooks (setting_of root held) middle (Ok commands)) (so_far : HasHeld old middle) where
      is_read : (held : Books) → old.books ≡ Some held → IsRead (read_setting limits q held)
      is_read held told = (length commands, in_setting (λ s. outcome_in s (whole_library s) ≡ Accepted (length commands)) held (reads held told).0)

      commands_are : (held : Books) → old.books ≡ Some held → commands_of (read_setting limits q held) ≡ map plain_command commands
      commands_are held told = in_setting (λ s. commands_in s (whole_library s) ≡ map plain_command commands) held (reads held told).1

      pub missing_row : Rose (middle.missed q.certificate) (new.missed q.certificate) → Writes before after (line.unopened q.certificate) 3 result → Row
      missing_row rose w = record {
        cause = unopened q.certificate;
        status = 3;
        text = line.unopened q.certificate;
        row = recheck.of_no_certificate (of_file old.books IsRead is_read);
        shows = (refl, subst (λ n. Rose n (new.missed q.certificate)) (so_far.missed q.certificate) rose);
        writes = w;
      }

      -- and so much of the certificate was given
      module _ (bytes : List ℕ) (how : Giving) (g : IsGiven q.certificate middle new bytes how) (same : middle.books ≡ old.books) where
        abbrev rest : List ℕ
        rest = rest_of how new.left

        of_both : (P : List PlainCommand → List ℕ → Type 0) → ((held : Books) → old.books ≡ Some held → P (map plain_command commands) (bytes ++ rest)) → IsOfBoth limits q old.books P
        of_both P p = by old.books refl
          where
            by : (told : Option Books) → old.books ≡ told → IsOfBoth limits q told P
            by None e = tt
            by (Some held) e = (
              is_read held e,
              (bytes ++ rest, g.book held (same ∙ e), subst (λ (cs : List PlainCommand). P cs (bytes ++ rest)) (sym (commands_are held e)) (p held e)),
            )

        pub unread_row : how ≡ giving.Failed → FitsGiving (certificate_limit limits) bytes how → Writes before after (unread_line (line_due bytes)) 3 result → Row
        unread_row e fits w = record {
          cause = unread;
          status = 3;
          text = unread_line (line_due bytes);
          row = recheck.of_an_unread_certificate bytes (subst (FitsGiving (certificate_limit limits) bytes) e fits)
              (of_both (λ cs all. recheck.IsGiven bytes new.left all) (λ held told. (rest, g.left held (same ∙ told), refl)));
          shows = (refl, subst (λ n. Rose n new.faults) so_far.faults (subst (λ h. EndsGiving h middle new) e g.ends));
          writes = w;
        }

        decided : (answer : Answer) → IsDecided (answer_status answer)
        decided (rechecked count) = inl refl
        decided (rejected number) = inr (inl refl)

        own_row : (answer : Answer) → HasHeld middle new → IsAnswered limits (map plain_command commands) (bytes ++ rest) answer → Writes before after (answer_line answer) (answer_status answer) result → Row
        own_row answer held is w = record {
          cause = books;
          status = answer_status answer;
          text = answer_line answer;
          row = recheck.of_the_certificate answer (of_both (λ cs all. IsAnswered limits cs all answer) (λ books told. is));
          shows = (decided answer, record { faults = held.faults ∙ so_far.faults; missed = λ name. held.missed name ∙ so_far.missed name });
          writes = w;
        }

        is_answered : (h : Giving) → how ≡ h → h ≢ giving.Failed → FitsGiving (certificate_limit limits) bytes h → (answer : Answer) → GivesAnswer (certificate_limit limits) (map plain_command commands) bytes h answer
            → IsAnswered limits (map plain_command commands) (bytes ++ rest) answer
        is_answered giving.Failed e not fits answer gives = absurd (not refl)
        is_answered giving.Whole e not fits answer gives =
            subst (λ all. IsAnswered limits (map plain_command commands) all answer) (sym (ap (λ h. bytes ++ rest_of h new.left) e ∙ no_more bytes)) (within answer fits gives)
        is_answered giving.TooLong e not fits answer (cut, is, past_is) =
            let longer = length-append bytes rest in
            subst (IsAnswered limits (map plain_command commands) (bytes ++ rest)) (sym past_is)
            (too_long cut (omega (arith, fits, longer))
            (subst (λ front. Answers (map plain_command commands) front cut) (sym (take-append-le (certificate_limit limits) bytes rest (omega (arith, fits)))) is))

        held_on : (h : Giving) → h ≢ giving.Failed → EndsGiving h middle new → HasHeld middle new
        held_on giving.Failed not ends = absurd (not refl)
        held_on giving.Whole not ends = record { faults = ends.1; missed = ends.2 }
        held_on giving.TooLong not ends = record { faults = ends.0; missed = ends.1 }

        pub answered_row : how ≢ giving.Failed → FitsGiving (certificate_limit limits) bytes how → (answer : Answer) → GivesAnswer (certificate_limit limits) (map plain_command commands) bytes how answer
            → Writes before after (answer_line answer) (answer_status answer) result → Row
        answered_row not fits answer gives w = own_row answer (held_on how not g.ends) (is_answered how refl not fits answer gives) w
