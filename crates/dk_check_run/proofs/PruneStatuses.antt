-- What the rows of `prune` say, each by the status.
use Rattle.std.proofs.Common.{◌≡◌, ◌≢◌, ◌⊎◌, inl, inr, ℕ, List, length, refl, sym, ap, subst, ◌∙◌, arith}
use Rattle.std.specs.Prelude.{Some}
use Rattle.dk_io.specs.Bytes.{Books, added, book_of}
use Rattle.dk_model.specs.declared.limits.Limits.{Limits}
use Rattle.command_line.specs.Requests.{PruneRequest}
use Rattle.verdict_book.specs.Report.{FileReport, status_of}
use Rattle.theory_walk.specs.BookNames.{own_module}
use Rattle.theory_walk.specs.BookReadings.{read_whole}
use Rattle.book_reader.specs.Shelved.{Setting, whole_library}
use Rattle.book_reader.specs.Shelves.{ShelfState}
use Rattle.prune_file.specs.Files.{IsAccepted, commands_in}
use Rattle.prune_file.specs.Laws.{AcceptedIsReported, PrunedStandsAlone}
use Rattle.prune_file.specs.Pruned.{IsPruned, IsUnknown}
use Rattle.dk_check_run.specs.Books.{asked_setting, standard_modules}
use Rattle.dk_check_run.specs.Check.{IsReport}
use Rattle.dk_check_run.specs.Prune.{HasFileFault, IsDue, IsOfBytes, IsOfFile, IsTaken, PrunesFile, alone_setting, as_known, as_reported, as_unknown, by_opening, by_read, checked, last_of, of_a_failed_opening, of_a_failed_read, of_a_known_name, of_an_unknown_name, of_memory, of_no_memory, of_the_file, of_the_given}
use Rattle.dk_check_run.specs.Rows.{Cause, Shows}
use Rattle.dk_check_run.specs.Run.{IsDecided, SinkState}

-- the outcome of what was read isn't 3
pub decided_not3 : {status : ℕ} {A : Type 0} → IsDecided status → status ≡ 3 → A
decided_not3 (inl e) three = absurd (omega (arith, e, three))
decided_not3 (inr (inl e)) three = absurd (omega (arith, e, three))
decided_not3 (inr (inr e)) three = absurd (omega (arith, e, three))

pub stopped_not3 : {status : ℕ} {A : Type 0} → (status ≡ 1) ⊎ (status ≡ 6) → status ≡ 3 → A
stopped_not3 (inl e) three = absurd (omega (arith, e, three))
stopped_not3 (inr e) three = absurd (omega (arith, e, three))

module _ (limits : Limits) (q : PruneRequest) (old new : ShelfState) (before after : SinkState) where
  -- at 3 the opening of the file failed, or a read
  pub prune_failed : (cause : Cause) (status : ℕ) (text : List ℕ) → IsDue limits q old new cause status text → Shows cause status old new → status ≡ 3 → after.taken ≡ added before.taken text
      → HasFileFault q old new before.taken after.taken
  prune_failed cause status text (of_a_known_name known of) shows three taken = absurd (omega (arith, three))
  prune_failed cause status text (of_an_unknown_name of) shows three taken = absurd (omega (arith, three))
  prune_failed cause status text (of_the_file r number place v stopped_is fault of) shows three taken = decided_not3 shows.0 three
  prune_failed cause status text (of_the_given r number place v stopped_is fault counted of) shows three taken = stopped_not3 shows.0 three
  prune_failed cause status text (of_a_failed_read r number place unread_is of) shows three taken = by_read number place shows.1 (taken ∙ ap (λ o. added before.taken (last_of q o)) unread_is)
  prune_failed cause status text (of_a_failed_opening leaves) shows three taken = by_opening leaves shows.1 taken
  prune_failed cause status text (of_memory lines number place of) shows three taken = absurd (omega (arith, three))
  prune_failed cause status text of_no_memory shows three taken = absurd (omega (arith, three))

  -- at 0, 1 and 6 the row is the file's own
  module _ (stands : PrunedStandsAlone) (reported : AcceptedIsReported) (held : Books) (is : old.books ≡ Some held) where
    told_file : (P : Setting → Type 0) → IsOfFile limits q old.books P → P (alone_setting limits q held)
    told_file P of = subst (λ b. IsOfFile limits q b P) is of

    told_bytes : (P : List ℕ → Type 0) → IsOfBytes q old.books P → (bytes : List ℕ) × (book_of held q.file ≡ Some bytes) × P bytes
    told_bytes P of = subst (λ b. IsOfBytes q b P) is of

    -- a file that is accepted by itself is accepted wherever it lies
    taken_as : (text : List ℕ) → IsAccepted limits (own_module q.file) q.budget text → IsTaken limits q text
    taken_as text file = λ books has. (
      length (commands_in file.items),
      reported limits standard_modules (own_module q.file) q.budget text (whole_library (asked_setting limits (checked q) books)) file (ap (read_whole limits) has),
    )

    pub prune_own : (cause : Cause) (status : ℕ) (text : List ℕ) → IsDue limits q old new cause status text → Shows cause status old new → status ≢ 3 → status ≢ 4 → after.taken ≡ added before.taken text
        → PrunesFile limits q held before.taken after.taken status
    prune_own cause status text (of_a_known_name known of) shows not3 not4 taken =
        let b = told_bytes (λ bytes. IsPruned limits (own_module q.file) q.budget q.name bytes known) of in
        as_known b.0 known b.1 b.2 (λ short. let s = stands limits (own_module q.file) q.budget q.name b.0 known b.2 short in (s, taken_as known s.file)) taken
    prune_own cause status text (of_an_unknown_name of) shows not3 not4 taken =
        let b = told_bytes (λ bytes. IsAccepted limits (own_module q.file) q.budget bytes × IsUnknown limits q.name bytes) of in
        as_unknown b.0 b.1 b.2.0 b.2.1 taken
    prune_own cause status text (of_the_file r number place v stopped_is fault of) shows not3 not4 taken =
        subst (λ o. PrunesFile limits q held before.taken after.taken (status_of o)) (sym stopped_is)
        (as_reported number place v (ap (λ (x : FileReport). x.outcome) (told_file (λ s. IsReport (checked q) r s (whole_library s)) of) ∙ stopped_is) fault (taken ∙ ap (λ o. added before.taken (last_of q o)) stopped_is))
    prune_own cause status text (of_the_given r number place v stopped_is fault counted of) shows not3 not4 taken =
        subst (λ o. PrunesFile limits q held before.taken after.taken (status_of o)) (sym stopped_is)
        (as_reported number place v (ap (λ (x : FileReport). x.outcome) (told_file (λ s. IsReport (checked q) r s (whole_library s)) of) ∙ stopped_is) fault (taken ∙ ap (λ o. added before.taken (last_of q o)) stopped_is))
    prune_own cause status text (of_a_failed_read r number place unread_is of) shows not3 not4 taken = absurd (not3 shows.0)
    prune_own cause status text (of_a_failed_opening leaves) shows not3 not4 taken = absurd (not3 refl)
    prune_own cause status text (of_memory lines number place of) shows not3 not4 taken = absurd (not4 refl)
    prune_own cause status text of_no_memory shows not3 not4 taken = absurd (not4 refl)
