-- What the check of a file and of its modules comes to is a row of `check`, whatever is written of a report.
use Rattle.std.proofs.Common.{◌≡◌, ◌⊎◌, ◌+◌, ◌≤◌, inl, inr, ℕ, List, [], length, take, refl, sym, ap, subst, ◌∙◌, arith}
use Rattle.std.specs.Prelude.{Bool, true, false, Option, Some, None}
use Rattle.std.specs.String.{string_bytes}
use Rattle.dk_io.specs.Bytes.{Books}
use Rattle.dk_io.specs.Causes.{Rose}
use Rattle.dk_model.specs.declared.limits.Limits.{Limits}
use Rattle.dk_model.specs.declared.code.Verdict.{Verdict}
use Rattle.dk_model.specs.declared.code.Verdict.TheVariants as verdict
use Rattle.command_line.specs.Requests.{CheckRequest}
use Rattle.board_core.specs.declared.event.Event.{Event}
use Rattle.board_core.specs.declared.event.Place.{Place}
use Rattle.verdict_book.specs.Report.{FileReport, PlainShown, nowhere, report_of, status_of}
use Rattle.verdict_book.specs.declared.outcome.Outcome.{Outcome}
use Rattle.verdict_book.specs.declared.outcome.Outcome.TheVariants.{Accepted, Stopped, Unread, Unopened}
use Rattle.verdict_book.specs.declared.title.Title.{Title}
use Rattle.theory_walk.specs.declared.needs.ModuleLimits.{ModuleLimits}
use Rattle.theory_walk.specs.BookNames.{book_named}
use Rattle.theory_walk.specs.Libraries.{Key, Library}
use Rattle.theory_walk.specs.Walks.{Spot}
use Rattle.book_reader.specs.declared.walker.Root.{Root}
use Rattle.book_reader.specs.Shelved.{Given, IsDueAt, MemoryDue, Setting, walk_in, whole_library, without}
use Rattle.book_reader.specs.Shelves.{HasHeld, ShelfState}
use Rattle.file_check.specs.Checks.{ChecksShelf, LeavesUnread}
use Rattle.file_check.specs.Counts.{CountsAt, EndsGiven, EndsInMemory, EndsOn}
use Rattle.file_check.specs.Counts as counts
use Rattle.file_check.specs.Failures.{Counted, Failure, given_till, of_opening, of_read}
use Rattle.dk_check_run.specs.Books.{IsOfBooks, asked_setting, standard_modules}
use Rattle.dk_check_run.specs.Check as check
use Rattle.dk_check_run.specs.Roots.{IsRootOf}
use Rattle.dk_check_run.specs.Rows.{HasMissed, WritesRow, books, given, unread, unopened, memory}
use Rattle.dk_check_run.specs.Run.{IsDecided, LeavesBooks, SinkState, Writes, memory_at_once}
use Rattle.dk_check_run.specs.Run as line
use Rattle.dk_check_run.proofs.Settings.{fold_is, root_asked}

-- what is so of any books that the shelf tells is so of those that are told
of_books : (limits : Limits) (q : CheckRequest) (told : Option Books) (P : Setting → Type 0) → ((held : Books) → told ≡ Some held → P (asked_setting limits q held)) → IsOfBooks limits q told P
of_books limits q None P f = tt
of_books limits q (Some held) P f = f held refl

-- a failed call raised a count
counted_any : (named : Key → List ℕ) (old new : ShelfState) (failure : Failure) → Counted named old new failure → Rose old.faults new.faults ⊎ HasMissed old new
counted_any named old new of_read rose = inl rose
counted_any named old new (of_opening m) rose = inr (named (Some m), rose)

module _ (limits : Limits) (q : CheckRequest) (put : List PlainShown → Outcome → List ℕ) (begins : put [] (Stopped 0 nowhere verdict.Memory) ≡ memory_at_once)
    (old new : ShelfState) (before after : SinkState) (result : ℕ) where
  -- a row was written
  abbrev pub Row : Type 0
  Row = WritesRow (check.IsDue limits q put) old new before after result

  pub missed_row : LeavesBooks old new → Rose (old.missed q.file) (new.missed q.file) → Writes before after (line.unopened q.file) 3 result → Row
  missed_row leaves rose w = record { cause = unopened q.file; status = 3; text = line.unopened q.file; row = check.of_a_failed_opening leaves; shows = (refl, rose); writes = w }

  pub no_memory_row : Writes before after memory_at_once 4 result → Row
  no_memory_row w = record { cause = memory; status = 4; text = memory_at_once; row = check.of_no_memory; shows = refl; writes = w }

  module _ (lines : List PlainShown) where
    abbrev reported : Outcome → FileReport
    reported o = record { lines = lines; outcome = o }

    abbrev pub Written : Outcome → Type 0
    Written o = Writes before after (put lines o) (status_of o) result

    -- a row with this status was
    abbrev pub RowOf : Outcome → Type 0
    RowOf o = (r : Row) × (r.status ≡ status_of o)

    abbrev pub Ends : Outcome → Type 0
    Ends o = (held : Books) → old.books ≡ Some held → EndsOn (asked_setting limits q held) q.budget old new lines o

    -- the report is also that of the fold
    folded : (s : Setting) (lib : Library) (o : Outcome) → counts.report_in s q.budget lib ≡ reported o → check.IsReport q (reported o) s lib
    folded s lib o is = fold_is s q.budget lib ∙ is

    abbrev Own : Outcome → Setting → Type 0
    Own o s = check.IsReport q (reported o) s (whole_library s)

    own_row : (o : Outcome) → IsDecided (status_of o) → HasHeld old new → IsOfBooks limits q old.books (Own o) → Written o → RowOf o
    own_row o decided held own w =
        (record { cause = books; status = status_of o; text = put lines o; row = check.of_the_books (reported o) own; shows = (decided, held); writes = w }, refl)

    -- a command stopped the theory, and the shelf held, or a call failed behind that command
    module _ (number : ℕ) (place : Place) (v : Verdict) where
      abbrev outcome : Outcome
      outcome = Stopped number place v

      abbrev GivenSo : Failure → Setting → Type 0
      GivenSo failure s = Own outcome s × check.IsOfGiven new failure s (check.IsReport q (reported outcome) s)

      given_row : (status_of outcome ≡ 1) ⊎ (status_of outcome ≡ 6) → (failure : Failure) → Counted (book_named q.file) old new failure → IsOfBooks limits q old.books (GivenSo failure) → Written outcome → RowOf outcome
      given_row is failure counted of w = (
        record {
          cause = given;
          status = status_of outcome;
          text = put lines outcome;
          row = check.of_the_given (reported outcome) number place v failure refl counted of;
          shows = (is, counted_any (book_named q.file) old new failure counted);
          writes = w;
        },
        refl,
      )

      -- the report of the whole books and of what was given of them
      abbrev Stops : Setting → Type 0
      Stops s = Own outcome s × (HasHeld old new ⊎ ((failure : Failure) × Counted (book_named q.file) old new failure × check.IsOfGiven new failure s (check.IsReport q (reported outcome) s)))

      stopped_row : (told : Option Books) → old.books ≡ told → (status_of outcome ≡ 1) ⊎ (status_of outcome ≡ 6) → ((held : Books) → old.books ≡ Some held → Stops (asked_setting limits q held))
          → HasHeld old new ⊎ ((failure : Failure) × Counted (book_named q.file) old new failure) → Written outcome → RowOf outcome
      stopped_row None told is ends (inl held) w = own_row outcome (inr is) held (subst (λ b. IsOfBooks limits q b (Own outcome)) (sym told) tt) w
      stopped_row None told is ends (inr (failure, counted)) w = given_row is failure counted (subst (λ b. IsOfBooks limits q b (GivenSo failure)) (sym told) tt) w
      stopped_row (Some held) told is ends counts w = let at = ends held told in elim at.1 [
        | inl stands ↦ own_row outcome (inr is) stands (subst (λ b. IsOfBooks limits q b (Own outcome)) (sym told) at.0) w
        | inr g ↦ given_row is g.0 g.1 (subst (λ b. IsOfBooks limits q b (GivenSo g.0)) (sym told) (at.0, g.2)) w
      ]

    -- ---- memory

    abbrev Cut : ℕ → Place → Setting → Type 0
    Cut number place s = check.IsCutByMemory q s (MemoryDue s) (whole_library s) lines number place
        × (HasHeld old new ⊎ ((failure : Failure) × Counted (book_named q.file) old new failure × check.IsOfGiven new failure s (λ lib. check.IsCutByMemory q s (IsDueAt (walk_in s lib)) lib lines number place)))

    cut_row : (number : ℕ) (place : Place) → IsOfBooks limits q old.books (Cut number place) → Written (Stopped number place verdict.Memory) → RowOf (Stopped number place verdict.Memory)
    cut_row number place of w =
        (record { cause = memory; status = 4; text = put lines (Stopped number place verdict.Memory); row = check.of_memory lines number place of; shows = refl; writes = w }, refl)

    cut_folded : (s : Setting) (may_be : ℕ → Spot → Type 0) (lib : Library) (number : ℕ) (place : Place) → counts.IsCutByMemory s q.budget may_be lib lines number place
        → check.IsCutByMemory q s may_be lib lines number place
    cut_folded s may_be lib number place cut = record {
      within = subst (λ (r : FileReport). length lines ≤ length r.lines) (sym (fold_is s q.budget lib)) cut.within;
      lines_are = subst (λ (r : FileReport). lines ≡ take (length lines) r.lines) (sym (fold_is s q.budget lib)) cut.lines_are;
      number_is = cut.number_is;
      spot = cut.spot;
      place_is = cut.place_is;
      due = cut.memory;
    }

    -- `memory 0 line 0` stands for no cut at a command
    of_cut : (s : Setting) (may_be : ℕ → Spot → Type 0) (lib : Library) (number : ℕ) (place : Place) → number ≡ length lines + 1 → EndsInMemory s q.budget may_be lib lines number place
        → check.IsCutByMemory q s may_be lib lines number place
    of_cut s may_be lib number place is (inl none) = let zero : number ≡ 0 = none.1 in absurd (omega (arith, is, zero))
    of_cut s may_be lib number place is (inr cut) = cut_folded s may_be lib number place cut

    given_cut : (s : Setting) (number : ℕ) (place : Place) → number ≡ length lines + 1 → HasHeld old new ⊎ ((failure : Failure) × EndsGiven s q.budget old new lines (Stopped number place verdict.Memory) failure)
        → HasHeld old new ⊎ ((failure : Failure) × Counted s.named old new failure × check.IsOfGiven new failure s (λ lib. check.IsCutByMemory q s (IsDueAt (walk_in s lib)) lib lines number place))
    given_cut s number place is (inl held) = inl held
    given_cut s number place is (inr (failure, g)) = inr (failure, g.counted, (g.given, g.left, of_cut s _ _ number place is g.reports))

    -- of one setting
    cut_in : (s : Setting) (number : ℕ) (place : Place) → EndsInMemory s q.budget (MemoryDue s) (whole_library s) lines number place
        → HasHeld old new ⊎ ((failure : Failure) × EndsGiven s q.budget old new lines (Stopped number place verdict.Memory) failure)
        → ((lines ≡ []) × (number ≡ 0) × (place ≡ nowhere)) ⊎ (check.IsCutByMemory q s (MemoryDue s) (whole_library s) lines number place
        × (HasHeld old new ⊎ ((failure : Failure) × Counted s.named old new failure × check.IsOfGiven new failure s (λ lib. check.IsCutByMemory q s (IsDueAt (walk_in s lib)) lib lines number place))))
    cut_in s number place (inl none) how = inl none
    cut_in s number place (inr cut) how = inr (cut_folded s _ _ number place cut, given_cut s number place cut.number_is how)

    -- memory ended before anything was begun
    none_row : (number : ℕ) (place : Place) → (lines ≡ []) × (number ≡ 0) × (place ≡ nowhere) → Written (Stopped number place verdict.Memory) → RowOf (Stopped number place verdict.Memory)
    none_row number place m w =
        let text_is = ap (λ ns. put ns (Stopped number place verdict.Memory)) m.0 ∙ ap (λ k. put [] (Stopped k place verdict.Memory)) m.1 ∙ ap (λ p. put [] (Stopped 0 p verdict.Memory)) m.2 ∙ begins in
        (record { cause = memory; status = 4; text = memory_at_once; row = check.of_no_memory; shows = refl; writes = subst (λ t. Writes before after t 4 result) text_is w }, refl)

    in_memory : (told : Option Books) → old.books ≡ told → (number : ℕ) (place : Place) → Ends (Stopped number place verdict.Memory) → Written (Stopped number place verdict.Memory) → RowOf (Stopped number place verdict.Memory)
    in_memory None told number place ends w = cut_row number place (subst (λ b. IsOfBooks limits q b (Cut number place)) (sym told) tt) w
    in_memory (Some held) told number place ends w = elim (cut_in (asked_setting limits q held) number place (ends held told).0 (ends held told).1) [
      | inl none ↦ none_row number place none w
      | inr cut ↦ cut_row number place (subst (λ b. IsOfBooks limits q b (Cut number place)) (sym told) cut) w
    ]

    abbrev asked : Books → Setting
    asked held = asked_setting limits q held

    -- a command stopped the theory, and nothing else is known of its verdict than the report
    stops : (number : ℕ) (place : Place) (v : Verdict) (held : Books) → counts.report_in (asked held) q.budget (whole_library (asked held)) ≡ reported (Stopped number place v)
        → ((failure : Failure) (given : List Given) → counts.Reports (asked held) q.budget (given_till (asked held) given failure) lines (Stopped number place v)
        → counts.report_in (asked held) q.budget (given_till (asked held) given failure) ≡ reported (Stopped number place v))
        → HasHeld old new ⊎ ((failure : Failure) × EndsGiven (asked held) q.budget old new lines (Stopped number place v) failure) → Stops number place v (asked held)
    stops number place v held own reports (inl stands) = (folded (asked held) (whole_library (asked held)) (Stopped number place v) own, inl stands)
    stops number place v held own reports (inr (failure, g)) = (
      folded (asked held) (whole_library (asked held)) (Stopped number place v) own,
      inr (failure, g.counted, (g.given, g.left, folded (asked held) (given_till (asked held) g.given failure) (Stopped number place v) (reports failure g.given g.reports))),
    )

    pub book_row : (o : Outcome) → Ends o → CountsAt (book_named q.file) old new o → Written o → RowOf o
    book_row (Accepted n) ends held w =
        own_row (Accepted n) (inl refl) held
        (of_books limits q old.books (Own (Accepted n)) (λ held is. folded (asked held) (whole_library (asked held)) (Accepted n) (ends held is).0)) w
    book_row (Unread n place) ends rose w = (
      record {
        cause = unread;
        status = 3;
        text = put lines (Unread n place);
        row = check.of_a_failed_read (reported (Unread n place)) n place refl
            (of_books limits q old.books (λ s. check.IsOfGiven new of_read s (check.IsReport q (reported (Unread n place)) s))
            (λ held is. let g = ends held is in (g.given, g.left, folded (asked held) (given_till (asked held) g.given of_read) (Unread n place) g.reports)));
        shows = (refl, rose);
        writes = w;
      },
      refl,
    )
    book_row (Unopened m) ends rose w = (
      record {
        cause = unopened (book_named q.file (Some m));
        status = 3;
        text = put lines (Unopened m);
        row = check.of_a_missing_module (reported (Unopened m)) m refl
            (of_books limits q old.books
            (λ s. check.IsReport q (reported (Unopened m)) s (without (Some m) (whole_library s)) × check.IsOfGiven new (of_opening m) s (check.IsReport q (reported (Unopened m)) s))
            (λ held is. let g = (ends held is).0 in (
              folded (asked held) (without (Some m) (whole_library (asked held))) (Unopened m) (ends held is).1,
              (g.given, g.left, folded (asked held) (given_till (asked held) g.given (of_opening m)) (Unopened m) g.reports),
            )));
        shows = (refl, rose);
        writes = w;
      },
      refl,
    )
    book_row (Stopped n place verdict.Accepted) ends held w =
        own_row (Stopped n place verdict.Accepted) (inl refl) held
        (of_books limits q old.books (Own (Stopped n place verdict.Accepted)) (λ held is. folded (asked held) (whole_library (asked held)) (Stopped n place verdict.Accepted) (ends held is).0)) w
    book_row (Stopped n place (verdict.Refused code)) ends how w =
        stopped_row n place (verdict.Refused code) old.books refl (inl refl)
        (λ held is. stops n place (verdict.Refused code) held (ends held is).0 (λ failure given reports. reports) (ends held is).1) how w
    book_row (Stopped n place verdict.Ended) ends how w =
        stopped_row n place verdict.Ended old.books refl (inr refl) (λ held is. stops n place verdict.Ended held (ends held is).0 (λ failure given reports. reports) (ends held is).1) how w
    book_row (Stopped n place verdict.Memory) ends how w = in_memory old.books refl n place ends w

-- the file was read under the name that was asked for
module _ (limits : Limits) (q : CheckRequest) (put : List PlainShown → Outcome → List ℕ) (begins : put [] (Stopped 0 nowhere verdict.Memory) ≡ memory_at_once)
    (most : ModuleLimits) (root : Root) (is : IsRootOf limits most q.file root) (standard : most ≡ standard_modules) (old new : ShelfState) (before after : SinkState) (result : ℕ) where
  -- how the check of it ends, in the setting that was asked for
  pub checked_ends : (titles : List Title) (events : List Event) → (checks : ChecksShelf root q.budget old new titles events) → Ends limits q put begins old new before after result checks.report.lines checks.report.outcome
  checked_ends titles events checks = λ held told.
      subst (λ s. EndsOn s q.budget old new checks.report.lines checks.report.outcome) (root_asked limits q most root held is standard) (checks.ends held told)

  pub checked_row : (titles : List Title) (events : List Event) → (checks : ChecksShelf root q.budget old new titles events)
      → Writes before after (put checks.report.lines checks.report.outcome) (status_of checks.report.outcome) result
      → RowOf limits q put begins old new before after result checks.report.lines checks.report.outcome
  checked_row titles events checks w =
      book_row limits q put begins old new before after result checks.report.lines checks.report.outcome (checked_ends titles events checks)
      (subst (λ file. CountsAt (book_named file) old new checks.report.outcome) is.file_is checks.counts) w

  pub unopened_row : LeavesUnread (string_bytes root.file) old new → Writes before after (line.unopened q.file) 3 result → Row limits q put begins old new before after result
  unopened_row leaves w =
      missed_row limits q put begins old new before after result (record { left = leaves.left; aside = leaves.aside; is_open = leaves.is_open })
      (subst (λ file. Rose (old.missed file) (new.missed file)) is.file_is leaves.missed) w

-- the report of a check begins so
pub at_once : (quiet : Bool) (budget : ℕ) (folder : List ℕ) → report_of [] (Stopped 0 nowhere verdict.Memory) budget quiet folder ≡ memory_at_once
at_once true budget folder = refl
at_once false budget folder = refl
