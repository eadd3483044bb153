-- What the check of a made theory comes to is a row of `make`.
use Rattle.std.proofs.Common.{◌≡◌, ◌≤◌, inl, inr, ℕ, Bool, true, false, List, [], ◌∷◌, length, refl, sym, ap, subst, ◌∙◌, arith}
use Rattle.std.specs.Prelude.{◌==◌, if◌then◌else◌, None, Some}
use Rattle.dk_io.specs.Bytes.{Books}
use Rattle.dk_io.specs.Causes.{Rose}
use Rattle.dk_lexer.specs.Tokens.{whole}
use Rattle.dk_model.specs.declared.code.Verdict.TheVariants as verdict
use Rattle.dk_model.specs.declared.limits.Limits.{Limits}
use Rattle.dk_make.specs.Theory.{theory_of}
use Rattle.command_line.specs.Requests.{MakeRequest, to_make}
use Rattle.board_core.specs.declared.event.Event.{Event}
use Rattle.board_core.specs.declared.event.Place.{Place}
use Rattle.board_core.specs.Places.{in_file}
use Rattle.verdict_book.specs.Report.{FileReport, PlainShown, status_of}
use Rattle.verdict_book.specs.declared.outcome.Outcome.{Outcome}
use Rattle.verdict_book.specs.declared.outcome.Outcome.TheVariants.{Accepted, Stopped, Unread, Unopened}
use Rattle.verdict_book.specs.declared.title.Title.{Title}
use Rattle.theory_walk.specs.BookReadings.{book_reading}
use Rattle.theory_walk.specs.Libraries.{Key}
use Rattle.theory_walk.specs.Walks.{Spot}
use Rattle.file_report.specs.Outcomes.{no_theory}
use Rattle.file_report.specs.Reports.{place_of}
use Rattle.file_report.specs.Theories.{checking}
use Rattle.book_reader.specs.declared.walker.Root.{Root}
use Rattle.book_reader.specs.Shelved.{MemoryDue, Setting, walk_in, whole_library, without}
use Rattle.book_reader.specs.Shelves.{ShelfState}
use Rattle.file_check.specs.Checks.{ChecksShelf}
use Rattle.file_check.specs.Counts.{EndsInMemory, EndsOn, IsCutByMemory}
use Rattle.file_check.specs.Counts as counts
use Rattle.dk_check_run.specs.Books.{made_setting, no_modules}
use Rattle.dk_check_run.specs.Make as make
use Rattle.dk_check_run.specs.Roots.{IsRootOf}
use Rattle.dk_check_run.specs.Rows.{books, memory}
use Rattle.dk_check_run.specs.Run.{IsDecided, SinkState, Writes, made_line, memory_at_once, summary}
use Rattle.dk_check_run.specs.Summaries.{text_by}
use Rattle.dk_check_run.specs.Table.{RunsCommand}
use Rattle.dk_check_run.proofs.Alone.{alone, due_here, none_missing}
use Rattle.dk_check_run.proofs.General.{held_same}
use Rattle.dk_check_run.proofs.Settings.{fold_is, root_setting}

-- a shelf whose count stands has no failed read
not_rose : (old new : ℕ) → old ≡ 0 → new ≡ 0 → ¬ (Rose old new)
not_rose old new a b rose = let r : Rose 0 0 = subst (λ n. Rose n 0) a (subst (Rose old) b rose) in absurd (omega (arith, r))

module _ (limits : Limits) (q : MakeRequest) (shelf : ShelfState) (before after : SinkState) (result : ℕ) where
  -- a row of `make` was written
  abbrev pub Row : Type 0
  Row = RunsCommand limits (to_make q) shelf shelf before after result

  pub no_memory_row : Writes before after memory_at_once 4 result → Row
  no_memory_row w = record { cause = memory; status = 4; text = memory_at_once; row = (refl, make.of_no_memory); shows = refl; writes = w }

  abbrev s : Setting
  s = made_setting limits q

  -- the theory needs no module
  needs_none : (lines : List PlainShown) (m : List ℕ) → counts.Reports s q.budget (without (Some m) (whole_library s)) lines (Unopened m) → ⊥
  needs_none lines m is =
      let lib = without (Some m) (whole_library s) in
      let w = walk_in s lib in
      none_missing (checking limits q.budget s.own) no_theory 0 w.commands w.reached m
      (alone s.own lib (book_reading limits (theory_of q.count) whole)) (ap (λ (r : FileReport). r.outcome) is)

  at_line : (spot : Spot) → spot.book ≡ None → spot ≡ record { book = None; line = spot.line }
  at_line spot here = ap (λ (b : Key). let at : Spot = record { book = b; line = spot.line } in at) here

  -- where memory ended stands in the file
  due_in_file : (count : ℕ) (spot : Spot) → MemoryDue s count spot → spot.book ≡ None
  due_in_file count spot due = due_here s.own due.0 (due.0 None) count spot due.2

  module _ (lines : List PlainShown) where
    abbrev reported : Outcome → FileReport
    reported o = record { lines = lines; outcome = o }

    own_row : (o : Outcome) → counts.report_in s q.budget (whole_library s) ≡ reported o → IsDecided (status_of o) → Writes before after (summary q o) (status_of o) result → Row
    own_row o is decided w = record {
      cause = books;
      status = status_of o;
      text = summary q o;
      row = (refl, subst (λ (r : FileReport). make.IsDue limits q books (status_of r.outcome) (summary q r.outcome)) (fold_is s q.budget (whole_library s) ∙ is) make.of_the_theory);
      shows = (decided, held_same shelf shelf refl);
      writes = w;
    }

    cut_due : (number : ℕ) (place : Place) → IsCutByMemory s q.budget (MemoryDue s) (whole_library s) lines number place → make.IsDue limits q memory 4 (summary q (Stopped number place verdict.Memory))
    cut_due number place cut =
        let here = due_in_file (length lines) cut.spot cut.memory in
        let at = at_line cut.spot here in
        let placed : place ≡ in_file cut.spot.line = cut.place_is ∙ ap place_of at in
        subst (λ (p : Place). make.IsDue limits q memory 4 (summary q (Stopped number p verdict.Memory))) (sym placed)
        (subst (λ n. make.IsDue limits q memory 4 (summary q (Stopped n (in_file cut.spot.line) verdict.Memory))) (sym cut.number_is)
        (make.of_memory (length lines) cut.spot.line
        (subst (λ (r : FileReport). length lines ≤ length r.lines) (sym (fold_is s q.budget (whole_library s))) cut.within)
        (subst (MemoryDue s (length lines)) at cut.memory)))

    cut_row : (number : ℕ) (place : Place) (early : Bool) → (number == 0) ≡ early → EndsInMemory s q.budget (MemoryDue s) (whole_library s) lines number place
        → Writes before after (if early then memory_at_once else summary q (Stopped number place verdict.Memory)) 4 result → Row
    cut_row number place true is ends w = no_memory_row w
    cut_row number place false is (inl none) w = let e : (0 == 0) ≡ false = ap (λ n. n == 0) (sym none.1) ∙ is in absurd (never e)
      where
        never : true ≡ false → ⊥
        never e = cc
    cut_row number place false is (inr cut) w =
        record { cause = memory; status = 4; text = summary q (Stopped number place verdict.Memory); row = (refl, cut_due number place cut); shows = refl; writes = w }

    -- the text was read to its end
    theory_row : (old new : ShelfState) (o : Outcome) → old.faults ≡ 0 → new.faults ≡ 0 → EndsOn s q.budget old new lines o
        → Writes before after (text_by (made_line q.count (length (theory_of q.count))) q.budget o) (status_of o) result → Row
    theory_row old new (Accepted n) a b ends w = own_row (Accepted n) ends.0 (inl refl) w
    theory_row old new (Unread n place) a b ends w = absurd (not_rose old.faults new.faults a b ends.counted)
    theory_row old new (Unopened m) a b ends w = absurd (needs_none lines m ends.1)
    theory_row old new (Stopped n place verdict.Accepted) a b ends w = own_row (Stopped n place verdict.Accepted) ends.0 (inl refl) w
    theory_row old new (Stopped n place (verdict.Refused code)) a b ends w = own_row (Stopped n place (verdict.Refused code)) ends.0 (inr (inl refl)) w
    theory_row old new (Stopped n place verdict.Ended) a b ends w = own_row (Stopped n place verdict.Ended) ends.0 (inr (inr refl)) w
    theory_row old new (Stopped n place verdict.Memory) a b ends w = cut_row n place (n == 0) refl ends.0 w

  -- the made theory was read, as the one book of its shelf
  pub made_row : (root : Root) → IsRootOf limits no_modules [] root → (old new : ShelfState) (titles : List Title) (events : List Event) (checks : ChecksShelf root q.budget old new titles events)
      → old.books ≡ Some (([], theory_of q.count) ∷ []) → old.faults ≡ 0 → new.faults ≡ 0
      → Writes before after (text_by (made_line q.count (length (theory_of q.count))) q.budget checks.report.outcome) (status_of checks.report.outcome) result → Row
  made_row root is old new titles events checks told a b w =
      let held : Books = ([], theory_of q.count) ∷ [] in
      theory_row checks.report.lines old new checks.report.outcome a b
      (subst (λ s. EndsOn s q.budget old new checks.report.lines checks.report.outcome) (root_setting limits no_modules [] root held is) (checks.ends held told)) w
