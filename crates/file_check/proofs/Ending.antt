-- How reading ends behind its jobs.
use Rattle.std.proofs.Common.{◌≡◌, ◌≢◌, ◌⊎◌, inl, inr, ⊎_elim, ℕ, zero, suc, ◌+◌, ◌<◌, Bool, List, [], ◌∷◌, ◌++◌, length, take, drop, refl, sym, ap, subst, ◌∙◌, arith, Option, Some, None}
use Rattle.std.proofs.lemmas.List.{append_assoc, drop_all}
use Rattle.dk_model.specs.declared.code.Verdict.{Verdict}
use Rattle.dk_model.specs.declared.code.Verdict.TheVariants as verdict
use Rattle.dk_lexer.specs.Tokens as tokens
use Rattle.dk_parser.specs.FileReading.{Tail, read}
use Rattle.dk_parser.specs.FileReading as tail
use Rattle.dk_parser.specs.Written.{WrittenCommand}
use Rattle.theory_walk.specs.BookReadings.{book_tail, due_line, read_whole}
use Rattle.theory_walk.specs.Libraries.{Key, Opened}
use Rattle.theory_walk.specs.Walks.{Placed, Reached, Spot, Walk, spot_of, spot_of_end}
use Rattle.theory_walk.specs.Walks as walks
use Rattle.dk_io.specs.Bytes.{book_of}
use Rattle.verdict_book.specs.Report.{FileReport}
use Rattle.file_report.specs.Outcomes.{no_theory}
use Rattle.file_report.specs.Reports.{stopped_at}
use Rattle.file_report.specs.Jobs.{AreJobsBehind, theory_behind}
use Rattle.file_report.specs.Theories.{verdict_on}
use Rattle.file_report.specs.Histories.{behind}
use Rattle.file_report.proofs.Positive.{CommandsHaveLines, TailHasLine, line_due_positive, next_line_positive, read_commands_lines, read_tail_line}
use Rattle.file_report.proofs.Putting.{jobs_wider, next_refused, tail_refused}
use Rattle.file_report.proofs.WalkLines.{BookTailHasLine, EndHasLine, OpenedHasLines, PlacedHaveLines, ReachedHasLine, WalkHasLines, placed_later, walk_lines}
use Rattle.book_reader.specs.declared.walker.WalkEnd.{WalkEnd}
use Rattle.book_reader.specs.declared.walker.WalkEnd.TheVariants as walk
use Rattle.book_reader.specs.Ends.{BeginsWalk, EndsOf, walk_with}
use Rattle.book_reader.specs.Shelved.{AreCut, IsCut, IsDueAt, MemoryDue, Setting, walk_in, whole_library}
use Rattle.book_reader.specs.Shelves.{ShelfState}
use Rattle.file_check.specs.declared.halt.Halt.TheVariants as halt
use Rattle.file_check.specs.declared.job.Job.{Job}
use Rattle.file_check.specs.Desks.{plain_jobs}
use Rattle.file_check.specs.Lecterns.{EndsBooks, halt_at}
use Rattle.file_check.proofs.Standing.{not_accepted}

-- ---- the line that is due where memory ends counts from 1

front_lines : (count : ℕ) (cs : List WrittenCommand) → CommandsHaveLines cs → CommandsHaveLines (take count cs)
front_lines zero cs h = tt
front_lines (suc n) [] h = tt
front_lines (suc n) (c ∷ cs) h = (h.0, front_lines n cs h.1)

book_tail_line : (due : ℕ) (t : Tail) → 0 < due → TailHasLine t → BookTailHasLine (book_tail due t)
book_tail_line due tail.whole some h = tt
book_tail_line due (tail.fault line code) some h = h
book_tail_line due tail.unread some h = some

module _ (s : Setting) where
  reading_lines : (o : Option (List ℕ)) → OpenedHasLines (read_whole s.limits o)
  reading_lines None = tt
  reading_lines (Some bytes) = record {
    items = read_commands_lines s.limits bytes tokens.whole;
    tail = book_tail_line (due_line s.limits bytes) (read s.limits bytes tokens.whole).tail (line_due_positive s.limits bytes) (read_tail_line s.limits bytes tokens.whole);
  }

  cut_lines : (book : Key) (o : Opened) → IsCut s book o → OpenedHasLines o
  cut_lines book o cut = subst OpenedHasLines (sym cut.cut_is) (record {
    items = front_lines cut.count (read s.limits cut.bytes tokens.whole).commands (read_commands_lines s.limits cut.bytes tokens.whole);
    tail = next_line_positive s.limits cut.bytes tokens.whole cut.count cut.line cut.next;
  })

  end_line : (e : walks.End) (spot : Spot) → EndHasLine e → spot_of_end e ≡ Some spot → 0 < spot.line
  end_line (walks.refused_at at code) spot h is = subst (λ (x : Spot). 0 < x.line) (let e : at ≡ spot = cc in e) h
  end_line (walks.unread_at at) spot h is = subst (λ (x : Spot). 0 < x.line) (let e : at ≡ spot = cc in e) h
  end_line (walks.not_opened at m) spot h is = subst (λ (x : Spot). 0 < x.line) (let e : at ≡ spot = cc in e) h
  end_line walks.no_file spot h is = cc

  pub memory_line : (count : ℕ) (spot : Spot) → MemoryDue s count spot → 0 < spot.line
  memory_line count spot due = ⊎_elim at_command at_end due.2
    where
      has : (k : Key) → OpenedHasLines (due.0 k)
      has k = ⊎_elim (λ e. subst OpenedHasLines (sym e) (reading_lines (book_of s.books (s.named k)))) (λ o. ⊎_elim (λ e. subst OpenedHasLines (sym e) tt) (cut_lines k (due.0 k)) o) (due.1 k)

      lines : WalkHasLines (walk_in s due.0)
      lines = walk_lines s.most s.own due.0 has

      at_command : (c : Placed) × (before : List Placed) × (after : List Placed) × ((walk_in s due.0).commands ≡ before ++ c ∷ after) × (length before ≡ count) × (spot_of c ≡ spot) → 0 < spot.line
      at_command d = subst (λ (x : Spot). 0 < x.line) d.5 (placed_later d.1 d.2 d.0 (subst PlacedHaveLines d.3 lines.commands))

      at_end : (length (walk_in s due.0).commands ≡ count) × ((e : walks.End) × ((walk_in s due.0).reached ≡ walks.ends e) × (spot_of_end e ≡ Some spot)) → 0 < spot.line
      at_end d = end_line d.1.0 spot (subst ReachedHasLine d.1.1 lines.reached) d.1.2

-- ---- the jobs behind which reading ends

module _ (s : Setting) (budget : ℕ) (jobs : List (Job × Bool)) (done : List Placed) (counted : length jobs ≡ length done) (are : AreJobsBehind s.limits budget s.own no_theory done (plain_jobs jobs)) where
  abbrev Are : List Placed → Type 0
  Are cs = AreJobsBehind s.limits budget s.own no_theory cs (plain_jobs jobs)

  -- jobs of some first commands are jobs of all
  pub front_jobs : (more : List Placed) → BeginsWalk s (done ++ more) → Are (walk_in s (whole_library s)).commands
  front_jobs more begins = subst Are (sym (begins.1 ∙ append_assoc done more begins.0)) (jobs_wider s.limits budget s.own no_theory done (more ++ begins.0) (plain_jobs jobs) are)

  all_front : BeginsWalk s done → Are (walk_in s (whole_library s)).commands
  all_front begins = subst Are (sym begins.1) (jobs_wider s.limits budget s.own no_theory done begins.0 (plain_jobs jobs) are)

  -- the walk has no other commands
  module _ (w : Walk) (r : Reached) (is : w ≡ walk_with done r) where
    walk_jobs : Are w.commands
    walk_jobs = subst Are (sym (ap (λ (x : Walk). x.commands) is)) are

    all_done : drop (length jobs) w.commands ≡ []
    all_done = ap (λ (x : Walk). drop (length jobs) x.commands) is ∙ ap (λ n. drop n done) counted ∙ drop_all (length done) done (omega arith)

    reached_so : w.reached ≡ r
    reached_so = ap (λ (x : Walk). x.reached) is

  -- where the walk ends by itself
  pub ends_so : (book : Key) (shelf : ShelfState) (e : WalkEnd) → EndsOf s done book shelf e → BeginsWalk s done → EndsBooks s budget shelf jobs book (halt_at e)
  ends_so book shelf walk.Whole ends begins =
      let w = walk_in s (whole_library s) in (
        record {
          jobs_are = walk_jobs w (walks.goes_on ends.0) ends.1;
          reader = (all_done w (walks.goes_on ends.0) ends.1, (ends.0, reached_so w (walks.goes_on ends.0) ends.1));
        },
        tt,
      )
  ends_so book shelf (walk.Refused line code) ends begins =
      let w = walk_in s (whole_library s) in
      let spot : Spot = record { book = book; line = line } in
      let r = walks.ends (walks.refused_at spot code) in (
        record {
          jobs_are = walk_jobs w r ends;
          reader = ap (behind s.limits budget s.own w) counted
              ∙ tail_refused s.limits budget s.own w done spot code (ap (λ (x : Walk). x.commands) ends) (reached_so w r ends)
              ∙ ap (λ n. let x : FileReport = record { lines = []; outcome = stopped_at (n + 1) spot (verdict.Refused code) } in x) (sym counted);
        },
        tt,
      )
  ends_so book shelf walk.Unread ends begins =
      let w = walk_in s (Rattle.book_reader.specs.Shelved.given_library s ends.0) in
      let spot : Spot = record { book = book; line = ends.2.0 } in
      let r = walks.ends (walks.unread_at spot) in
      record {
        given = ends.0;
        left = ends.1;
        ends = record { jobs_are = walk_jobs w r ends.2.1; reader = (all_done w r ends.2.1, (spot, reached_so w r ends.2.1, refl)) };
        begins = all_front begins;
      }
  ends_so book shelf (walk.Unopened m line) ends begins =
      let w = walk_in s (Rattle.book_reader.specs.Shelved.without (Some m) (Rattle.book_reader.specs.Shelved.given_library s ends.0)) in
      let v = walk_in s (Rattle.book_reader.specs.Shelved.without (Some m) (whole_library s)) in
      let spot : Spot = record { book = book; line = line } in
      let r = walks.ends (walks.not_opened spot m) in (
        record {
          given = ends.0;
          left = ends.1;
          ends = record { jobs_are = walk_jobs w r ends.2; reader = (all_done w r ends.2, (spot, reached_so w r ends.2)) };
          begins = all_front begins;
        },
        record { jobs_are = walk_jobs v r ends.3; reader = (all_done v r ends.3, (spot, reached_so v r ends.3)) },
      )
  ends_so book shelf (walk.NoMemory line) due begins = (
    record { jobs_are = all_front begins; reader = inr (memory_line s (length done) (record { book = book; line = line }) due) },
    subst (λ n. MemoryDue s n (record { book = book; line = line })) (sym counted) due,
  )

  -- where memory ended behind the commands
  pub memory_so : (book : Key) (shelf : ShelfState) (line : ℕ) → MemoryDue s (length done) (record { book = book; line = line }) → BeginsWalk s done → EndsBooks s budget shelf jobs book (halt.Fault line verdict.Memory)
  memory_so book shelf line due begins = ends_so book shelf (walk.NoMemory line) due begins

  -- where a job is at fault
  pub stops_so : (book : Key) (shelf : ShelfState) (more : List Placed) → BeginsWalk s (done ++ more) → EndsBooks s budget shelf jobs book halt.Stopped
  stops_so book shelf more begins = (record { jobs_are = front_jobs more begins; reader = tt }, tt)

  -- where the next command has another verdict
  module _ (shelf : ShelfState) (c : Placed) (begins : BeginsWalk s (done ++ c ∷ [])) where
    abbrev whole : Walk
    whole = walk_in s (whole_library s)

    commands_are : whole.commands ≡ done ++ c ∷ begins.0
    commands_are = begins.1 ∙ append_assoc done (c ∷ []) begins.0

    due_here : MemoryDue s (length done) (spot_of c)
    due_here = (whole_library s, (λ k. inl refl), inl (c, done, begins.0, commands_are, refl, refl))

    refused : (v : Verdict) → v ≢ verdict.Accepted → verdict_on s.limits budget s.own (theory_behind s.limits budget s.own no_theory done) (length done) c ≡ v
        → behind s.limits budget s.own whole (length jobs) ≡ (let r : FileReport = record { lines = []; outcome = stopped_at (length jobs + 1) (spot_of c) v } in r)
    refused v other is =
        ap (behind s.limits budget s.own whole) counted
        ∙ next_refused s.limits budget s.own whole done begins.0 c v commands_are is (not_accepted v other)
        ∙ ap (λ n. let r : FileReport = record { lines = []; outcome = stopped_at (n + 1) (spot_of c) v } in r) (sym counted)

    pub verdict_so : (v : Verdict) → v ≢ verdict.Accepted
        → (v ≡ verdict.Memory) ⊎ (verdict_on s.limits budget s.own (theory_behind s.limits budget s.own no_theory done) (length done) c ≡ v)
        → EndsBooks s budget shelf jobs c.book (halt.Fault c.command.line v)
    verdict_so verdict.Accepted other is = absurd (other refl)
    verdict_so (verdict.Refused code) other is = (record { jobs_are = front_jobs (c ∷ []) begins; reader = refused (verdict.Refused code) other (⊎_elim (λ e. cc) (λ e. e) is) }, tt)
    verdict_so verdict.Ended other is = (record { jobs_are = front_jobs (c ∷ []) begins; reader = refused verdict.Ended other (⊎_elim (λ e. cc) (λ e. e) is) }, tt)
    verdict_so verdict.Memory other is = (
      record { jobs_are = front_jobs (c ∷ []) begins; reader = inr (memory_line s (length done) (spot_of c) due_here) },
      subst (λ n. MemoryDue s n (spot_of c)) (sym counted) due_here,
    )
