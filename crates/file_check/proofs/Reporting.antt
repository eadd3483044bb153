-- The report of the book in which a theory's commands were put and checked.
use Rattle.std.proofs.Common.{◌≡◌, ◌⊎◌, inl, inr, ⊎_elim, ℕ, zero, suc, ◌+◌, Bool, true, false, List, [], ◌∷◌, ◌++◌, length, drop, refl, sym, ap, subst, ◌∙◌}
use Rattle.std.specs.Prelude.{IfSome, Option, Some, None, ◌==◌, if◌then◌else◌}
use Rattle.std.specs.List.{list_any}
use Rattle.std.proofs.lemmas.List.{length-map}
use Rattle.dk_io.specs.Bytes.{Books}
use Rattle.dk_model.specs.declared.code.Verdict.{Verdict}
use Rattle.dk_model.specs.declared.code.Verdict.TheVariants as verdict
use Rattle.board_core.specs.declared.event.End.{End}
use Rattle.board_core.specs.declared.event.End.TheVariants as end
use Rattle.board_core.specs.declared.event.Event.{Event}
use Rattle.board_core.specs.declared.event.Place.{Place}
use Rattle.board_core.specs.Events.{end_of, is_accepted, is_fault}
use Rattle.board_core.specs.Machine.{IsFinished, IsLegal, marks_of}
use Rattle.board_core.proofs.Histories.{fault_any, verdict_faults}
use Rattle.verdict_book.specs.Report.{FileReport, PlainShown, nowhere}
use Rattle.verdict_book.proofs.Answered.{stopped_fault}
use Rattle.verdict_book.specs.Books.{IsFirst, IsReportOf, end_outcome, fault_outcome, report_with}
use Rattle.verdict_book.specs.declared.outcome.Outcome.{Outcome}
use Rattle.verdict_book.specs.declared.outcome.Outcome.TheVariants.{Accepted, Stopped, Unread, Unopened}
use Rattle.verdict_book.specs.declared.title.Title.{Title}
use Rattle.std.specs.String.{string_bytes}
use Rattle.theory_walk.specs.BookNames.{book_named}
use Rattle.theory_walk.specs.Libraries.{Key, Library}
use Rattle.theory_walk.specs.Walks.{Placed, Spot, Walk, spot_of}
use Rattle.file_report.specs.Outcomes.{no_theory}
use Rattle.file_report.specs.Reports.{place_of}
use Rattle.file_report.specs.Jobs.{AreJobsBehind, job_titles}
use Rattle.file_report.specs.Histories.{ChecksJobsIn, ChecksTheory, DueAt, EndsReading, IsCut, ReportsTheory}
use Rattle.file_report.proofs.Law.{theory_faults, theory_reports}
use Rattle.book_reader.specs.declared.walker.Root.{Root}
use Rattle.book_reader.specs.Ends.{HoldsCounts, LeavesFormer}
use Rattle.book_reader.specs.Shelved.{IsDueAt, MemoryDue, Setting, walk_in, whole_library, without}
use Rattle.book_reader.specs.Shelves.{HasHeld, ShelfState}
use Rattle.book_reader.specs.Walkers.{setting_of}
use Rattle.book_reader.proofs.Openings.{former_kept}
use Rattle.file_check.specs.declared.halt.Halt.{Halt}
use Rattle.file_check.specs.declared.halt.Halt.TheVariants as halt
use Rattle.file_check.specs.declared.job.Job.{Job}
use Rattle.file_check.specs.Checks.{LeavesAt}
use Rattle.file_check.specs.Counts.{CountsAt, EndsGiven, EndsOn, IsCutByMemory, Reports, ReportsBy, ReportsWhole}
use Rattle.file_check.specs.Desks.{plain_jobs}
use Rattle.file_check.specs.Failures.{Counted, Failure, given_till, of_opening, of_read}
use Rattle.file_check.specs.Halts.{end_at}
use Rattle.file_check.specs.Jobs.{due, early, job_of}
use Rattle.file_check.specs.Lecterns.{EndLeaves, EndsBehind, EndsBooks, EndsFront, HaltCounts, MemoryAt, ReadsBooks}
use Rattle.file_check.proofs.Steps.{counts_then}

-- ---- the outcome

module _ (titles : List Title) (events : List Event) (report : FileReport) (reports : IsReportOf titles events report) where
  -- no job is at fault
  no_fault_outcome : list_any is_fault events ≡ false → (e : End) → end_of events ≡ Some e → report.outcome ≡ end_outcome (length titles) (Some e)
  no_fault_outcome none e is = by_first reports.0 reports.1 reports.2
    where
      by_first : (f : Option (ℕ × Verdict)) → IsFirst events f → report ≡ report_with titles f (end_of events) → report.outcome ≡ end_outcome (length titles) (Some e)
      by_first None first made = ap (λ (r : FileReport). r.outcome) made ∙ ap (end_outcome (length titles)) is
      by_first (Some f) first made =
          let some : list_any is_fault events ≡ true = fault_any f.0 events (verdict_faults f.0 f.1 events first.0 first.1) in
          let bad : false ≡ true = sym none ∙ some in cc

  -- a job is at fault
  fault_outcome_is : list_any is_fault events ≡ true → (number : ℕ) × (place : Place) × (v : Verdict) × (report.outcome ≡ Stopped number place v) × (is_accepted v ≡ false)
  fault_outcome_is some = by_first reports.0 reports.1 reports.2
    where
      by_first : (f : Option (ℕ × Verdict)) → IsFirst events f → report ≡ report_with titles f (end_of events) → (number : ℕ) × (place : Place) × (v : Verdict) × (report.outcome ≡ Stopped number place v) × (is_accepted v ≡ false)
      by_first None first made = let bad : false ≡ true = sym first ∙ some in cc
      by_first (Some f) first made = (f.0, _, f.1, ap (λ (r : FileReport). r.outcome) made, first.1)

-- an outcome of books that were read to their end, or up to a command
abbrev pub IsOwn : Outcome → Type 0
IsOwn (Accepted count) = Unit {0}
IsOwn (Stopped number place v) = Unit {0}
IsOwn (Unread number place) = ⊥
IsOwn (Unopened name) = ⊥

-- why such books have no other command
abbrev pub IsHalted : Halt → Type 0
IsHalted halt.Whole = Unit {0}
IsHalted (halt.Fault line v) = Unit {0}
IsHalted halt.Stopped = Unit {0}
IsHalted halt.Unread = ⊥
IsHalted (halt.Unopened m) = ⊥

own_stop : (count : ℕ) (place : Place) (v : Verdict) → IsOwn (fault_outcome count place v)
own_stop count place verdict.Accepted = tt
own_stop count place (verdict.Refused code) = tt
own_stop count place verdict.Ended = tt
own_stop count place verdict.Memory = by_line (place.line == 0)
  where
    by_line : (b : Bool) → IsOwn (if b then Stopped 0 nowhere verdict.Memory else Stopped (count + 1) place verdict.Memory)
    by_line true = tt
    by_line false = tt

-- whether a call of the shelf failed
halt_cases : (h : Halt) → IsHalted h ⊎ ((h ≡ halt.Unread) ⊎ ((m : List ℕ) × (h ≡ halt.Unopened m)))
halt_cases halt.Whole = inl tt
halt_cases halt.Stopped = inl tt
halt_cases (halt.Fault line v) = inl tt
halt_cases halt.Unread = inr (inl refl)
halt_cases (halt.Unopened m) = inr (inr (m, refl))

held_end : (named : Key → List ℕ) (old new : ShelfState) (h : Halt) → IsHalted h → HaltCounts named old new h → HasHeld old new
held_end named old new halt.Whole own is = record { faults = is.0; missed = is.1 }
held_end named old new halt.Stopped own is = record { faults = is.0; missed = is.1 }
held_end named old new (halt.Fault line v) own is = record { faults = is.0; missed = is.1 }
held_end named old new halt.Unread own is = absurd own
held_end named old new (halt.Unopened m) own is = absurd own

whole_of : (s : Setting) (budget : ℕ) (shelf : ShelfState) (jobs : List (Job × Bool)) (book : Key) (h : Halt) → IsHalted h → EndsBooks s budget shelf jobs book h
    → EndsBehind s.limits budget s.own (walk_in s (whole_library s)) jobs (end_at book h) × MemoryAt s (length jobs) book h
whole_of s budget shelf jobs book halt.Whole own ends = ends
whole_of s budget shelf jobs book halt.Stopped own ends = ends
whole_of s budget shelf jobs book (halt.Fault line v) own ends = ends
whole_of s budget shelf jobs book halt.Unread own ends = absurd own
whole_of s budget shelf jobs book (halt.Unopened m) own ends = absurd own

counts_held : (named : Key → List ℕ) (old new : ShelfState) (o : Outcome) → IsOwn o → HasHeld old new → CountsAt named old new o
counts_held named old new (Accepted n) own held = held
counts_held named old new (Stopped n place verdict.Accepted) own held = held
counts_held named old new (Stopped n place (verdict.Refused code)) own held = inl held
counts_held named old new (Stopped n place verdict.Ended) own held = inl held
counts_held named old new (Stopped n place verdict.Memory) own held = inl held
counts_held named old new (Unread n place) own held = absurd own
counts_held named old new (Unopened name) own held = absurd own

counts_failed : (named : Key → List ℕ) (old new : ShelfState) (n : ℕ) (place : Place) (v : Verdict) → is_accepted v ≡ false → (failure : Failure) → Counted named old new failure → CountsAt named old new (Stopped n place v)
counts_failed named old new n place verdict.Accepted other failure counted = absurd (let bad : true ≡ false = other in cc)
counts_failed named old new n place (verdict.Refused code) other failure counted = inr (failure, counted)
counts_failed named old new n place verdict.Ended other failure counted = inr (failure, counted)
counts_failed named old new n place verdict.Memory other failure counted = inr (failure, counted)

-- ---- where memory ended

-- where the law says it did, seen from a walk
cut_from : (s : Setting) (budget : ℕ) (due : ℕ → Spot → Type 0) (lib : Library) (sealed : Option End) (jobs : ℕ) (lines : List PlainShown) (number : ℕ) (place : Place)
    → ((count : ℕ) → DueAt (walk_in s lib) sealed jobs count place → (spot : Spot) × (place ≡ place_of spot) × due count spot)
    → IsCut s.limits budget s.own (walk_in s lib) sealed jobs lines number place → IsCutByMemory s budget due lib lines number place
cut_from s budget due lib sealed jobs lines number place found cut =
    let f = found (length lines) cut.memory in
    record { lines_are = cut.lines_are; within = cut.within; number_is = cut.number_is; spot = f.0; place_is = f.1; memory = f.2 }

reports_from : (s : Setting) (budget : ℕ) (due : ℕ → Spot → Type 0) (lib : Library) (sealed : Option End) (jobs : ℕ) (lines : List PlainShown) (o : Outcome)
    → ((count : ℕ) (place : Place) → DueAt (walk_in s lib) sealed jobs count place → (spot : Spot) × (place ≡ place_of spot) × due count spot)
    → ReportsTheory s.limits budget s.own (walk_in s lib) sealed jobs lines o → ReportsBy s budget due lib lines o
reports_from s budget due lib sealed jobs lines (Stopped number place verdict.Memory) found is =
    ⊎_elim inl (λ cut. inr (cut_from s budget due lib sealed jobs lines number place (λ count. found count place) cut)) is
reports_from s budget due lib sealed jobs lines (Stopped number place verdict.Accepted) found is = is
reports_from s budget due lib sealed jobs lines (Stopped number place (verdict.Refused code)) found is = is
reports_from s budget due lib sealed jobs lines (Stopped number place verdict.Ended) found is = is
reports_from s budget due lib sealed jobs lines (Accepted count) found is = is
reports_from s budget due lib sealed jobs lines (Unread number place) found is = is
reports_from s budget due lib sealed jobs lines (Unopened name) found is = is

-- what stands before a command
split_at : (count : ℕ) (cs : List Placed) (c : Placed) (later : List Placed) → drop count cs ≡ c ∷ later → (before : List Placed) × (cs ≡ before ++ c ∷ later) × (length before ≡ count)
split_at zero cs c later is = ([], is, refl)
split_at (suc n) [] c later is = cc
split_at (suc n) (x ∷ cs) c later is = let r = split_at n cs c later is in (x ∷ r.0, ap (λ l. x ∷ l) r.1, ap suc r.2)

-- a command of the walk is due
command_due : (w : Walk) (count : ℕ) (c : Placed) (later : List Placed) → drop count w.commands ≡ c ∷ later → IsDueAt w count (spot_of c)
command_due w count c later is = let r = split_at count w.commands c later is in inl (c, r.0, later, r.1, r.2, refl)

memory_found : (s : Setting) (count : ℕ) (book : Key) (place : Place) (h : Halt) → MemoryAt s count book h → end_at book h ≡ end.Fault place verdict.Memory → (spot : Spot) × (place ≡ place_of spot) × MemoryDue s count spot
memory_found s count book place halt.Whole at is = cc
memory_found s count book place halt.Stopped at is = cc
memory_found s count book place halt.Unread at is = cc
memory_found s count book place (halt.Unopened m) at is = cc
memory_found s count book place (halt.Fault line verdict.Accepted) at is = cc
memory_found s count book place (halt.Fault line (verdict.Refused code)) at is = cc
memory_found s count book place (halt.Fault line verdict.Ended) at is = cc
memory_found s count book place (halt.Fault line verdict.Memory) at is = (record { book = book; line = line }, (let e : place ≡ place_of (record { book = book; line = line }) = cc in e), at)

same_end : (x y : End) → Some x ≡ Some y → x ≡ y
same_end x y e = cc

-- the end isn't a want of memory
abbrev IsCall : End → Type 0
IsCall (end.Unread place) = Unit {0}
IsCall (end.Unopened m) = Unit {0}
IsCall end.Whole = ⊥
IsCall end.Stopped = ⊥
IsCall (end.Fault place v) = ⊥

-- ---- what the book comes to

module _ (root : Root) (budget : ℕ) (old new : ShelfState) (jobs : List (Job × Bool)) (events : List Event) (titles : List Title) (report : FileReport)
    (legal : IsLegal due early jobs events) (finished : IsFinished (marks_of jobs) events) (read : ReadsBooks root budget old new jobs (end_of events) titles) (reports : IsReportOf titles events report) where
  abbrev end_is : End
  end_is = end_at read.book read.why

  abbrev named : Key → List ℕ
  named = book_named (string_bytes root.file)

  -- books whose reading halted have an outcome of their own
  own_outcome : IsHalted read.why → IsOwn report.outcome
  own_outcome own = by_fault (list_any is_fault events) refl
    where
      by_end : (h : Halt) → IsHalted h → end_of events ≡ Some (end_at read.book h) → list_any is_fault events ≡ false → IsOwn (end_outcome (length titles) (Some (end_at read.book h)))
      by_end halt.Whole own at none = tt
      by_end halt.Unread own at none = absurd own
      by_end (halt.Unopened m) own at none = absurd own
      by_end (halt.Fault line v) own at none = own_stop (length titles) (place_of (record { book = read.book; line = line })) v
      by_end halt.Stopped own at none = absurd (let bad : true ≡ false = sym (stopped_fault (marks_of jobs) events legal.lawful at) ∙ none in cc)

      by_fault : (b : Bool) → list_any is_fault events ≡ b → IsOwn report.outcome
      by_fault true some = subst IsOwn (sym (fault_outcome_is titles events report reports some).3) tt
      by_fault false none = subst IsOwn (sym (no_fault_outcome titles events report reports none end_is read.sealed_by)) (by_end read.why own read.sealed_by none)

  -- a call failed
  module _ (failure : Failure) (counted : Counted named old new failure) where
    -- the counts, where no job is at fault
    counts_by : (h : Halt) → read.why ≡ h → (CountsAt named old new (end_outcome (length titles) (Some (end_at read.book h)))) → CountsAt named old new report.outcome
    counts_by h is at = by_fault (list_any is_fault events) refl
      where
        by_fault : (b : Bool) → list_any is_fault events ≡ b → CountsAt named old new report.outcome
        by_fault true some =
            let f = fault_outcome_is titles events report reports some in
            subst (CountsAt named old new) (sym f.3) (counts_failed named old new f.0 f.1 f.2 f.4 failure counted)
        by_fault false none = subst (CountsAt named old new) (sym (no_fault_outcome titles events report reports none (end_at read.book h) (read.sealed_by ∙ ap (λ x. Some (end_at read.book x)) is))) at

  pub counts : CountsAt named old new report.outcome
  counts = ⊎_elim (λ own. counts_held named old new report.outcome (own_outcome own) (held_end named old new read.why own read.counts)) (⊎_elim unread unopened) (halt_cases read.why)
    where
      unread : read.why ≡ halt.Unread → CountsAt named old new report.outcome
      unread is = let counted = subst (HaltCounts named old new) is read.counts in counts_by of_read counted halt.Unread is counted

      unopened : (m : List ℕ) × (read.why ≡ halt.Unopened m) → CountsAt named old new report.outcome
      unopened is = let counted = subst (HaltCounts named old new) is.1 read.counts in counts_by (of_opening is.0) counted (halt.Unopened is.0) is.1 counted

  module _ (all : Books) (told : old.books ≡ Some all) where
    abbrev s : Setting
    s = setting_of root all

    as_jobs : IsReportOf (job_titles job_of jobs) events report
    as_jobs = subst (λ ts. IsReportOf ts events report) read.titled reports

    put_in : (w : Walk) → AreJobsBehind s.limits budget s.own no_theory w.commands (plain_jobs jobs) → ChecksJobsIn s.limits budget s.own job_of w jobs events
    put_in w are = record { legal = legal; finished = finished; few = read.few; jobs_are = are }

    check_in : (w : Walk) (e : End) → end_of events ≡ Some e → EndsBehind s.limits budget s.own w jobs e → ChecksTheory s.limits budget s.own job_of w jobs events
    check_in w e sealed behind = record {
      checks = put_in w behind.jobs_are;
      ends = λ x is. subst (EndsReading s.limits budget s.own w (length jobs)) (same_end e x (sym sealed ∙ is)) behind.reader;
    }

    -- where memory may have ended in the whole books
    found_whole : (h : Halt) → end_of events ≡ Some (end_at read.book h) → MemoryAt s (length jobs) read.book h → (count : ℕ) (place : Place) → DueAt (walk_in s (whole_library s)) (end_of events) (length jobs) count place
        → (spot : Spot) × (place ≡ place_of spot) × MemoryDue s count spot
    found_whole h sealed memory count place due = ⊎_elim at_command at_end due
      where
        at_command : (c : Placed) × (later : List Placed) × (drop count (walk_in s (whole_library s)).commands ≡ c ∷ later) × (place ≡ place_of (spot_of c)) → (spot : Spot) × (place ≡ place_of spot) × MemoryDue s count spot
        at_command d = (spot_of d.0, d.3, (whole_library s, (λ k. inl refl), command_due (walk_in s (whole_library s)) count d.0 d.1 d.2))

        at_end : (count ≡ length jobs) × (end_of events ≡ Some (end.Fault place verdict.Memory)) → (spot : Spot) × (place ≡ place_of spot) × MemoryDue s count spot
        at_end d = subst (λ n. (spot : Spot) × (place ≡ place_of spot) × MemoryDue s n spot) (sym d.0)
            (memory_found s (length jobs) read.book place h memory (same_end (end_at read.book h) (end.Fault place verdict.Memory) (sym sealed ∙ d.1)))

    -- where it may have in other books, which end at a failed call
    found_part : (lib : Library) (e : End) → IsCall e → end_of events ≡ Some e → (count : ℕ) (place : Place) → DueAt (walk_in s lib) (end_of events) (length jobs) count place
        → (spot : Spot) × (place ≡ place_of spot) × IsDueAt (walk_in s lib) count spot
    found_part lib e call sealed count place due = ⊎_elim (λ d. (spot_of d.0, d.3, command_due (walk_in s lib) count d.0 d.1 d.2))
        (λ d. absurd (subst IsCall (same_end e (end.Fault place verdict.Memory) (sym sealed ∙ d.1)) call)) due

    part_reports : (lib : Library) (e : End) → IsCall e → end_of events ≡ Some e → EndsBehind s.limits budget s.own (walk_in s lib) jobs e → Reports s budget lib report.lines report.outcome
    part_reports lib e call sealed behind =
        reports_from s budget (IsDueAt (walk_in s lib)) lib (end_of events) (length jobs) report.lines report.outcome (found_part lib e call sealed)
        (theory_reports s.limits budget s.own job_of (walk_in s lib) jobs events report (check_in (walk_in s lib) e sealed behind) as_jobs)

    -- the books were read to their end, or reading halted
    whole_ends : (o : Outcome) → IsOwn o → HasHeld old new → ReportsWhole s budget report.lines o → EndsOn s budget old new report.lines o
    whole_ends (Accepted count) own held r = (r, held)
    whole_ends (Stopped number place v) own held r = (r, inl held)
    whole_ends (Unread number place) own held r = absurd own
    whole_ends (Unopened name) own held r = absurd own

    all_read : IsHalted read.why → EndsOn s budget old new report.lines report.outcome
    all_read own =
        let w = whole_of s budget new jobs read.book read.why own (read.ends all told) in
        whole_ends report.outcome (own_outcome own) (held_end named old new read.why own read.counts)
        (reports_from s budget (MemoryDue s) (whole_library s) (end_of events) (length jobs) report.lines report.outcome (found_whole read.why read.sealed_by w.1)
        (theory_reports s.limits budget s.own job_of (walk_in s (whole_library s)) jobs events report (check_in (walk_in s (whole_library s)) end_is read.sealed_by w.0) as_jobs))

    -- a call failed
    module _ (failure : Failure) (counted : Counted named old new failure) (h : Halt) (is : read.why ≡ h) (call : IsCall (end_at read.book h)) (no_memory : MemoryAt s (length jobs) read.book h)
        (front : EndsFront s budget new jobs failure (end_at read.book h)) where
      sealed : end_of events ≡ Some (end_at read.book h)
      sealed = read.sealed_by ∙ ap (λ x. Some (end_at read.book x)) is

      given_ends : EndsGiven s budget old new report.lines report.outcome failure
      given_ends = record { counted = counted; given = front.given; left = front.left; reports = part_reports (given_till s front.given failure) (end_at read.book h) call sealed front.ends }

      part_read : (EndsGiven s budget old new report.lines (end_outcome (length titles) (Some (end_at read.book h))) failure → report.outcome ≡ end_outcome (length titles) (Some (end_at read.book h))
          → EndsOn s budget old new report.lines (end_outcome (length titles) (Some (end_at read.book h)))) → EndsOn s budget old new report.lines report.outcome
      part_read ended = by_fault (list_any is_fault events) refl
        where
          by_fault : (b : Bool) → list_any is_fault events ≡ b → EndsOn s budget old new report.lines report.outcome
          by_fault true some =
              let f = fault_outcome_is titles events report reports some in
              subst (EndsOn s budget old new report.lines) (sym f.3) (
                subst (ReportsWhole s budget report.lines) f.3
                    (reports_from s budget (MemoryDue s) (whole_library s) (end_of events) (length jobs) report.lines report.outcome (found_whole h sealed no_memory)
                    (theory_faults s.limits budget s.own job_of (walk_in s (whole_library s)) jobs events report (put_in (walk_in s (whole_library s)) front.begins) some as_jobs)),
                inr (failure, subst (λ o. EndsGiven s budget old new report.lines o failure) f.3 given_ends),
              )
          by_fault false none =
              let is_end = no_fault_outcome titles events report reports none (end_at read.book h) sealed in
              subst (EndsOn s budget old new report.lines) (sym is_end) (ended (subst (λ o. EndsGiven s budget old new report.lines o failure) is_end given_ends) is_end)

    pub ends : EndsOn s budget old new report.lines report.outcome
    ends = ⊎_elim all_read (⊎_elim unread unopened) (halt_cases read.why)
      where
        ended_so : EndsBooks s budget new jobs read.book read.why
        ended_so = read.ends all told

        unread : read.why ≡ halt.Unread → EndsOn s budget old new report.lines report.outcome
        unread is = part_read of_read (subst (HaltCounts named old new) is read.counts) halt.Unread is tt tt (subst (EndsBooks s budget new jobs read.book) is ended_so) (λ g same. g)

        unopened : (m : List ℕ) × (read.why ≡ halt.Unopened m) → EndsOn s budget old new report.lines report.outcome
        unopened is =
            let e = subst (EndsBooks s budget new jobs read.book) is.1 ended_so in
            let lib = without (Some is.0) (whole_library s) in
            part_read (of_opening is.0) (subst (HaltCounts named old new) is.1 read.counts) (halt.Unopened is.0) is.1 tt tt e.0
            (λ g same. (
              g,
              subst (Reports s budget lib report.lines) same
                  (part_reports lib (end_at read.book (halt.Unopened is.0)) tt (read.sealed_by ∙ ap (λ x. Some (end_at read.book x)) is.1) e.1),
            ))

-- ---- from the opening of the file on

pub from_opening : (root : Root) (budget : ℕ) (old mid new : ShelfState) (jobs : List (Job × Bool)) (e : Option End) (titles : List Title) → mid.books ≡ old.books → HoldsCounts old mid
    → ReadsBooks root budget mid new jobs e titles → ReadsBooks root budget old new jobs e titles
from_opening root budget old mid new jobs e titles books held read = record {
  book = read.book;
  why = read.why;
  few = read.few;
  ends = λ all told. read.ends all (books ∙ told);
  books_are = read.books_are ∙ books;
  counts = counts_then (book_named (string_bytes root.file)) old mid new read.why held read.counts;
  sealed_by = read.sealed_by;
  titled = read.titled;
}

-- each job has its title
pub as_many_titles : (root : Root) (budget : ℕ) (old new : ShelfState) (jobs : List (Job × Bool)) (e : Option End) (titles : List Title) → ReadsBooks root budget old new jobs e titles → length titles ≡ length jobs
as_many_titles root budget old new jobs e titles read = ap length read.titled ∙ length-map jobs (λ (j : Job × Bool). (job_of j.0).title)

-- ---- what is put aside

-- where all was accepted, the books were read to their end
pub leaves : (old mid new : ShelfState) (titles : List Title) (events : List Event) (report : FileReport) → IsReportOf titles events report → LeavesFormer old mid
    → IfSome (end_of events) (EndLeaves (length mid.aside) new) → LeavesAt old new report.outcome
leaves old mid new titles events report reports former ended =
    subst (λ (r : FileReport). LeavesAt old new r.outcome) (sym reports.2) (by_first reports.0)
  where
    at_fault : (count : ℕ) (place : Place) (v : Verdict) → LeavesAt old new (fault_outcome count place v)
    at_fault count place verdict.Accepted = tt
    at_fault count place (verdict.Refused code) = tt
    at_fault count place verdict.Ended = tt
    at_fault count place verdict.Memory = by_line (place.line == 0)
      where
        by_line : (b : Bool) → LeavesAt old new (if b then Stopped 0 nowhere verdict.Memory else Stopped (count + 1) place verdict.Memory)
        by_line true = tt
        by_line false = tt

    at_end : (e : Option End) → IfSome e (EndLeaves (length mid.aside) new) → LeavesAt old new (end_outcome (length titles) e)
    at_end None ended = tt
    at_end (Some end.Whole) ended = former_kept old mid new former ended
    at_end (Some end.Stopped) ended = tt
    at_end (Some (end.Unread place)) ended = tt
    at_end (Some (end.Unopened name)) ended = tt
    at_end (Some (end.Fault place v)) ended = at_fault (length titles) place v

    by_first : (f : Option (ℕ × Verdict)) → LeavesAt old new (report_with titles f (end_of events)).outcome
    by_first (Some f) = tt
    by_first None = at_end (end_of events) ended
