-- What a turn of the books leaves at the desk.
use Rattle.std.proofs.Common.{◌≡◌, ◌≤◌, arith, inl, inr, ⊎_elim, ℕ, List, [], ◌∷◌, ◌++◌, length, refl, sym, ap, subst, ◌∙◌, Some, None}
use Rattle.std.specs.Prelude.{Result, Ok, Err, OnOk, IfErr}
use Rattle.dk_io.specs.Bytes.{Books}
use Rattle.dk_model.specs.declared.code.Verdict.TheVariants as verdict
use Rattle.dk_model.specs.declared.limits.Limits.{Limits}
use Rattle.dk_parser.specs.RawViews.{written_form}
use Rattle.dk_parser.specs.declared.raw.Raw.{Raw}
use Rattle.scope_terms.specs.Reading.{Reading, after_entering, after_leaving, entering, no_reading}
use Rattle.scope_terms.specs.Scopes.{Module, Symbols}
use Rattle.scope_terms.specs.declared.modules.Entered.{Entered}
use Rattle.scope_terms.specs.declared.modules.Entered.TheVariants.{Known, New, Open}
use Rattle.signature_log.specs.Versions.{entries_of}
use Rattle.signature_log.specs.declared.version.Version.{Version}
use Rattle.board_core.specs.declared.event.End.{End}
use Rattle.board_core.specs.declared.event.End.TheVariants as end
use Rattle.board_core.specs.Machine.{MayEnd}
use Rattle.theory_walk.specs.Libraries.{Key}
use Rattle.theory_walk.specs.Walks.{Placed, spot_of}
use Rattle.file_report.specs.Outcomes.{Theory}
use Rattle.file_report.specs.Reports.{place_of}
use Rattle.book_reader.specs.declared.walker.Root.{Root}
use Rattle.book_reader.specs.declared.walker.Turn.TheVariants as turn
use Rattle.book_reader.specs.declared.walker.WalkEnd.{WalkEnd}
use Rattle.book_reader.specs.declared.walker.WalkEnd.TheVariants as walk
use Rattle.book_reader.specs.declared.walker.Walker.{Walker}
use Rattle.book_reader.specs.Ends.{BeginsWalk, CausesEnd, ComesTo, HoldsCounts, LeavesRoom, Moves, below_file, books_open, placed}
use Rattle.book_reader.specs.Ends as books
use Rattle.book_reader.specs.Shelves.{ShelfState}
use Rattle.book_reader.specs.Walkers.{HasGiven, opens_of, setting_of}
use Rattle.book_reader.proofs.Ending.{begins_so}
use Rattle.theory_walk.specs.BookNames.{book_named}
use Rattle.file_check.specs.declared.desk.Desk.{Desk}
use Rattle.file_check.specs.declared.halt.Halt.{Halt}
use Rattle.file_check.specs.declared.halt.Halt.TheVariants as halt
use Rattle.file_check.specs.declared.lectern.Lectern.{Lectern}
use Rattle.file_check.specs.declared.theory.Theory.{Theory as Kept}
use Rattle.file_check.specs.Desks.{IsSound, IsVerdictOn, StandsBehind, Stays, Takes, known_at, same_bounds, seen_at}
use Rattle.file_check.specs.Desks as desk
use Rattle.file_check.specs.Halts.{end_at}
use Rattle.file_check.specs.Jobs.{module_at, modules_of, theory_of}
use Rattle.file_check.specs.Lecterns.{EndLeaves, EndsBooks, EntersModule, HaltCounts, IsBegun, IsReady, IsTied, Keeps, KeepsDesk, PutsCommand, Stands, StepLeaves, StepsTo, halt_at}
use Rattle.file_check.proofs.Desking.{fresh_ready}
use Rattle.file_check.proofs.Ending.{ends_so, memory_so, stops_so, verdict_so}
use Rattle.file_check.proofs.Modules.{first_key, reads_module, tied_entered, tied_first, tied_kept, tied_left}
use Rattle.file_check.proofs.Standing.{goes_on, not_accepted, ready_more, starts_behind, stays_behind, verdict_is}

-- what is so whatever comes is so where there is a value
pub on_ok_so : {A E P : Type 0} (r : Result A E) → P → OnOk r P
on_ok_so (Ok a) p = p
on_ok_so (Err e) p = tt

-- ---- a desk that keeps its jobs

entering_symbols : (t : Entered) (r : Reading) (m : Module) → (entering t r m).symbols ≡ r.symbols
entering_symbols New r m = refl
entering_symbols Known r m = refl
entering_symbols Open r m = refl

theory_same : (old new : Kept) → (modules_of new).symbols ≡ (modules_of old).symbols → new.version ≡ old.version → theory_of new ≡ theory_of old
theory_same old new symbols version =
    ap (λ (x : Symbols). let T : Theory = record { names = x; signature = entries_of new.version } in T) symbols
    ∙ ap (λ (v : Version). let T : Theory = record { names = (modules_of old).symbols; signature = entries_of v } in T) version

pub kept_sound : (old new : Desk) → KeepsDesk old new → IsSound old.limits old.titles (known_at old) → IsSound new.limits new.titles (known_at new)
kept_sound old new keeps sound =
    subst (λ p. IsSound new.limits new.titles p.seat.me.0.known) (sym keeps.pass)
    (subst (λ ts. IsSound new.limits ts (known_at old)) (sym keeps.titles) (subst (λ (l : Limits). IsSound l old.titles (known_at old)) (sym keeps.limits) sound))

kept_ready : (old new : Desk) → KeepsDesk old new → (modules_of new.theory).symbols ≡ (modules_of old.theory).symbols → desk.IsReady old → desk.IsReady new
kept_ready old new keeps symbols ready = record {
  sound = kept_sound old new keeps ready.sound;
  counted = ap (λ (x : Symbols). x.count) symbols ∙ ready.counted ∙ sym (ap length keeps.titles);
}

pub entered_symbols : (old new : Desk) (m : Key) → EntersModule old new m → (modules_of new.theory).symbols ≡ (modules_of old.theory).symbols
entered_symbols old new m enters = ap (λ (r : Reading). r.symbols) enters.modules ∙ entering_symbols ((modules_of old.theory).standing m) (modules_of old.theory) m

-- ---- the next turn may come

-- the desk is as it was
pub ready_on : (old : Lectern) (w : Walker) (s t : ShelfState) → IsReady old s → w.root ≡ old.walker.root → books.IsReady w t → (books_open w ≡ books_open old.walker) × (w.opened ≡ old.walker.opened)
    → IsReady (record { walker = w; desk = old.desk }) t
ready_on old w s t ready root walker moved = record {
  walker = walker;
  desk_is = ready.desk_is;
  limits = ready.limits ∙ ap (λ (r : Root). r.limits) (sym root);
  tied = tied_kept old.walker w (modules_of old.desk.theory) (modules_of old.desk.theory) ready.tied moved.0 moved.1 root refl refl;
}

-- a module was entered
pub ready_entered : (old : Lectern) (w : Walker) (d : Desk) (s t : ShelfState) → IsReady old s → w.root ≡ old.walker.root → books.IsReady w t → Moves old.walker w (Ok turn.Entered)
    → EntersModule old.desk d w.top.«module» → IsReady (record { walker = w; desk = d }) t
ready_entered old w d s t ready root walker moved enters = record {
  walker = walker;
  desk_is = kept_ready old.desk d enters.keeps (entered_symbols old.desk d w.top.«module» enters) ready.desk_is;
  limits = enters.keeps.limits ∙ ready.limits ∙ ap (λ (r : Root). r.limits) (sym root);
  tied = tied_entered old.walker w moved.0 (modules_of old.desk.theory) (modules_of d.theory) ready.tied moved.1 moved.2 moved.3 root
      (enters.modules ∙ ap (after_entering (modules_of old.desk.theory)) (ap first_key moved.2));
}

-- a module was left
pub ready_left : (old : Lectern) (w : Walker) (d : Desk) (s t : ShelfState) → IsReady old s → w.root ≡ old.walker.root → books.IsReady w t → Moves old.walker w (Ok turn.Left)
    → KeepsDesk old.desk d → modules_of d.theory ≡ after_leaving (modules_of old.desk.theory) → IsReady (record { walker = w; desk = d }) t
ready_left old w d s t ready root walker moved keeps left = record {
  walker = walker;
  desk_is = kept_ready old.desk d keeps (ap (λ (r : Reading). r.symbols) left) ready.desk_is;
  limits = keeps.limits ∙ ready.limits ∙ ap (λ (r : Root). r.limits) (sym root);
  tied = tied_left old.walker w (modules_of old.desk.theory) (modules_of d.theory) ready.tied moved root left;
}

-- a command became a job
pub ready_put : (old : Lectern) (w : Walker) (d : Desk) (raw : Raw) (s t : ShelfState) → IsReady old s → w.root ≡ old.walker.root → books.IsReady w t → (books_open w ≡ books_open old.walker) × (w.opened ≡ old.walker.opened)
    → same_bounds old.desk d → IsSound d.limits d.titles (known_at d) → Takes old.desk d (written_form raw.form) (place_of (record { book = w.top.«module»; line = raw.line }))
    → IsReady (record { walker = w; desk = d }) t
ready_put old w d raw s t ready root walker moved same sound takes = record {
  walker = walker;
  desk_is = ready_more old.desk d (written_form raw.form) (place_of (record { book = w.top.«module»; line = raw.line })) ready.desk_is sound takes;
  limits = same.0 ∙ ready.limits ∙ ap (λ (r : Root). r.limits) (sym root);
  tied = tied_kept old.walker w (modules_of old.desk.theory) (modules_of d.theory) ready.tied moved.0 moved.1 root takes.modules.entered takes.modules.standing;
}

pub put_ready : (old : Lectern) (w : Walker) (d : Desk) (raw : Raw) (s t : ShelfState) → IsReady old s → w.root ≡ old.walker.root → books.IsReady w t → (books_open w ≡ books_open old.walker) × (w.opened ≡ old.walker.opened)
    → same_bounds old.desk d → IsSound d.limits d.titles (known_at d) → (r : Result Unit Halt)
    → PutsCommand old.desk (written_form raw.form) (place_of (record { book = w.top.«module»; line = raw.line })) d r → OnOk r (IsReady (record { walker = w; desk = d }) t)
put_ready old w d raw s t ready root walker moved same sound (Ok u) takes = ready_put old w d raw s t ready root walker moved same sound takes
put_ready old w d raw s t ready root walker moved same sound (Err h) puts = tt

pub keeps_then : (a b c : Lectern) → Keeps a b → Keeps b c → Keeps a c
keeps_then a b c first later = record {
  root = later.root ∙ first.root;
  limits = later.limits ∙ first.limits;
  budget = later.budget ∙ first.budget;
  made = later.made ∙ first.made;
}

-- ---- what was given, and the jobs

module _ (all : Books) (done : List Placed) (old : Lectern) (w : Walker) (s t : ShelfState) (root : w.root ≡ old.walker.root) (stands : Stands all done old s) where
  -- the desk stands where it stood
  desk_behind : StandsBehind w.root.limits old.desk.budget w.root.own old.desk done
  desk_behind = subst (λ (r : Root). StandsBehind r.limits old.desk.budget r.own old.desk done) (sym root) stands.behind

  begun : (more : List Placed) → HasGiven all more t w → BeginsWalk (setting_of w.root all) more
  begun more given = begins_so (setting_of w.root all) (opens_of w) w.opened t more given

  pub stands_on : HasGiven all done t w → StepsTo all (record { walker = w; desk = old.desk }) t (Ok tt)
  stands_on given = (done, record { given = given; behind = desk_behind })

  -- reading ended by itself
  pub stands_ended : (e : WalkEnd) → ComesTo all done w t (Err e) → StepsTo all (record { walker = w; desk = old.desk }) t (Err (halt_at e))
  stands_ended e ended =
      ends_so (setting_of w.root all) old.desk.budget (known_at old.desk) done desk_behind.counted desk_behind.jobs w.top.«module» t e ended.0 ended.1

  module _ (d : Desk) (keeps : KeepsDesk old.desk d) where
    kept_behind : (modules_of d.theory).symbols ≡ (modules_of old.desk.theory).symbols → StandsBehind w.root.limits d.budget w.root.own d done
    kept_behind symbols =
        subst (λ b. StandsBehind w.root.limits b w.root.own d done) (sym keeps.budget)
        (stays_behind w.root.limits old.desk.budget w.root.own old.desk d done desk_behind keeps.limits keeps.budget (ap (λ p. p.seat.me.0.known) keeps.pass)
        (theory_same old.desk.theory d.theory symbols keeps.version))

    pub stands_moved : (modules_of d.theory).symbols ≡ (modules_of old.desk.theory).symbols → HasGiven all done t w → StepsTo all (record { walker = w; desk = d }) t (Ok tt)
    stands_moved symbols given = (done, record { given = given; behind = kept_behind symbols })

    -- memory ended where a book was opened
    pub stands_unentered : (h : Halt) → h ≡ halt.Fault 1 verdict.Memory → ComesTo all done w t (Ok turn.Entered) → StepsTo all (record { walker = w; desk = d }) t (Err h)
    stands_unentered h is came =
        subst (λ (x : Halt). StepsTo all (record { walker = w; desk = d }) t (Err x)) (sym is)
        (subst (λ b. EndsBooks (setting_of w.root all) b t (known_at d) w.top.«module» (halt.Fault 1 verdict.Memory)) (sym keeps.budget)
        (subst (λ p. EndsBooks (setting_of w.root all) old.desk.budget t p.seat.me.0.known w.top.«module» (halt.Fault 1 verdict.Memory)) (sym keeps.pass)
        (memory_so (setting_of w.root all) old.desk.budget (known_at old.desk) done desk_behind.counted desk_behind.jobs w.top.«module» t 1 came.1 (begun done came.0))))

    pub stands_entered : ComesTo all done w t (Ok turn.Entered) → (r : Result Unit Halt) → OnOk r (EntersModule old.desk d w.top.«module») → IfErr r (λ h. h ≡ halt.Fault 1 verdict.Memory)
        → StepsTo all (record { walker = w; desk = d }) t r
    stands_entered came (Ok u) enters is = stands_moved (entered_symbols old.desk d w.top.«module» enters) came.0
    stands_entered came (Err h) enters is = stands_unentered h is came

  -- ---- a command

  module _ (raw : Raw) (d : Desk) (same : same_bounds old.desk d) (as_many : length old.desk.titles ≡ length (known_at old.desk)) (tied : IsTied w (modules_of old.desk.theory)) (came : ComesTo all done w t (Ok (turn.Command raw))) where
    abbrev c : Placed
    c = placed w raw

    module_is : module_at old.desk.theory ≡ Rattle.theory_walk.specs.Walks.module_in w.root.own c.book
    module_is = reads_module w (modules_of old.desk.theory) tied

    abbrev PutSo : Result Unit Halt → Type 0
    PutSo r = PutsCommand old.desk (written_form raw.form) (place_of (spot_of c)) d r

    kept_jobs : (h : Halt) → Stays old.desk d → EndsBooks (setting_of w.root all) old.desk.budget t (known_at old.desk) w.top.«module» h → StepsTo all (record { walker = w; desk = d }) t (Err h)
    kept_jobs h stays ends =
        subst (λ b. EndsBooks (setting_of w.root all) b t (known_at d) w.top.«module» h) (sym same.1)
        (subst (λ js. EndsBooks (setting_of w.root all) old.desk.budget t js w.top.«module» h) (sym stays.jobs) ends)

    pub stands_put : (r : Result Unit Halt) → PutSo r → StepsTo all (record { walker = w; desk = d }) t r
    stands_put (Ok u) takes = (
      done ++ c ∷ [],
      record {
        given = came;
        behind = subst (λ b. StandsBehind w.root.limits b w.root.own d (done ++ c ∷ [])) (sym same.1)
            (goes_on w.root.limits old.desk.budget w.root.own old.desk d done c desk_behind module_is same takes);
      },
    )
    stands_put (Err halt.Stopped) puts =
        kept_jobs halt.Stopped puts.0
        (stops_so (setting_of w.root all) old.desk.budget (known_at old.desk) done desk_behind.counted desk_behind.jobs w.top.«module» t (c ∷ []) (begun (done ++ c ∷ []) came))
    stands_put (Err (halt.Fault line v)) puts =
        kept_jobs (halt.Fault line v) puts.0
        (subst (λ n. EndsBooks (setting_of w.root all) old.desk.budget t (known_at old.desk) w.top.«module» (halt.Fault n v)) (sym puts.1)
        (verdict_so (setting_of w.root all) old.desk.budget (known_at old.desk) done desk_behind.counted desk_behind.jobs t c (begun (done ++ c ∷ []) came) v puts.2.other
        (⊎_elim inl (λ is. inr (verdict_is w.root.limits old.desk.budget w.root.own old.desk d done c desk_behind module_is v as_many is)) puts.2.due_is)))
    stands_put (Err halt.Whole) puts = absurd puts
    stands_put (Err halt.Unread) puts = absurd puts
    stands_put (Err (halt.Unopened m)) puts = absurd puts

-- ---- how the board may be sealed

pub put_may_end : (old new : Desk) (book : Key) (form : _) (place : _) (h : Halt) → PutsCommand old form place new (Err h) → MayEnd (seen_at new) (end_at book h)
put_may_end old new book form place halt.Stopped puts = puts.1
put_may_end old new book form place (halt.Fault line v) puts = not_accepted v puts.2.other
put_may_end old new book form place halt.Whole puts = absurd puts
put_may_end old new book form place halt.Unread puts = absurd puts
put_may_end old new book form place (halt.Unopened m) puts = absurd puts

pub walk_may_end : (d : Desk) (book : Key) (e : WalkEnd) → MayEnd (seen_at d) (end_at book (halt_at e))
walk_may_end d book walk.Whole = tt
walk_may_end d book walk.Unread = tt
walk_may_end d book (walk.Refused line code) = refl
walk_may_end d book (walk.Unopened m line) = tt
walk_may_end d book (walk.NoMemory line) = refl

-- ---- counts

pub walk_counts : (file : List ℕ) (s t : ShelfState) (e : WalkEnd) → CausesEnd file s t e → HaltCounts (book_named file) s t (halt_at e)
walk_counts file s t walk.Whole is = is
walk_counts file s t walk.Unread is = is
walk_counts file s t (walk.Refused line code) is = is
walk_counts file s t (walk.Unopened m line) is = is
walk_counts file s t (walk.NoMemory line) is = is

pub put_counts : (named : Key → List ℕ) (old new : Desk) (form : _) (place : _) (s t : ShelfState) (h : Halt) → PutsCommand old form place new (Err h) → HoldsCounts s t → HaltCounts named s t h
put_counts named old new form place s t halt.Stopped puts held = held
put_counts named old new form place s t (halt.Fault line v) puts held = held
put_counts named old new form place s t halt.Whole puts held = absurd puts
put_counts named old new form place s t halt.Unread puts held = absurd puts
put_counts named old new form place s t (halt.Unopened m) puts held = absurd puts

pub counts_then : (named : Key → List ℕ) (s t u : ShelfState) (h : Halt) → HoldsCounts s t → HaltCounts named t u h → HaltCounts named s u h
counts_then named s t u halt.Whole held is = (is.0 ∙ held.0, λ n. is.1 n ∙ held.1 n)
counts_then named s t u halt.Stopped held is = (is.0 ∙ held.0, λ n. is.1 n ∙ held.1 n)
counts_then named s t u (halt.Fault line v) held is = (is.0 ∙ held.0, λ n. is.1 n ∙ held.1 n)
counts_then named s t u halt.Unread held is = subst (λ n. Rattle.dk_io.specs.Causes.Rose n u.faults) held.0 is
counts_then named s t u (halt.Unopened m) held is = subst (λ n. Rattle.dk_io.specs.Causes.Rose n (u.missed (named (Some m)))) (held.1 (named (Some m))) is

-- ---- what is put aside

pub walk_leaves : (count : ℕ) (t : ShelfState) (book : Key) (e : WalkEnd) → LeavesRoom count t e → EndLeaves count t (end_at book (halt_at e))
walk_leaves count t book walk.Whole is = is
walk_leaves count t book walk.Unread is = tt
walk_leaves count t book (walk.Refused line code) is = tt
walk_leaves count t book (walk.Unopened m line) is = tt
walk_leaves count t book (walk.NoMemory line) is = tt

pub fewer_left : (few more : ℕ) (t : ShelfState) (e : End) → few ≤ more → EndLeaves few t e → EndLeaves more t e
fewer_left few more t end.Whole le leaves = omega (arith, le, leaves)
fewer_left few more t end.Stopped le leaves = tt
fewer_left few more t (end.Unread place) le leaves = tt
fewer_left few more t (end.Unopened m) le leaves = tt
fewer_left few more t (end.Fault place v) le leaves = tt

-- neither a command nor a book that is entered ends the file, and the walk is that of the turn
module _ (l m : Lectern) (w : Walker) (s t : ShelfState) (kept : below_file w t ≡ below_file l.walker s) (walker : m.walker ≡ w) where
  below_kept : below_file m.walker t ≡ below_file l.walker s
  below_kept = ap (λ x. below_file x t) walker ∙ kept

  pub put_leaves : (old new : Desk) (form : _) (place : _) (r : Result Unit Halt) → PutsCommand old form place new r → StepLeaves l s m t r
  put_leaves old new form place (Ok u) puts = below_kept
  put_leaves old new form place (Err halt.Stopped) puts = tt
  put_leaves old new form place (Err (halt.Fault line v)) puts = tt
  put_leaves old new form place (Err halt.Whole) puts = absurd puts
  put_leaves old new form place (Err halt.Unread) puts = absurd puts
  put_leaves old new form place (Err (halt.Unopened n)) puts = absurd puts

  pub enter_leaves : (r : Result Unit Halt) → IfErr r (λ h. h ≡ halt.Fault 1 verdict.Memory) → StepLeaves l s m t r
  enter_leaves (Ok u) is = below_kept
  enter_leaves (Err h) is = subst (λ x. StepLeaves l s m t (Err x)) (sym is) tt

-- ---- a file is begun

pub begun_so : (w : Walker) (d : Desk) (s : ShelfState) → books.IsReady w s → desk.IsFresh d → d.limits ≡ w.root.limits → (books_open w ≡ None ∷ []) × (w.opened ≡ [])
    → modules_of d.theory ≡ after_entering no_reading w.root.own → ((all : Books) → s.books ≡ Some all → HasGiven all [] s w) → IsBegun (record { walker = w; desk = d }) s
begun_so w d s walker fresh limits opens entered given = record {
  ready = record { walker = walker; desk_is = fresh_ready d fresh; limits = limits; tied = tied_first w (modules_of d.theory) opens.0 opens.1 entered };
  fresh = fresh;
  given = given;
}

-- nothing was put yet
pub begun_stands : (l : Lectern) (s : ShelfState) (all : Books) → IsBegun l s → s.books ≡ Some all → Stands all [] l s
begun_stands l s all begun told = record {
  given = begun.given all told;
  behind = subst (λ (i : Limits). StandsBehind i l.desk.budget l.walker.root.own l.desk []) begun.ready.limits (starts_behind l.walker.root.own l.desk begun.fresh);
}
