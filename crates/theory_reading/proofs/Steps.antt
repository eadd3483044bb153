-- What a turn of the books leaves of the reading of a theory.
use Rattle.std.proofs.Common.{◌≡◌, ◌<◌, true, false, ℕ, ◌+◌, List, [], ◌∷◌, ◌++◌, length, map, refl, sym, ap, subst, ◌∙◌, append_assoc, arith, length-append, ◌≤◌}
use Rattle.std.specs.Prelude.{if◌then◌else◌, nat_le, Result, Ok, Err, OnOk, OnErr, IfErr, Some, None}
use Rattle.std.proofs.lemmas.List.{map-append}
use Rattle.std.proofs.lemmas.Bool.Decides.{nat_tests}
use Rattle.dk_io.specs.Bytes.{Books}
use Rattle.dk_io.specs.Causes.{Rose}
use Rattle.dk_model.specs.Scoping.{plain_command}
use Rattle.dk_model.specs.PlainCommands.{PlainCommand}
use Rattle.dk_model.specs.declared.code.Code.{Code}
use Rattle.dk_model.specs.declared.code.Code.TheVariants.{E08}
use Rattle.dk_model.specs.declared.code.Fault.{Fault}
use Rattle.dk_model.specs.declared.code.Fault.TheVariants as fault
use Rattle.dk_model.specs.declared.code.Verdict.TheVariants as verdict
use Rattle.dk_model.specs.declared.limits.Limits.{Limits}
use Rattle.dk_model.specs.declared.scoped.Scoped.{Scoped}
use Rattle.dk_parser.specs.RawViews.{written_form}
use Rattle.dk_parser.specs.Written.{WrittenForm, written_declare}
use Rattle.dk_parser.specs.declared.raw.Raw.{Raw}
use Rattle.scope_terms.specs.Names.{reading as modules_in}
use Rattle.scope_terms.specs.Reading.{Reading, after_command, after_entering, after_leaving, entering}
use Rattle.scope_terms.specs.Scopes.{Module, Scoping, Symbols, names_after, scope_of, scoped}
use Rattle.scope_terms.specs.declared.modules.Entered.{Entered}
use Rattle.scope_terms.specs.declared.names.Names.{Names}
use Rattle.scope_terms.specs.declared.modules.Entered.TheVariants.{Known, New, Open}
use Rattle.theory_walk.specs.BookNames.{book_named}
use Rattle.theory_walk.specs.Libraries.{Key, Library}
use Rattle.theory_walk.specs.Walks.{Placed, Reached, Spot, Walk, module_in, spot_of}
use Rattle.theory_walk.specs.Walks as walks
use Rattle.file_report.specs.Reports.{reached_outcome, stopped_at}
use Rattle.book_reader.specs.declared.walker.Root.{Root}
use Rattle.book_reader.specs.declared.walker.Turn.TheVariants as turn
use Rattle.book_reader.specs.declared.walker.WalkEnd.{WalkEnd}
use Rattle.book_reader.specs.declared.walker.WalkEnd.TheVariants as end
use Rattle.book_reader.specs.declared.walker.Walker.{Walker}
use Rattle.book_reader.specs.Ends.{BeginsWalk, CausesEnd, ComesTo, EndsOf, HoldsCounts, KeepsBelow, LeavesRoom, Moves, below_file, books_open, placed}
use Rattle.book_reader.specs.Ends as books
use Rattle.book_reader.specs.Shelved.{Setting, given_library, walk_in, whole_library, without}
use Rattle.book_reader.specs.Shelves.{ShelfState}
use Rattle.book_reader.specs.Walkers.{HasGiven, opens_of, setting_of}
use Rattle.book_reader.proofs.Ending.{begins_so}
use Rattle.scope_terms.specs.Answers.{IsFaultOf}
use Rattle.theory_reading.specs.Faults.{IsFault}
use Rattle.theory_reading.specs.declared.reader.TheoryReader.{TheoryReader}
use Rattle.theory_reading.specs.Readers.{Adds, ArePassed, EndsReading, IsBehind, IsReady, Keeps, Puts, StepCauses, StepsTo, fault_next, module_at, theory_of, turned, verdict_next}
use Rattle.theory_reading.specs.Reads.{outcome_in}
use Rattle.theory_reading.specs.Shaped.{ScopedTheory, command_fault, no_commands, reading, scoped_fault, theory_behind, theory_in, verdict_by, verdict_in, with_scoped}
use Rattle.theory_reading.specs.Tied.{IsTied}
use Rattle.theory_reading.proofs.Modules.{first_key, reads_module, tied_entered, tied_kept, tied_left}
use Rattle.theory_reading.proofs.Passing.{behind_more, ended_so, outcome_is, passed_more, refused_so}

-- what is so whatever comes is so where there is a value
pub on_ok_so : {A E P : Type 0} (r : Result A E) → P → OnOk r P
on_ok_so (Ok a) p = p
on_ok_so (Err e) p = tt

entering_symbols : (t : Entered) (r : Reading) (m : Module) → (entering t r m).symbols ≡ r.symbols
entering_symbols New r m = refl
entering_symbols Known r m = refl
entering_symbols Open r m = refl

pub entered_symbols : (r s : Reading) (m : Module) → s ≡ after_entering r m → s.symbols ≡ r.symbols
entered_symbols r s m is = ap (λ (x : Reading). x.symbols) is ∙ entering_symbols (r.standing m) r m

counted_after : (names : Symbols) (m : Module) (form : WrittenForm) → (names_after names m form).count ≡ names.count + 1
counted_after names m (written_declare sort x params typ body) = refl
counted_after names m form = refl

-- ---- the next turn may come

module _ (old new : TheoryReader) (s t : ShelfState) (ready : IsReady old s) (root : new.walker.root ≡ old.walker.root) (walker : books.IsReady new.walker t) (most : new.most ≡ old.most) where
  most_is : new.most ≡ new.walker.root.limits.commands
  most_is = most ∙ ready.most_is ∙ ap (λ (r : Root). r.limits.commands) (sym root)

  -- no command came
  pub ready_kept : IsTied new.walker (modules_in new.names) → new.commands ≡ old.commands → (modules_in new.names).symbols ≡ (modules_in old.names).symbols → IsReady new t
  ready_kept tied commands symbols = record {
    walker = walker;
    tied = tied;
    most_is = most_is;
    few = let e : length new.commands ≡ length old.commands = ap length commands in omega (arith, e, ready.few, most);
    counted = ap (λ (x : Symbols). x.count) symbols ∙ ready.counted ∙ sym (ap length commands);
  }

  -- a command came
  pub ready_added : (form : WrittenForm) → (books_open new.walker ≡ books_open old.walker) × (new.walker.opened ≡ old.walker.opened) → length new.commands ≤ new.most → Adds old form new → IsReady new t
  ready_added form moved few adds = record {
    walker = walker;
    tied = tied_kept old.walker new.walker (modules_in old.names) (modules_in new.names) ready.tied moved.0 moved.1 root adds.entered adds.standing;
    most_is = most_is;
    few = few;
    counted = ap (λ (T : ScopedTheory). T.names.count) adds.theory ∙ counted_after (modules_in old.names).symbols (module_at old) form ∙ ap (λ n. n + 1) ready.counted ∙ sym adds.count;
  }

  pub put_ready : (form : WrittenForm) (line : ℕ) → (books_open new.walker ≡ books_open old.walker) × (new.walker.opened ≡ old.walker.opened) → length new.commands ≤ new.most
      → (r : Result Unit WalkEnd) → Puts old form line new r → OnOk r (IsReady new t)
  put_ready form line moved few (Ok u) puts = ready_added form moved few puts.1
  put_ready form line moved few (Err e) puts = tt

module _ (old : TheoryReader) (w : Walker) (s t : ShelfState) (ready : IsReady old s) (root : w.root ≡ old.walker.root) (walker : books.IsReady w t) where
  pub ready_on : (books_open w ≡ books_open old.walker) × (w.opened ≡ old.walker.opened) → IsReady (turned old w) t
  ready_on moved =
      ready_kept old (turned old w) s t ready root walker refl
      (tied_kept old.walker w (modules_in old.names) (modules_in old.names) ready.tied moved.0 moved.1 root refl refl) refl refl

  -- a module was entered
  pub ready_entered : (new : TheoryReader) → Moves old.walker w (Ok turn.Entered) → new.walker ≡ w → new.most ≡ old.most → new.commands ≡ old.commands
      → modules_in new.names ≡ after_entering (modules_in old.names) w.top.«module» → IsReady new t
  ready_entered new moved same most commands entered =
      ready_kept old new s t ready (ap (λ (x : Walker). x.root) same ∙ root) (subst (λ (x : Walker). books.IsReady x t) (sym same) walker) most
      (subst (λ (x : Walker). IsTied x (modules_in new.names)) (sym same)
      (tied_entered old.walker w moved.0 (modules_in old.names) (modules_in new.names) ready.tied moved.1 moved.2 moved.3 root
      (entered ∙ ap (after_entering (modules_in old.names)) (ap first_key moved.2))))
      commands (entered_symbols (modules_in old.names) (modules_in new.names) w.top.«module» entered)

  -- a module was left
  pub ready_left : (names : Names) → Moves old.walker w (Ok turn.Left) → modules_in names ≡ after_leaving (modules_in old.names)
      → IsReady (record { most = old.most; walker = w; names = names; commands = old.commands }) t
  ready_left names moved left =
      ready_kept old (record { most = old.most; walker = w; names = names; commands = old.commands }) s t ready root walker refl
      (tied_left old.walker w (modules_in old.names) (modules_in names) ready.tied moved root left) refl (ap (λ (r : Reading). r.symbols) left)

  -- a command came, and was put or not
  pub ready_command : (new : TheoryReader) (form : WrittenForm) (line : ℕ) → (books_open w ≡ books_open old.walker) × (w.opened ≡ old.walker.opened) → new.walker ≡ w → new.most ≡ old.most
      → length new.commands ≤ new.most → (r : Result Unit WalkEnd) → Puts (turned old w) form line new r → OnOk r (IsReady new t)
  ready_command new form line moved same most few r puts =
      put_ready (turned old w) new t t (ready_on moved) (ap (λ (x : Walker). x.root) same) (subst (λ (x : Walker). books.IsReady x t) (sym same) walker) most form line
      (ap books_open same, ap (λ (x : Walker). x.opened) same) few r puts

-- ---- how the books end

module _ (s : Setting) (done : List Placed) (cs : List Scoped) (theory : map plain_command cs ≡ (theory_behind s.limits s.own no_commands done).commands) (count : length cs ≡ length done) (passed : ArePassed s.limits s.own done) where
  abbrev whole : Walk
  whole = walk_in s (whole_library s)

  outcome_so : (lib : Library) (r : Reached) → walk_in s lib ≡ books.walk_with done r → outcome_in s lib ≡ reached_outcome (length cs) r
  outcome_so lib r is = outcome_is s lib ∙ ended_so s.limits s.own done passed (walk_in s lib) r is ∙ ap (λ n. reached_outcome n r) (sym count)

  pub ends_so : (book : Key) (shelf : ShelfState) (e : WalkEnd) → EndsOf s done book shelf e → EndsReading s shelf book cs e
  ends_so book shelf end.Whole ends = (
    outcome_so (whole_library s) (walks.goes_on ends.0) ends.1,
    ap (λ (w : Walk). (theory_behind s.limits s.own no_commands w.commands).commands) ends.1 ∙ sym theory,
  )
  ends_so book shelf (end.Refused line code) ends = outcome_so (whole_library s) (walks.ends (walks.refused_at (record { book = book; line = line }) code)) ends
  ends_so book shelf end.Unread ends =
      (ends.0, ends.1, outcome_so (given_library s ends.0) (walks.ends (walks.unread_at (record { book = book; line = ends.2.0 }))) ends.2.1)
  ends_so book shelf (end.Unopened m line) ends =
      let r = walks.ends (walks.not_opened (record { book = book; line = line }) m) in
      (outcome_so (without (Some m) (whole_library s)) r ends.3, (ends.0, ends.1, outcome_so (without (Some m) (given_library s ends.0)) r ends.2))
  ends_so book shelf (end.NoMemory line) ends = tt

-- ---- what was given, and the commands

same_theory : (old new : TheoryReader) → new.commands ≡ old.commands → (modules_in new.names).symbols ≡ (modules_in old.names).symbols → theory_of new ≡ theory_of old
same_theory old new commands symbols =
    ap (λ (x : Symbols). let T : ScopedTheory = record { names = x; commands = map plain_command new.commands } in T) symbols
    ∙ ap (λ (cs : List Scoped). let T : ScopedTheory = record { names = (modules_in old.names).symbols; commands = map plain_command cs } in T) commands

-- behind a turn
pub turned_behind : (done : List Placed) (old : TheoryReader) (w : Walker) → w.root ≡ old.walker.root → IsBehind old.walker.root.limits old.walker.root.own done old → IsBehind w.root.limits w.root.own done (turned old w)
turned_behind done old w root behind = record {
  theory = subst (λ (r : Root). theory_of old ≡ theory_behind r.limits r.own no_commands done) (sym root) behind.theory;
  count = behind.count;
  passed = subst (λ (r : Root). ArePassed r.limits r.own done) (sym root) behind.passed;
}

module _ (all : Books) (done : List Placed) (old new : TheoryReader) (t : ShelfState) (same : new.walker ≡ old.walker) (behind : IsBehind old.walker.root.limits old.walker.root.own done old) where
  behind_so : theory_of old ≡ theory_behind new.walker.root.limits new.walker.root.own no_commands done
  behind_so = subst (λ (x : Walker). theory_of old ≡ theory_behind x.root.limits x.root.own no_commands done) (sym same) behind.theory

  passed_so : ArePassed new.walker.root.limits new.walker.root.own done
  passed_so = subst (λ (x : Walker). ArePassed x.root.limits x.root.own done) (sym same) behind.passed

  -- no command came
  pub stands_kept : new.commands ≡ old.commands → (modules_in new.names).symbols ≡ (modules_in old.names).symbols → HasGiven all done t new.walker → StepsTo all new t (Ok tt)
  stands_kept commands symbols given = (
    done,
    record { given = given; behind = record { theory = same_theory old new commands symbols ∙ behind_so; count = ap length commands ∙ behind.count; passed = passed_so } },
  )

  -- reading ended by itself
  pub stands_ended : (e : WalkEnd) → new.commands ≡ old.commands → ComesTo all done new.walker t (Err e) → StepsTo all new t (Err e)
  stands_ended e commands ended =
      subst (λ (cs : List Scoped). EndsReading (setting_of new.walker.root all) t new.walker.top.«module» cs e) (sym commands)
      (ends_so (setting_of new.walker.root all) done old.commands (ap (λ (T : ScopedTheory). T.commands) behind_so) behind.count passed_so new.walker.top.«module» t e ended.0)

  pub stands_entered : (r : Result Unit WalkEnd) → new.commands ≡ old.commands → OnOk r (modules_in new.names ≡ after_entering (modules_in old.names) old.walker.top.«module») → IfErr r (λ e. e ≡ end.NoMemory 1)
      → ComesTo all done old.walker t (Ok turn.Entered) → StepsTo all new t r
  stands_entered (Ok u) commands entered is came =
      stands_kept commands (entered_symbols (modules_in old.names) (modules_in new.names) old.walker.top.«module» entered) (subst (λ (x : Walker). HasGiven all done t x) (sym same) came.0)
  stands_entered (Err e) commands entered is came = subst (λ (x : WalkEnd). StepsTo all new t (Err x)) (sym is) tt

  -- ---- a command

  module _ (raw : Raw) (most_is : old.most ≡ old.walker.root.limits.commands) (tied : IsTied old.walker (modules_in old.names)) (given : HasGiven all (done ++ placed old.walker raw ∷ []) t old.walker) where
    abbrev c : Placed
    c = placed new.walker raw

    abbrev limits : Limits
    limits = new.walker.root.limits

    abbrev own : Module
    own = new.walker.root.own

    most_so : old.most ≡ limits.commands
    most_so = most_is ∙ ap (λ (x : Walker). x.root.limits.commands) (sym same)

    module_is : module_at old ≡ module_in own c.book
    module_is = subst (λ (x : Walker). module_at old ≡ module_in x.root.own x.top.«module») (sym same) (reads_module old.walker (modules_in old.names) tied)

    came : HasGiven all (done ++ c ∷ []) t new.walker
    came = subst (λ (x : Walker). HasGiven all (done ++ placed x raw ∷ []) t x) (sym same) given

    due_so : (reading limits own).verdict_on (theory_behind limits own no_commands done) (length done) c ≡ verdict_next old (written_form raw.form)
    due_so =
        ap (λ (T : ScopedTheory). (reading limits own).verdict_on T (length done) c) (sym behind_so)
        ∙ ap (λ n. (reading limits own).verdict_on (theory_of old) n c) (sym behind.count)
        ∙ ap (λ m. verdict_in limits.commands (theory_of old) (length old.commands) m (written_form raw.form)) (sym module_is)
        ∙ ap (λ n. verdict_in n (theory_of old) (length old.commands) (module_at old) (written_form raw.form)) (sym most_so)

    added_so : Adds old (written_form raw.form) new → theory_of new ≡ theory_behind limits own no_commands (done ++ c ∷ [])
    added_so adds =
        adds.theory
        ∙ ap (λ m. theory_in (theory_of old) m (written_form raw.form)) module_is
        ∙ ap (λ (T : ScopedTheory). theory_in T (module_in own c.book) (written_form raw.form)) behind_so
        ∙ sym (behind_more limits own no_commands done c)

    begins : BeginsWalk (setting_of new.walker.root all) (done ++ c ∷ [])
    begins = begins_so (setting_of new.walker.root all) (opens_of new.walker) new.walker.opened t (done ++ c ∷ []) came

    pub stands_put : (r : Result Unit WalkEnd) → OnErr r (new.commands ≡ old.commands) → Puts old (written_form raw.form) raw.line new r → StepsTo all new t r
    stands_put (Ok u) kept puts = (
      done ++ c ∷ [],
      record {
        given = came;
        behind = record {
          theory = added_so puts.1;
          count = puts.1.count ∙ ap (λ n. n + 1) behind.count ∙ sym (length-append done (c ∷ []));
          passed = passed_more limits own done c passed_so (due_so ∙ puts.0);
        };
      },
    )
    stands_put (Err (end.Refused line code)) kept puts =
        outcome_is (setting_of new.walker.root all) (whole_library (setting_of new.walker.root all))
        ∙ refused_so limits own done passed_so (walk_in (setting_of new.walker.root all) (whole_library (setting_of new.walker.root all))) c begins.0 code
        (begins.1 ∙ append_assoc done (c ∷ []) begins.0) (due_so ∙ puts.1)
        ∙ ap (λ n. stopped_at (n + 1) (spot_of c) (verdict.Refused code)) (sym (ap length kept ∙ behind.count))
        ∙ ap (λ n. stopped_at (length new.commands + 1) (record { book = c.book; line = n }) (verdict.Refused code)) (sym puts.0)
    stands_put (Err (end.NoMemory line)) kept puts = tt
    stands_put (Err end.Whole) kept puts = absurd puts
    stands_put (Err end.Unread) kept puts = absurd puts
    stands_put (Err (end.Unopened m line)) kept puts = absurd puts

-- ---- counts

pub put_causes : (file : List ℕ) (old new : TheoryReader) (form : WrittenForm) (line : ℕ) (s t : ShelfState) (r : Result Unit WalkEnd) → Puts old form line new r → HoldsCounts s t → StepCauses file s t r
put_causes file old new form line s t (Ok u) puts held = held
put_causes file old new form line s t (Err (end.Refused at code)) puts held = held
put_causes file old new form line s t (Err (end.NoMemory at)) puts held = held
put_causes file old new form line s t (Err end.Whole) puts held = absurd puts
put_causes file old new form line s t (Err end.Unread) puts held = absurd puts
put_causes file old new form line s t (Err (end.Unopened m at)) puts held = absurd puts

pub fewer_left : (few more : ℕ) (t : ShelfState) (e : WalkEnd) → few ≤ more → LeavesRoom few t e → LeavesRoom more t e
fewer_left few more t end.Whole le leaves = omega (arith, le, leaves)
fewer_left few more t (end.Refused line code) le leaves = tt
fewer_left few more t end.Unread le leaves = tt
fewer_left few more t (end.Unopened m line) le leaves = tt
fewer_left few more t (end.NoMemory line) le leaves = tt

-- neither a command nor a book that is entered ends the file, and the walk is that of the turn
module _ (w v new : Walker) (s t : ShelfState) (kept : below_file v t ≡ below_file w s) (walker : new ≡ v) where
  below_kept : below_file new t ≡ below_file w s
  below_kept = ap (λ x. below_file x t) walker ∙ kept

  pub put_leaves : (old r : TheoryReader) (form : WrittenForm) (line : ℕ) (result : Result Unit WalkEnd) → Puts old form line r result → KeepsBelow w s new t result
  put_leaves old r form line (Ok u) puts = below_kept
  put_leaves old r form line (Err (end.Refused at code)) puts = tt
  put_leaves old r form line (Err (end.NoMemory at)) puts = tt
  put_leaves old r form line (Err end.Whole) puts = absurd puts
  put_leaves old r form line (Err end.Unread) puts = absurd puts
  put_leaves old r form line (Err (end.Unopened m at)) puts = absurd puts

  pub enter_leaves : (result : Result Unit WalkEnd) → IfErr result (λ e. e ≡ end.NoMemory 1) → KeepsBelow w s new t result
  enter_leaves (Ok u) is = below_kept
  enter_leaves (Err e) is = subst (LeavesRoom (below_file w s) t) (sym is) tt

pub causes_then : (file : List ℕ) (s t u : ShelfState) (e : WalkEnd) → HoldsCounts s t → CausesEnd file t u e → CausesEnd file s u e
causes_then file s t u end.Whole held is = (is.0 ∙ held.0, λ n. is.1 n ∙ held.1 n)
causes_then file s t u (end.Refused line code) held is = (is.0 ∙ held.0, λ n. is.1 n ∙ held.1 n)
causes_then file s t u (end.NoMemory line) held is = (is.0 ∙ held.0, λ n. is.1 n ∙ held.1 n)
causes_then file s t u end.Unread held is = subst (λ n. Rose n u.faults) held.0 is
causes_then file s t u (end.Unopened m line) held is = subst (λ n. Rose n (u.missed (book_named file (Some m)))) (held.1 (book_named file (Some m))) is

pub keeps_then : (a b c : TheoryReader) → Keeps a b → Keeps b c → Keeps a c
keeps_then a b c first later = record { root = later.root ∙ first.root; most = later.most ∙ first.most }

-- ---- a command is taken

pub adds_so : (old new : TheoryReader) (form : WrittenForm) (c : Scoped) → scope_of (modules_in old.names).symbols (module_at old) form ≡ scoped (plain_command c)
    → command_fault (map plain_command old.commands) (plain_command c) ≡ None → modules_in new.names ≡ after_command (modules_in old.names) form → new.commands ≡ old.commands ++ c ∷ [] → Adds old form new
adds_so old new form c scopes free names commands = record {
  free = ap (scoped_fault (map plain_command old.commands)) scopes ∙ free;
  theory =
      ap (λ (r : Reading). let T : ScopedTheory = record { names = r.symbols; commands = map plain_command new.commands } in T) names
      ∙ ap (λ cs. let T : ScopedTheory = record { names = names_after (modules_in old.names).symbols (module_at old) form; commands = cs } in T)
      (ap (map plain_command) commands ∙ map-append plain_command old.commands (c ∷ []) ∙ sym (ap (with_scoped (map plain_command old.commands)) scopes));
  count = ap length commands ∙ length-append old.commands (c ∷ []);
  entered = ap (λ (r : Reading). r.entered) names;
  standing = ap (λ (r : Reading). r.standing) names;
}

pub scope_fault : (cs : List PlainCommand) (s : Scoping PlainCommand) (f : Fault) → IsFaultOf s f → IsFault (scoped_fault cs s) f
scope_fault cs s (fault.Refused code) is = ap (scoped_fault cs) is
scope_fault cs s fault.NoMemory is = tt

pub shape_fault : (cs : List PlainCommand) (s : Scoping PlainCommand) (c : PlainCommand) (f : Fault) → s ≡ scoped c → IsFault (command_fault cs c) f → IsFault (scoped_fault cs s) f
shape_fault cs s c f scopes is = subst (λ x. IsFault (scoped_fault cs x) f) (sym scopes) is

-- the command is within the limit
pub verdict_within : (old : TheoryReader) (form : WrittenForm) → length old.commands < old.most → verdict_next old form ≡ verdict_by (fault_next old form)
verdict_within old form within = ap (λ b. if b then verdict.Refused E08 else verdict_by (fault_next old form)) (let q : nat_le old.most (length old.commands) ≡ false = grind (arith, nat_tests, within) in q)

pub put_added : (old new : TheoryReader) (form : WrittenForm) → length old.commands < old.most → Adds old form new → (verdict_next old form ≡ verdict.Accepted) × Adds old form new
put_added old new form within adds = (verdict_within old form within ∙ ap verdict_by adds.free, adds)

pub put_refused : (old : TheoryReader) (form : WrittenForm) (code : Code) → length old.commands < old.most → fault_next old form ≡ Some code → verdict_next old form ≡ verdict.Refused code
put_refused old form code within is = verdict_within old form within ∙ ap verdict_by is

-- the command is past the limit
pub put_past : (old : TheoryReader) (form : WrittenForm) → old.most ≤ length old.commands → verdict_next old form ≡ verdict.Refused E08
put_past old form past = ap (λ b. if b then verdict.Refused E08 else verdict_by (fault_next old form)) (let q : nat_le old.most (length old.commands) ≡ true = grind (arith, nat_tests, past) in q)
