use Rattle.std.proofs.Common.{◌≤◌, ◌+◌, ℕ, List, ◌∷◌, [], ◌++◌, length, sym, ap, subst, ◌∙◌, refl, arith}
use Rattle.std.proofs.lemmas.List.{reverse-reverse}
use Rattle.std.proofs.lemmas.Result.{on_ok_weaker}
use Rattle.std.specs.Prelude.{◌-◌, Option, reverse, vec_len}
use Rattle.dk_parser.specs.Modules.{modules_of}
use Rattle.dk_parser.specs.RawViews.{written_command}
use Rattle.dk_parser.specs.declared.raw.Raw.{Raw}
use Rattle.file_reader.specs.Progress.{IsBehind}
use Rattle.book_reader.specs.Rooms.{room_of_item}
use Rattle.book_reader.specs.Shelves.{shelf_of}
use Rattle.book_reader.specs.Walkers.{open_of, opens_below, opens_of, pending_of, setting_of, steps_behind}
use Rattle.book_reader.proofs.Given.{memory_line, next_line_is}
use Rattle.book_reader.proofs.Openings.{below_count}
use Rattle.book_reader.proofs.Turning.{found}
use Rattle.book_reader.proofs.Ending.{begins_so, faulted, memory_ended, read_failed}
use Rattle.book_reader.proofs.Turns.{below_then, causes_then, moves_up, whole_turn}
use Rattle.book_reader.proofs.Rooms.{needs_small}
use Rattle.book_reader.proofs.walker.Walker.read.Goals as goal

pub give_up-requires : goal.give_up-requires
give_up-requires g c =
    let w = c.args.self.now in
    let r = c.requires.ready in
    record {
      room = record {
        files_fit = r.room.files_fit;
        few = r.room.few;
        is_open = c.in-Err.ensures.is_open ∙ r.room.is_open;
        all_aside = subst (λ (l : List (Option (List ℕ))). vec_len w.below ≤ length l) (sym c.in-Err.ensures.aside) r.room.all_aside;
        room = subst (λ (l : List (Option (List ℕ))). length l ≤ vec_len w.below + 1) (sym c.in-Err.ensures.aside) r.room.room;
      };
      below = r.below;
    }

pub returns-in-Whole-clause-walks : goal.returns-in-Whole-clause-walks
returns-in-Whole-clause-walks g c = λ books done told st.
    let w = c.args.self.now in
    let few : length (opens_of w) ≤ w.root.most.files = let e = below_count w in omega (arith, e, c.requires.ready.room.few) in
    whole_turn books done w (record w { top = record w.top { reader = c.next.new.self } }) c.give_up.new.self
    (shelf_of g.H.Shelf c.args.shelf.now) (shelf_of g.H.Shelf c.next.new.shelf) (shelf_of g.H.Shelf c.give_up.new.shelf) c.give_up.result
    refl c.give_up.ensures.root refl refl c.give_up.ensures.gone
    (λ bytes d b. (rw c.in-Whole.is at c.in-Err.ensures.answers w.root.limits bytes d b))
    (ap pending_of c.requires.idle) c.in-Err.ensures.aside few st

pub returns-in-Whole-clause-causes : goal.returns-in-Whole-clause-causes
returns-in-Whole-clause-causes g c =
    causes_then _ (shelf_of g.H.Shelf c.args.shelf.now) (shelf_of g.H.Shelf c.next.new.shelf) (shelf_of g.H.Shelf c.give_up.new.shelf) c.give_up.result
    ((rw c.in-Whole.is at c.in-Err.ensures.faults), (rw c.in-Whole.is at c.in-Err.ensures.missed)) c.give_up.ensures.causes

pub returns-in-Refused-clause-walks : goal.returns-in-Refused-clause-walks
returns-in-Refused-clause-walks g c = λ books done told st.
    let w = c.args.self.now in (
      faulted (setting_of w.root books) (open_of w.top) (opens_below w) w.opened (shelf_of g.H.Shelf c.args.shelf.now) done _ _ (ap pending_of c.requires.idle)
          (λ bytes d b. (rw c.in-Refused.is at c.in-Err.ensures.answers w.root.limits bytes d b)) st,
      begins_so (setting_of w.root books) (opens_of w) w.opened (shelf_of g.H.Shelf c.args.shelf.now) done st,
    )

pub returns-in-Unread-clause-walks : goal.returns-in-Unread-clause-walks
returns-in-Unread-clause-walks g c = λ books done told st.
    let w = c.args.self.now in (
      read_failed (setting_of w.root books) (open_of w.top) (opens_below w) w.opened (shelf_of g.H.Shelf c.args.shelf.now) (shelf_of g.H.Shelf c.next.new.shelf) done (ap pending_of c.requires.idle)
          (λ bytes d b. (rw c.in-Unread.is at c.in-Err.ensures.answers w.root.limits bytes d b)) c.in-Err.ensures.aside st,
      begins_so (setting_of w.root books) (opens_of w) w.opened (shelf_of g.H.Shelf c.args.shelf.now) done st,
    )

pub returns-in-NoMemory-clause-walks : goal.returns-in-NoMemory-clause-walks
returns-in-NoMemory-clause-walks g c = λ books done told st.
    let w = c.args.self.now in (
      memory_ended (setting_of w.root books) (open_of w.top) (opens_below w) w.opened (shelf_of g.H.Shelf c.args.shelf.now) done _ (ap pending_of c.requires.idle)
          (λ bytes d b. memory_line w.root.limits bytes d _ (rw c.in-NoMemory.is at c.in-Err.ensures.answers w.root.limits bytes d b)) st,
      begins_so (setting_of w.root books) (opens_of w) w.opened (shelf_of g.H.Shelf c.args.shelf.now) done st,
    )

pub returns-in_default-clause-walks : goal.returns-in_default-clause-walks
returns-in_default-clause-walks g c = λ books done told st.
    let w = c.args.self.now in (
      memory_ended (setting_of w.root books) (open_of w.top) (opens_below w) w.opened (shelf_of g.H.Shelf c.args.shelf.now) done _ (ap pending_of c.requires.idle)
          (λ bytes d b. next_line_is w.root.limits bytes d (written_command c.into_raw-raw.result) _ c.next.new.self
          (subst (λ (r : Raw). IsBehind w.root.limits bytes (d ++ written_command r ∷ []) (g.H.Shelf.left c.next.new.shelf) c.next.new.self) (sym c.into_raw-raw.ensures) (c.in-Ok.ensures.answers w.root.limits bytes d b).0)) st,
      begins_so (setting_of w.root books) (opens_of w) w.opened (shelf_of g.H.Shelf c.args.shelf.now) done st,
    )

pub returns-clause-ready : goal.returns-clause-ready
returns-clause-ready g c =
    let w = c.args.self.now in
    record {
      room = record {
        files_fit = c.requires.ready.room.files_fit;
        few = c.requires.ready.room.few;
        is_open = c.in-Ok.ensures.is_open ∙ c.requires.ready.room.is_open;
        all_aside = subst (λ (l : List (Option (List ℕ))). vec_len w.below ≤ length l) (sym c.in-Ok.ensures.aside) c.requires.ready.room.all_aside;
        room = subst (λ (l : List (Option (List ℕ))). length l ≤ vec_len w.below + 1) (sym c.in-Ok.ensures.aside) c.requires.ready.room.room;
      };
      top = c.in-Ok.ensures.begun;
      below = c.requires.ready.below;
    }

pub returns-clause-walks : goal.returns-clause-walks
returns-clause-walks g c = λ books done told st.
    let w = c.args.self.now in
    let raw = c.into_raw-raw.result in
    let x = written_command raw in
    found (setting_of w.root books) (open_of w.top) (record { book = w.top.module; reader = c.next.new.self; pending = _ }) (opens_below w) w.opened
    (shelf_of g.H.Shelf c.args.shelf.now) (shelf_of g.H.Shelf c.next.new.shelf) done x
    refl (ap pending_of c.requires.idle)
    (ap pending_of c.replace.ensures.after ∙ ap (λ (l : List (List ℕ)). steps_behind x (reverse l)) c.in-Ok-needs.ensures ∙ ap (steps_behind x) (reverse-reverse (modules_of x.form)))
    (λ bytes d b. subst (λ (r : Raw). IsBehind w.root.limits bytes (d ++ written_command r ∷ []) (g.H.Shelf.left c.next.new.shelf) c.next.new.self) (sym c.into_raw-raw.ensures) (c.in-Ok.ensures.answers w.root.limits bytes d b).0)
    c.in-Ok.ensures.aside st

pub returns-in-Whole-clause-moves : goal.returns-in-Whole-clause-moves
returns-in-Whole-clause-moves g c =
    let w = c.args.self.now in
    moves_up w (record w { top = record w.top { reader = c.next.new.self } }) c.give_up.new.self (shelf_of g.H.Shelf c.next.new.shelf) (shelf_of g.H.Shelf c.give_up.new.shelf) c.give_up.result
    refl refl c.give_up.ensures.gone

pub returns-clause-moves : goal.returns-clause-moves
returns-clause-moves g c = (refl, refl)

pub returns-in-Whole-clause-room : goal.returns-in-Whole-clause-room
returns-in-Whole-clause-room g c = on_ok_weaker c.give_up.result (λ same. omega (arith, same)) c.give_up.ensures.room

pub returns-clause-room : goal.returns-clause-room
returns-clause-room g c =
    let less = c.in-Ok.ensures.room in
    let small = needs_small c.in-Ok-needs.needs in
    let idle = ap room_of_item c.requires.idle in
    let due = ap room_of_item c.replace.ensures.after in
    omega (arith, less, small, idle, due)

pub returns-in-Whole-clause-leaves : goal.returns-in-Whole-clause-leaves
returns-in-Whole-clause-leaves g c =
    let w = c.args.self.now in
    below_then w (record w { top = record w.top { reader = c.next.new.self } }) c.give_up.new.self
    (shelf_of g.H.Shelf c.args.shelf.now) (shelf_of g.H.Shelf c.next.new.shelf) (shelf_of g.H.Shelf c.give_up.new.shelf) c.give_up.result
    (ap (λ (l : List (Option (List ℕ))). length l - vec_len w.below) c.in-Err.ensures.aside) c.give_up.ensures.leaves

pub returns-clause-leaves : goal.returns-clause-leaves
returns-clause-leaves g c = ap (λ (l : List (Option (List ℕ))). length l - vec_len c.args.self.now.below) c.in-Ok.ensures.aside
