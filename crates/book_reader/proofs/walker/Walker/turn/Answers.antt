use Rattle.std.proofs.Common.{◌≡◌, ℕ, List, ◌∷◌, [], sym, ap, ◌∙◌, refl, arith}
use Rattle.std.proofs.lemmas.List.{append-nil}
use Rattle.std.proofs.lemmas.Result.{on_ok_weaker}
use Rattle.std.specs.Prelude.{reverse, take, ◌-◌, Some}
use Rattle.dk_parser.specs.RawViews.{written_command}
use Rattle.theory_walk.specs.Libraries.{command_step, need, put}
use Rattle.book_reader.specs.Shelves.{shelf_of}
use Rattle.book_reader.specs.Walkers.{Open, open_of, opens_below, opens_of, pending_of, setting_of, steps_behind}
use Rattle.book_reader.proofs.Openings.{pending_next}
use Rattle.book_reader.proofs.Turning.{among_at, taken}
use Rattle.book_reader.proofs.Turns.{below_then}
use Rattle.book_reader.specs.Rooms.{room_of_item}
use Rattle.book_reader.proofs.walker.Walker.turn.Goals as goal

pub returns-in_default-clause-walks : goal.returns-in_default-clause-walks
returns-in_default-clause-walks g c = λ books done told st.
    let w = c.args.self.now in
    c.read.ensures.walks books done told
    (among_at (setting_of w.root books) done (opens_of w) (record { book = w.top.module; reader = w.top.reader; pending = pending_of c.take.new.self } ∷ opens_below w) w.opened w.opened (shelf_of g.H.Shelf c.args.shelf.now)
    (ap (λ i. let o : Open = record { book = w.top.module; reader = w.top.reader; pending = pending_of i } in o ∷ opens_below w) (c.in_default.ensures.after ∙ c.in_default.ensures.value)) refl st)

pub returns-then-is_directive-clause-walks : goal.returns-then-is_directive-clause-walks
returns-then-is_directive-clause-walks g c = λ books done told st.
    let w = c.args.self.now in
    let x = written_command c.in-Some.item.raw in
    let e = c.in_default-pop.ensures in
    let none = e.items ∙ append-nil c.pop.new.self.items ∙ e.rest ∙ ap (λ n. take (n - 1) c.in-Some.item.needs.items) e.cases.0 in
    let was : pending_of w.top.item ≡ [] =
    ap pending_of (sym c.in-Some.ensures.value) ∙ ap (λ (l : List (List ℕ)). steps_behind x (reverse l)) none ∙ ap (λ b. command_step b x) (sym c.is_directive.ensures ∙ c.if-is_directive.true) in
    among_at (setting_of w.root books) done (opens_of w) (record { book = w.top.module; reader = w.top.reader; pending = pending_of c.take.new.self } ∷ opens_below w) w.opened w.opened (shelf_of g.H.Shelf c.args.shelf.now)
    (ap (λ ss. let o : Open = record { book = w.top.module; reader = w.top.reader; pending = ss } in o ∷ opens_below w) (ap pending_of c.in-Some.ensures.after ∙ sym was)) refl st

pub returns-in_default-pop-clause-walks : goal.returns-in_default-pop-clause-walks
returns-in_default-pop-clause-walks g c = λ books done told st.
    let w = c.args.self.now in
    let x = written_command c.in-Some.item.raw in
    let e = c.in_default-pop.ensures in
    let none = e.items ∙ append-nil c.pop.new.self.items ∙ e.rest ∙ ap (λ n. take (n - 1) c.in-Some.item.needs.items) e.cases.0 in
    taken (setting_of w.root books) (open_of w.top) (record { book = w.top.module; reader = w.top.reader; pending = pending_of c.take.new.self }) (opens_below w) w.opened (shelf_of g.H.Shelf c.args.shelf.now) done x
    refl refl
    (ap pending_of (sym c.in-Some.ensures.value) ∙ ap (λ (l : List (List ℕ)). steps_behind x (reverse l)) none ∙ ap (λ b. command_step b x) (sym c.is_directive.ensures ∙ c.if-is_directive.false)
    ∙ ap (λ l. put x ∷ l) (sym (ap pending_of c.in-Some.ensures.after)))
    st

pub returns-clause-walks : goal.returns-clause-walks
returns-clause-walks g c = λ books done told st.
    let w = c.args.self.now in
    let x = written_command c.in-Some.item.raw in
    let later = steps_behind x (reverse c.pop.new.self.items) in
    c.need.ensures.walks books done told
    (among_at (setting_of w.root books) done (opens_of w) _ w.opened w.opened (shelf_of g.H.Shelf c.args.shelf.now)
    (ap (λ ss. let o : Open = record { book = w.top.module; reader = w.top.reader; pending = ss } in o ∷ opens_below w)
    (sym (ap pending_of (sym c.in-Some.ensures.value) ∙ pending_next x c.in-Some.item.needs.items c.pop.new.self.items c.in-Some-pop.name c.in-Some-pop.ensures.items
    ∙ ap (λ b. need b c.in-Some.item.raw.line c.in-Some-pop.name ∷ later) (sym c.is_directive-2.ensures)))) refl st)

pub returns-in_default-clause-moves : goal.returns-in_default-clause-moves
returns-in_default-clause-moves g c = c.read.ensures.moves

pub returns-then-is_directive-clause-moves : goal.returns-then-is_directive-clause-moves
returns-then-is_directive-clause-moves g c = (refl, refl)

pub returns-in_default-pop-clause-moves : goal.returns-in_default-pop-clause-moves
returns-in_default-pop-clause-moves g c = (refl, refl)

pub returns-clause-moves : goal.returns-clause-moves
returns-clause-moves g c = c.need.ensures.moves

pub returns-in_default-clause-room : goal.returns-in_default-clause-room
returns-in_default-clause-room g c =
    let taken = ap room_of_item (c.in_default.ensures.after ∙ c.in_default.ensures.value) in
    on_ok_weaker c.read.result (λ less. omega (arith, less, taken)) c.read.ensures.room

pub returns-then-is_directive-clause-room : goal.returns-then-is_directive-clause-room
returns-then-is_directive-clause-room g c =
    let after = ap room_of_item c.in-Some.ensures.after in
    let before = ap room_of_item c.in-Some.ensures.value in
    omega (arith, after, before)

pub returns-in_default-pop-clause-room : goal.returns-in_default-pop-clause-room
returns-in_default-pop-clause-room g c =
    let after = ap room_of_item c.in-Some.ensures.after in
    let before = ap room_of_item c.in-Some.ensures.value in
    omega (arith, after, before)

pub returns-clause-room : goal.returns-clause-room
returns-clause-room g c =
    let before = ap room_of_item c.in-Some.ensures.value in
    let fewer = c.in-Some-pop.ensures.cases in
    on_ok_weaker c.need.result (λ less. omega (arith, less, before, fewer)) c.need.ensures.room

pub returns-in_default-clause-leaves : goal.returns-in_default-clause-leaves
returns-in_default-clause-leaves g c =
    let w = c.args.self.now in
    let s = shelf_of g.H.Shelf c.args.shelf.now in
    below_then w (record w { top = record w.top { item = c.take.new.self } }) c.read.new.self s s (shelf_of g.H.Shelf c.read.new.shelf) c.read.result refl c.read.ensures.leaves

pub returns-clause-leaves : goal.returns-clause-leaves
returns-clause-leaves g c =
    let w = c.args.self.now in
    let s = shelf_of g.H.Shelf c.args.shelf.now in
    below_then w (record w { top = record w.top { item = Some (record c.in-Some.item { needs = c.pop.new.self }) } }) c.need.new.self s s (shelf_of g.H.Shelf c.need.new.shelf) c.need.result refl
    c.need.ensures.leaves
