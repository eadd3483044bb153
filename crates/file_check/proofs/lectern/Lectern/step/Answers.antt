use Rattle.std.proofs.Common.{◌≡◌, ◌<◌, ◌∙◌, refl, sym, subst}
use Rattle.std.specs.Prelude.{Ok, Err}
use Rattle.std.proofs.lemmas.Result.{on_ok_weaker}
use Rattle.dk_parser.specs.RawViews.{written_form}
use Rattle.book_reader.specs.declared.walker.Turn.{Turn}
use Rattle.book_reader.specs.declared.walker.Walker.{Walker}
use Rattle.book_reader.specs.Ends.{ComesTo, Moves, below_file}
use Rattle.book_reader.specs.Rooms.{room_of_walk}
use Rattle.book_reader.specs.Shelves.{shelf_of}
use Rattle.book_reader.specs.Walkers.{setting_of}
use Rattle.file_check.specs.declared.halt.Halt.{Halt}
use Rattle.file_check.specs.Desks.{known_at}
use Rattle.file_check.specs.Halts.{end_at}
use Rattle.file_check.specs.Jobs.{modules_of}
use Rattle.file_check.specs.Lecterns.{EndLeaves, EndsBooks, IsReady, StepsTo}
use Rattle.file_check.proofs.Modules.{tied_kept}
use Rattle.file_check.proofs.Steps.{enter_leaves, on_ok_so, put_leaves, put_ready, ready_entered, ready_left, stands_ended, stands_entered, stands_moved, stands_on, stands_put, walk_leaves}
use Rattle.file_check.proofs.lectern.Lectern.step.Goals as goal

pub returns-in-On-clause-stands : goal.returns-in-On-clause-stands
returns-in-On-clause-stands g c = λ all done told st.
    let t = shelf_of g.H.Shelf c.turn.new.shelf in
    stands_on all done c.args.self.now c.turn.new.self (shelf_of g.H.Shelf c.args.shelf.now) t c.in-Ok.ensures.root st
    (subst (λ (x : Turn). ComesTo all done c.turn.new.self t (Ok x)) c.in-On.is (c.in-Ok.ensures.walks all done told st.given))

-- ---- a book was opened

pub returns-in-Entered-clause-ready : goal.returns-in-Entered-clause-ready
returns-in-Entered-clause-ready g c =
    let s = shelf_of g.H.Shelf c.args.shelf.now in
    let t = shelf_of g.H.Shelf c.turn.new.shelf in
    on_ok_weaker c.enter.result
    (λ e. subst (λ (w : Walker). IsReady (record { walker = w; desk = c.enter.new.self.desk }) t) (sym c.enter.ensures.walker)
    (ready_entered c.args.self.now c.turn.new.self c.enter.new.self.desk s t c.requires.ready c.in-Ok.ensures.root c.in-Ok.ensures.ready
    (subst (λ (x : Turn). Moves c.args.self.now.walker c.turn.new.self (Ok x)) c.in-Entered.is c.in-Ok.ensures.moves) e))
    c.enter.ensures.ok

pub returns-in-Entered-clause-stands : goal.returns-in-Entered-clause-stands
returns-in-Entered-clause-stands g c = λ all done told st.
    let t = shelf_of g.H.Shelf c.turn.new.shelf in
    subst (λ (w : Walker). StepsTo all (record { walker = w; desk = c.enter.new.self.desk }) t c.enter.result) (sym c.enter.ensures.walker)
    (stands_entered all done c.args.self.now c.turn.new.self (shelf_of g.H.Shelf c.args.shelf.now) t c.in-Ok.ensures.root st c.enter.new.self.desk c.enter.ensures.desk
    (subst (λ (x : Turn). ComesTo all done c.turn.new.self t (Ok x)) c.in-Entered.is (c.in-Ok.ensures.walks all done told st.given))
    c.enter.result c.enter.ensures.ok c.enter.ensures.err)

pub returns-in-Entered-clause-room : goal.returns-in-Entered-clause-room
returns-in-Entered-clause-room g c =
    on_ok_weaker c.enter.result (λ e. subst (λ (w : Walker). room_of_walk w < room_of_walk c.args.self.now.walker) (sym c.enter.ensures.walker) c.in-Ok.ensures.room) c.enter.ensures.ok

-- ---- a book was given up

pub returns-in-Left-clause-ready : goal.returns-in-Left-clause-ready
returns-in-Left-clause-ready g c =
    ready_left c.args.self.now c.turn.new.self (record {
      limits = c.args.self.now.desk.limits;
      budget = c.args.self.now.desk.budget;
      theory = c.leave.new.self;
      worker = c.args.self.now.desk.worker;
      pass = c.args.self.now.desk.pass;
      titles = c.args.self.now.desk.titles;
    }) (shelf_of g.H.Shelf c.args.shelf.now) (shelf_of g.H.Shelf c.turn.new.shelf) c.requires.ready c.in-Ok.ensures.root c.in-Ok.ensures.ready
    (subst (λ (x : Turn). Moves c.args.self.now.walker c.turn.new.self (Ok x)) c.in-Left.is c.in-Ok.ensures.moves)
    (record { limits = refl; budget = refl; titles = refl; pass = refl; version = c.leave.ensures.version })
    c.leave.ensures.left

pub returns-in-Left-clause-stands : goal.returns-in-Left-clause-stands
returns-in-Left-clause-stands g c = λ all done told st.
    let t = shelf_of g.H.Shelf c.turn.new.shelf in
    stands_moved all done c.args.self.now c.turn.new.self (shelf_of g.H.Shelf c.args.shelf.now) t c.in-Ok.ensures.root st (record {
      limits = c.args.self.now.desk.limits;
      budget = c.args.self.now.desk.budget;
      theory = c.leave.new.self;
      worker = c.args.self.now.desk.worker;
      pass = c.args.self.now.desk.pass;
      titles = c.args.self.now.desk.titles;
    }) (record { limits = refl; budget = refl; titles = refl; pass = refl; version = c.leave.ensures.version })
    (Rattle.std.proofs.Common.ap (λ (r : Rattle.scope_terms.specs.Reading.Reading). r.symbols) c.leave.ensures.left)
    (subst (λ (x : Turn). ComesTo all done c.turn.new.self t (Ok x)) c.in-Left.is (c.in-Ok.ensures.walks all done told st.given))

-- ---- a command came

pub returns-in-Command-clause-ready : goal.returns-in-Command-clause-ready
returns-in-Command-clause-ready g c =
    let t = shelf_of g.H.Shelf c.turn.new.shelf in
    let moved = subst (λ (x : Turn). Moves c.args.self.now.walker c.turn.new.self (Ok x)) c.in-Command.is c.in-Ok.ensures.moves in
    subst (λ (w : Walker). Rattle.std.specs.Prelude.OnOk c.put.result (IsReady (record { walker = w; desk = c.put.new.self.desk }) t)) (sym c.put.ensures.walker)
    (put_ready c.args.self.now c.turn.new.self c.put.new.self.desk c.in-Command.raw (shelf_of g.H.Shelf c.args.shelf.now) t c.requires.ready c.in-Ok.ensures.root c.in-Ok.ensures.ready moved
    c.put.ensures.bounds c.put.ensures.sound c.put.result c.put.ensures.puts)

pub returns-in-Command-clause-stands : goal.returns-in-Command-clause-stands
returns-in-Command-clause-stands g c = λ all done told st.
    let t = shelf_of g.H.Shelf c.turn.new.shelf in
    let old = c.args.self.now in
    let moved = subst (λ (x : Turn). Moves old.walker c.turn.new.self (Ok x)) c.in-Command.is c.in-Ok.ensures.moves in
    subst (λ (w : Walker). StepsTo all (record { walker = w; desk = c.put.new.self.desk }) t c.put.result) (sym c.put.ensures.walker)
    (stands_put all done old c.turn.new.self (shelf_of g.H.Shelf c.args.shelf.now) t c.in-Ok.ensures.root st c.in-Command.raw c.put.new.self.desk c.put.ensures.bounds
    c.requires.ready.desk_is.sound.as_many
    (tied_kept old.walker c.turn.new.self (modules_of old.desk.theory) (modules_of old.desk.theory) c.requires.ready.tied moved.0 moved.1 c.in-Ok.ensures.root refl refl)
    (subst (λ (x : Turn). ComesTo all done c.turn.new.self t (Ok x)) c.in-Command.is (c.in-Ok.ensures.walks all done told st.given))
    c.put.result c.put.ensures.puts)

pub returns-in-Command-clause-room : goal.returns-in-Command-clause-room
returns-in-Command-clause-room g c =
    on_ok_so c.put.result (subst (λ (w : Walker). room_of_walk w < room_of_walk c.args.self.now.walker) (sym c.put.ensures.walker) c.in-Ok.ensures.room)

-- ---- reading ended

pub returns-in-Err-clause-stands : goal.returns-in-Err-clause-stands
returns-in-Err-clause-stands g c = λ all done told st.
    let t = shelf_of g.H.Shelf c.turn.new.shelf in
    subst (λ (h : Halt). EndsBooks (setting_of c.turn.new.self.root all) c.args.self.now.desk.budget t (known_at c.args.self.now.desk) c.turn.new.self.top.«module» h) (sym c.halt_at.ensures)
    (stands_ended all done c.args.self.now c.turn.new.self (shelf_of g.H.Shelf c.args.shelf.now) t c.in-Err.ensures.root st c.in-Err.end (c.in-Err.ensures.walks all done told st.given))

-- ---- what is put aside

pub returns-in-Entered-clause-leaves : goal.returns-in-Entered-clause-leaves
returns-in-Entered-clause-leaves g c =
    enter_leaves c.args.self.now c.enter.new.self c.turn.new.self (shelf_of g.H.Shelf c.args.shelf.now) (shelf_of g.H.Shelf c.turn.new.shelf) c.in-Ok.ensures.leaves c.enter.ensures.walker
    c.enter.result c.enter.ensures.err

pub returns-in-Command-clause-leaves : goal.returns-in-Command-clause-leaves
returns-in-Command-clause-leaves g c =
    put_leaves c.args.self.now c.put.new.self c.turn.new.self (shelf_of g.H.Shelf c.args.shelf.now) (shelf_of g.H.Shelf c.turn.new.shelf) c.in-Ok.ensures.leaves c.put.ensures.walker
    c.args.self.now.desk c.put.new.self.desk (written_form c.in-Command.raw.form) _ c.put.result c.put.ensures.puts

pub returns-in-Err-clause-leaves : goal.returns-in-Err-clause-leaves
returns-in-Err-clause-leaves g c =
    let t = shelf_of g.H.Shelf c.turn.new.shelf in
    let book = c.turn.new.self.top.«module» in
    let count = below_file c.args.self.now.walker (shelf_of g.H.Shelf c.args.shelf.now) in
    subst (λ (h : Halt). EndLeaves count t (end_at book h)) (sym c.halt_at.ensures) (walk_leaves count t book c.in-Err.end c.in-Err.ensures.leaves)
