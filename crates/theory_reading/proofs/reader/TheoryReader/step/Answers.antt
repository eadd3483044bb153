use Rattle.std.proofs.Common.{◌<◌, refl, sym, ap, subst}
use Rattle.std.specs.Prelude.{Ok}
use Rattle.std.proofs.lemmas.Result.{on_ok_weaker}
use Rattle.dk_parser.specs.RawViews.{written_form}
use Rattle.scope_terms.specs.Reading.{Reading}
use Rattle.book_reader.specs.declared.walker.Turn.{Turn}
use Rattle.book_reader.specs.declared.walker.Walker.{Walker}
use Rattle.book_reader.specs.Ends.{ComesTo, Moves}
use Rattle.book_reader.specs.Rooms.{room_of_walk}
use Rattle.book_reader.specs.Shelves.{shelf_of}
use Rattle.theory_reading.specs.declared.reader.TheoryReader.{TheoryReader}
use Rattle.theory_reading.specs.Readers.{turned}
use Rattle.theory_reading.proofs.Steps.{enter_leaves, on_ok_so, put_leaves, ready_command, ready_entered, ready_left, ready_on, stands_ended, stands_entered, stands_kept, stands_put, turned_behind}
use Rattle.theory_reading.proofs.reader.TheoryReader.step.Goals as goal

pub returns-in-On-clause-ready : goal.returns-in-On-clause-ready
returns-in-On-clause-ready g c =
    ready_on c.args.self.now c.turn.new.self (shelf_of g.H.Shelf c.args.shelf.now) (shelf_of g.H.Shelf c.turn.new.shelf) c.requires.ready c.in-Ok.ensures.root c.in-Ok.ensures.ready
    (subst (λ (x : Turn). Moves c.args.self.now.walker c.turn.new.self (Ok x)) c.in-On.is c.in-Ok.ensures.moves)

pub returns-in-On-clause-stands : goal.returns-in-On-clause-stands
returns-in-On-clause-stands g c = λ all done told st.
    let t = shelf_of g.H.Shelf c.turn.new.shelf in
    let r = turned c.args.self.now c.turn.new.self in
    stands_kept all done r r t refl (turned_behind done c.args.self.now c.turn.new.self c.in-Ok.ensures.root st.behind) refl refl
    (subst (λ (x : Turn). ComesTo all done c.turn.new.self t (Ok x)) c.in-On.is (c.in-Ok.ensures.walks all done told st.given))

-- ---- a book was opened

pub returns-in-Entered-clause-ready : goal.returns-in-Entered-clause-ready
returns-in-Entered-clause-ready g c =
    let e = c.enter.ensures in
    on_ok_weaker c.enter.result
    (λ entered. ready_entered c.args.self.now c.turn.new.self (shelf_of g.H.Shelf c.args.shelf.now) (shelf_of g.H.Shelf c.turn.new.shelf) c.requires.ready c.in-Ok.ensures.root c.in-Ok.ensures.ready
    c.enter.new.self (subst (λ (x : Turn). Moves c.args.self.now.walker c.turn.new.self (Ok x)) c.in-Entered.is c.in-Ok.ensures.moves) e.walker e.most e.commands entered)
    e.ok

pub returns-in-Entered-clause-stands : goal.returns-in-Entered-clause-stands
returns-in-Entered-clause-stands g c = λ all done told st.
    let t = shelf_of g.H.Shelf c.turn.new.shelf in
    let e = c.enter.ensures in
    stands_entered all done (turned c.args.self.now c.turn.new.self) c.enter.new.self t e.walker (turned_behind done c.args.self.now c.turn.new.self c.in-Ok.ensures.root st.behind)
    c.enter.result e.commands e.ok e.err
    (subst (λ (x : Turn). ComesTo all done c.turn.new.self t (Ok x)) c.in-Entered.is (c.in-Ok.ensures.walks all done told st.given))

pub returns-in-Entered-clause-room : goal.returns-in-Entered-clause-room
returns-in-Entered-clause-room g c =
    on_ok_weaker c.enter.result (λ e. subst (λ (w : Walker). room_of_walk w < room_of_walk c.args.self.now.walker) (sym c.enter.ensures.walker) c.in-Ok.ensures.room) c.enter.ensures.ok

pub returns-in-Entered-clause-leaves : goal.returns-in-Entered-clause-leaves
returns-in-Entered-clause-leaves g c =
    enter_leaves c.args.self.now.walker c.turn.new.self c.enter.new.self.walker (shelf_of g.H.Shelf c.args.shelf.now) (shelf_of g.H.Shelf c.turn.new.shelf) c.in-Ok.ensures.leaves c.enter.ensures.walker
    c.enter.result c.enter.ensures.err

-- ---- a book was given up

pub returns-in-Left-clause-ready : goal.returns-in-Left-clause-ready
returns-in-Left-clause-ready g c =
    ready_left c.args.self.now c.turn.new.self (shelf_of g.H.Shelf c.args.shelf.now) (shelf_of g.H.Shelf c.turn.new.shelf) c.requires.ready c.in-Ok.ensures.root c.in-Ok.ensures.ready
    c.leave.new.self (subst (λ (x : Turn). Moves c.args.self.now.walker c.turn.new.self (Ok x)) c.in-Left.is c.in-Ok.ensures.moves) c.leave.ensures

pub returns-in-Left-clause-stands : goal.returns-in-Left-clause-stands
returns-in-Left-clause-stands g c = λ all done told st.
    let t = shelf_of g.H.Shelf c.turn.new.shelf in
    let old = turned c.args.self.now c.turn.new.self in
    let new : TheoryReader = record { most = c.args.self.now.most; walker = c.turn.new.self; names = c.leave.new.self; commands = c.args.self.now.commands } in
    stands_kept all done old new t refl (turned_behind done c.args.self.now c.turn.new.self c.in-Ok.ensures.root st.behind) refl
    (ap (λ (r : Reading). r.symbols) c.leave.ensures)
    (subst (λ (x : Turn). ComesTo all done c.turn.new.self t (Ok x)) c.in-Left.is (c.in-Ok.ensures.walks all done told st.given))

-- ---- a command came

pub returns-in-Command-clause-ready : goal.returns-in-Command-clause-ready
returns-in-Command-clause-ready g c =
    let e = c.put.ensures in
    ready_command c.args.self.now c.turn.new.self (shelf_of g.H.Shelf c.args.shelf.now) (shelf_of g.H.Shelf c.turn.new.shelf) c.requires.ready c.in-Ok.ensures.root c.in-Ok.ensures.ready
    c.put.new.self (written_form c.in-Command.raw.form) c.in-Command.raw.line (subst (λ (x : Turn). Moves c.args.self.now.walker c.turn.new.self (Ok x)) c.in-Command.is c.in-Ok.ensures.moves)
    e.walker e.most e.few c.put.result e.puts

pub returns-in-Command-clause-stands : goal.returns-in-Command-clause-stands
returns-in-Command-clause-stands g c = λ all done told st.
    let t = shelf_of g.H.Shelf c.turn.new.shelf in
    let e = c.put.ensures in
    let old = c.args.self.now in
    let ready = ready_on old c.turn.new.self (shelf_of g.H.Shelf c.args.shelf.now) t c.requires.ready c.in-Ok.ensures.root c.in-Ok.ensures.ready
    (subst (λ (x : Turn). Moves old.walker c.turn.new.self (Ok x)) c.in-Command.is c.in-Ok.ensures.moves) in
    stands_put all done (turned old c.turn.new.self) c.put.new.self t e.walker (turned_behind done old c.turn.new.self c.in-Ok.ensures.root st.behind)
    c.in-Command.raw ready.most_is ready.tied
    (subst (λ (x : Turn). ComesTo all done c.turn.new.self t (Ok x)) c.in-Command.is (c.in-Ok.ensures.walks all done told st.given))
    c.put.result e.kept e.puts

pub returns-in-Command-clause-room : goal.returns-in-Command-clause-room
returns-in-Command-clause-room g c =
    on_ok_so c.put.result (subst (λ (w : Walker). room_of_walk w < room_of_walk c.args.self.now.walker) (sym c.put.ensures.walker) c.in-Ok.ensures.room)

pub returns-in-Command-clause-leaves : goal.returns-in-Command-clause-leaves
returns-in-Command-clause-leaves g c =
    put_leaves c.args.self.now.walker c.turn.new.self c.put.new.self.walker (shelf_of g.H.Shelf c.args.shelf.now) (shelf_of g.H.Shelf c.turn.new.shelf) c.in-Ok.ensures.leaves c.put.ensures.walker
    (turned c.args.self.now c.turn.new.self) c.put.new.self (written_form c.in-Command.raw.form) c.in-Command.raw.line c.put.result c.put.ensures.puts

-- ---- reading ended

pub returns-in-Err-clause-stands : goal.returns-in-Err-clause-stands
returns-in-Err-clause-stands g c = λ all done told st.
    let t = shelf_of g.H.Shelf c.turn.new.shelf in
    let r = turned c.args.self.now c.turn.new.self in
    stands_ended all done r r t refl (turned_behind done c.args.self.now c.turn.new.self c.in-Err.ensures.root st.behind) c.in-Err.end refl (c.in-Err.ensures.walks all done told st.given)
