use Rattle.std.proofs.Common.{[], ◌∙◌, sym, ap}
use Rattle.scope_terms.specs.Reading.{after_entering, no_reading}
use Rattle.book_reader.specs.declared.walker.Root.{Root}
use Rattle.book_reader.specs.Shelves.{shelf_of}
use Rattle.theory_reading.specs.declared.reader.TheoryReader.{TheoryReader}
use Rattle.theory_reading.proofs.Telling.{begun_ready, begun_stands, read_so, told_leaves, told_opened}
use Rattle.theory_reading.proofs.reading.read_theory.Goals as goal

pub read-end-requires : goal.read-end-requires
read-end-requires g c =
    let began = c.in-Ok-begin.ensures in
    let r : TheoryReader = record { most = c.args.root.limits.commands; walker = c.in-Ok-begin.walker; names = c.in-Ok.names; commands = c.new.result } in
    let entered = c.in-Ok.ensures ∙ ap (λ (x : Root). after_entering no_reading x.own) (sym began.root) in
    record { ready = begun_ready r (shelf_of g.H.Shelf c.begin.new.shelf) entered c.new.ensures began.ready began.opens (ap (λ (x : Root). x.limits.commands) (sym began.root)) }

pub returns-clause-reads : goal.returns-clause-reads
returns-clause-reads g c = λ all told.
    let began = c.in-Ok-begin.ensures in
    let read = c.read-end.ensures in
    let new = c.read-end.new.self in
    let t = shelf_of g.H.Shelf c.read-end.new.shelf in
    let r : TheoryReader = record { most = c.args.root.limits.commands; walker = c.in-Ok-begin.walker; names = c.in-Ok.names; commands = c.new.result } in
    let entered = c.in-Ok.ensures ∙ ap (λ (x : Root). after_entering no_reading x.own) (sym began.root) in
    let ends = read.ends all [] (began.books ∙ told) (begun_stands r (shelf_of g.H.Shelf c.begin.new.shelf) entered c.new.ensures all (began.walks all told)) in
    read_so c.args.root new.walker.root all t new.walker.top.«module» new.commands c.read-end.result c.told.result (read.keeps.root ∙ began.root) c.told.ensures ends

pub returns-clause-leaves : goal.returns-clause-leaves
returns-clause-leaves g c =
    let new = c.read-end.new.self in
    told_leaves (shelf_of g.H.Shelf c.args.shelf.now) (shelf_of g.H.Shelf c.begin.new.shelf) (shelf_of g.H.Shelf c.read-end.new.shelf) new.walker.top.«module» new.commands c.read-end.result c.told.result c.told.ensures
    c.in-Ok-begin.ensures.leaves c.read-end.ensures.leaves

pub returns-clause-unopened : goal.returns-clause-unopened
returns-clause-unopened g c =
    let new = c.read-end.new.self in
    told_opened (shelf_of g.H.Shelf c.args.shelf.now) (shelf_of g.H.Shelf c.read-end.new.shelf) new.walker.top.«module» new.commands c.read-end.result c.told.result c.told.ensures
