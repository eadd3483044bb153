use Rattle.std.proofs.Common.{◌++◌, ◌∷◌, ◌≤◌, ℕ, [], length, sym, subst, ◌∙◌, arith}
use Rattle.dk_parser.specs.RawViews.{written_command}
use Rattle.file_reader.specs.Held.{next_of}
use Rattle.file_reader.specs.Nexts.{raw_of}
use Rattle.file_reader.specs.declared.reader.Next.{Next}
use Rattle.file_reader.proofs.Asking.{begun_behind, ends, fails_so, gives, loads, may_rise_so, may_rise_then, room_loaded, room_taken, rose_so, rose_then, turned_more}
use Rattle.file_reader.proofs.reader.Reader.next.Goals as goal

pub returns-in-Ok-Some-clause-begun : goal.returns-in-Ok-Some-clause-begun
returns-in-Ok-Some-clause-begun g c =
    let t = c.pieces.invariant.turned.begun in
    begun_behind t.limits t.given (t.done ++ written_command (raw_of (next_of c.in-Ok-Some.whole)) ∷ []) c.carried_next.new.self
    (rw c.in-Ok-Some.field-0-is at c.in-Ok-Some.ensures.finds t.limits t.given t.done t.holds).0
    (subst (λ (n : ℕ). n ≤ length t.given) (sym c.in-Ok-Some.ensures.given) t.counted)

pub returns-in-Ok-Some-clause-room : goal.returns-in-Ok-Some-clause-room
returns-in-Ok-Some-clause-room g c =
    let before = c.pieces.invariant.room in
    let fewer = (rw c.in-Ok-Some.field-0-is at c.in-Ok-Some.ensures.fewer) in
    let taken = room_taken c.pieces.self c.carried_next.new.self c.in-Ok-Some.ensures.given fewer in
    omega (arith, before, taken)

pub returns-in-Ok-Some-clause-answers : goal.returns-in-Ok-Some-clause-answers
returns-in-Ok-Some-clause-answers g c = λ limits bytes done old.
    let b = c.pieces.invariant.behind limits bytes done old in
    let found = (rw c.in-Ok-Some.field-0-is at c.in-Ok-Some.ensures.finds limits b.given done b.holds) in
    let raw = raw_of (next_of c.in-Ok-Some.whole) in
    rw c.into_next.ensures
    (gives b (done ++ written_command raw ∷ []) c.carried_next.new.self c.in-Ok-Some.ensures.over found.0, found.1)

pub returns-in-Err-clause-answers : goal.returns-in-Err-clause-answers
returns-in-Err-clause-answers g c = λ limits bytes done old.
    let b = c.pieces.invariant.behind limits bytes done old in
    ends b c.carried_next.new.self.over c.in-Err.ensures.over c.in-Err.end (g.H.Shelf.left c.pieces.shelf) c.carried_next.new.self (c.in-Err.ensures.finds limits b.given done b.holds)

pub returns-in-Err-clause-faults : goal.returns-in-Err-clause-faults
returns-in-Err-clause-faults g c =
    let t = c.pieces.invariant.turned.begun in
    rose_so Next t.limits t.given c.carried_next.new.self.over t.done c.in-Err.end _ _ (c.in-Err.ensures.finds t.limits t.given t.done t.holds) c.pieces.invariant.faults

pub returns-in-Err-clause-missed : goal.returns-in-Err-clause-missed
returns-in-Err-clause-missed g c =
    let t = c.pieces.invariant.turned.begun in
    may_rise_so Next t.limits t.given c.carried_next.new.self.over t.done c.in-Err.end _ _ (c.in-Err.ensures.finds t.limits t.given t.done t.holds) c.pieces.invariant.missed

pub returns-in-Err-load-clause-answers : goal.returns-in-Err-load-clause-answers
returns-in-Err-load-clause-answers g c = λ limits bytes done old.
    let b = c.pieces.invariant.behind limits bytes done old in
    let dry = (rw c.in-Ok-None.field-0-is at c.in-Ok-None.ensures.finds limits b.given done b.holds) in
    fails_so b c.in-Err-load.end (g.H.Shelf.left c.load.new.shelf) c.carried_next.new.self c.load.new.self c.load.new.self c.in-Ok-None.ensures.over dry (c.in-Err-load.ensures.loads limits b.given done dry)

pub returns-in-Err-load-clause-faults : goal.returns-in-Err-load-clause-faults
returns-in-Err-load-clause-faults g c = rose_then Unit Next c.in-Err-load.end _ _ _ c.pieces.invariant.faults c.in-Err-load.ensures.faults

pub returns-in-Err-load-clause-missed : goal.returns-in-Err-load-clause-missed
returns-in-Err-load-clause-missed g c = may_rise_then Unit Next c.in-Err-load.end _ _ _ c.pieces.invariant.missed c.in-Err-load.ensures.missed

pub pieces-preserved : goal.pieces-preserved
pieces-preserved g c =
    let turned = c.pieces.invariant.turned in
    let t = turned.begun in
    let dry = (rw c.in-Ok-None.field-0-is at c.in-Ok-None.ensures.finds t.limits t.given t.done t.holds) in
    let came = c.in_default.ensures.loads t.limits t.given t.done dry in
    record {
      turned = turned_more c.pieces._turn c.pieces.self c.carried_next.new.self c.load.new.self (g.H.Shelf.left c.pieces.shelf) (g.H.Shelf.left c.load.new.shelf) turned dry c.in-Ok-None.ensures.over c.in-Ok-None.ensures.given came;
      behind = λ limits bytes done old.
          let b = c.pieces.invariant.behind limits bytes done old in
          let d = (rw c.in-Ok-None.field-0-is at c.in-Ok-None.ensures.finds limits b.given done b.holds) in
          loads b (g.H.Shelf.left c.load.new.shelf) c.carried_next.new.self c.load.new.self (c.in_default.ensures.loads limits b.given done d);
      room =
          let before = c.pieces.invariant.room in
          let fewer = (rw c.in-Ok-None.field-0-is at c.in-Ok-None.ensures.fewer) in
          let loaded = room_loaded c.pieces.self c.carried_next.new.self c.load.new.self t.given t.limits t.done (g.H.Shelf.left c.pieces.shelf) (g.H.Shelf.left c.load.new.shelf)
          c.in-Ok-None.ensures.given fewer dry t.counted came in
          omega (arith, before, loaded);
      books = c.in_default.ensures.books ∙ c.pieces.invariant.books;
      is_open = c.in_default.ensures.is_open ∙ c.pieces.invariant.is_open;
      aside = c.in_default.ensures.aside ∙ c.pieces.invariant.aside;
      faults = c.in_default.ensures.faults ∙ c.pieces.invariant.faults;
      missed = λ name. c.in_default.ensures.missed name ∙ c.pieces.invariant.missed name;
    }
