use Rattle.std.proofs.Common.{◌∙◌, ◌≤◌, subst, sym, length}
use Rattle.book_reader.specs.Shelves.{shelf_of}
use Rattle.theory_reading.proofs.Steps.{fewer_left, keeps_then}
use Rattle.theory_reading.proofs.reader.TheoryReader.read.Goals as goal

pub turns-preserved : goal.turns-preserved
turns-preserved g c =
    let inv = c.turns.invariant in
    let e = c.in-Ok.ensures in
    record {
      keeps = keeps_then c.args.self.now c.turns.self c.step.new.self inv.keeps e.keeps;
      ready = e.ready;
      below = subst (λ n. n ≤ length (g.H.Shelf.aside c.args.shelf.now)) (sym e.leaves) inv.below;
      books = e.books ∙ inv.books;
      counts = (e.causes.0 ∙ inv.counts.0, λ name. e.causes.1 name ∙ inv.counts.1 name);
      stands = λ all done told st. let h = inv.stands all done told st in e.stands all h.0 (inv.books ∙ told) h.1;
    }

pub returns-in-Err-clause-ends : goal.returns-in-Err-clause-ends
returns-in-Err-clause-ends g c = λ all done told st.
    let h = c.turns.invariant.stands all done told st in
    c.in-Err.ensures.stands all h.0 (c.turns.invariant.books ∙ told) h.1

pub returns-in-Err-clause-leaves : goal.returns-in-Err-clause-leaves
returns-in-Err-clause-leaves g c = fewer_left _ _ (shelf_of g.H.Shelf c.step.new.shelf) c.in-Err.end c.turns.invariant.below c.in-Err.ensures.leaves
