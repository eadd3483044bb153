use Rattle.std.proofs.Common.{◌≤◌, ℕ, List, ◌∷◌, [], length, sym, ap, subst, refl, arith, Option, None, map}
use Rattle.std.specs.Prelude.{reverse}
use Rattle.dk_io.specs.Bytes.{Opens}
use Rattle.book_reader.specs.Ends.{AreBegun}
use Rattle.book_reader.specs.Shelves.{shelf_of}
use Rattle.book_reader.specs.Walkers.{Open, books_in, open_of, setting_of}
use Rattle.book_reader.proofs.Openings.{aside_one, former_opened}
use Rattle.book_reader.proofs.Turning.{among_at, begins_walk}
use Rattle.book_reader.proofs.walker.Walker.begin.Goals as goal

pub returns-clause-ready : goal.returns-clause-ready
returns-clause-ready g c = record {
  room = record {
    files_fit = c.requires.files.1;
    few = let e = c.new-2.ensures.len in let p = c.requires.files.0 in omega (arith, e, p);
    is_open = c.in-Ok.ensures.is_open;
    all_aside = let e = c.new-2.ensures.len in omega (arith, e);
    room = let e = c.new-2.ensures.len in
        let one : length (g.H.Shelf.aside c.open_book.new.self) ≤ 1 = subst (λ (l : List (Option (List ℕ))). length l ≤ 1) (sym c.in-Ok.ensures.aside) (aside_one _ _ _ c.requires.aside) in
        omega (arith, e, one);
  };
  top = c.new.ensures.begun;
  below = subst (λ (l : List _). AreBegun (reverse l)) (sym c.new-2.ensures.items) tt;
}

pub returns-clause-walks : goal.returns-clause-walks
returns-clause-walks g c = λ books told.
    let s = setting_of c.args.root books in
    let o : Open = record { book = None; reader = c.new.result; pending = [] } in
    among_at s [] (o ∷ []) _ [] _ (shelf_of g.H.Shelf c.open_book.new.self)
    (ap (λ l. o ∷ map open_of (reverse l)) c.new-2.ensures.items) c.new-3.ensures
    (begins_walk s o (shelf_of g.H.Shelf c.open_book.new.self) refl refl c.new.ensures.behind
    (subst (λ b. Opens b (s.named None) (g.H.Shelf.left c.open_book.new.self)) told
    (subst (λ x. Opens (g.H.Shelf.books c.args.shelf.now) x (g.H.Shelf.left c.open_book.new.self)) c.deref.ensures c.in-Ok.ensures.opened)))

pub returns-clause-opens : goal.returns-clause-opens
returns-clause-opens g c = (ap (λ (l : List _). None ∷ books_in (map open_of (reverse l))) c.new-2.ensures.items, c.new-3.ensures)

pub returns-clause-leaves : goal.returns-clause-leaves
returns-clause-leaves g c = former_opened (shelf_of g.H.Shelf c.args.shelf.now) (shelf_of g.H.Shelf c.open_book.new.self) c.requires.aside c.in-Ok.ensures.aside
