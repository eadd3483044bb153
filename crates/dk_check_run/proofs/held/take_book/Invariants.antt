use Rattle.std.proofs.Common.{◌≡◌, ◌+◌, ◌-◌, ℕ, List, length}
use Rattle.dk_check_run.specs.Held.{Took}
use Rattle.dk_check_run.proofs.held.take_book.Given as goal

abbrev pub invariant-loop-buf : goal.invariant-loop-buf
invariant-loop-buf g l = record {
  took : Took (g.H.Shelf.left l.initial.shelf) (g.H.Shelf.left l.shelf) l.bytes.items;
  books : g.H.Shelf.books l.shelf ≡ g.H.Shelf.books l.initial.shelf;
  aside : g.H.Shelf.aside l.shelf ≡ g.H.Shelf.aside l.initial.shelf;
  faults : g.H.Shelf.faults l.shelf ≡ g.H.Shelf.faults l.initial.shelf;
  missed : (name : List ℕ) → g.H.Shelf.missed l.shelf name ≡ g.H.Shelf.missed l.initial.shelf name;
}

abbrev pub decreases-loop-buf : goal.decreases-loop-buf
decreases-loop-buf g l = (l.most + 1) - length l.bytes.items
