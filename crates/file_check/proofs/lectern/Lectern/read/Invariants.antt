use Rattle.std.proofs.Common.{◌≡◌, ◌≤◌, List, Some, length}
use Rattle.dk_io.specs.Bytes.{Books}
use Rattle.theory_walk.specs.Walks.{Placed}
use Rattle.book_reader.specs.Ends.{HoldsCounts, below_file}
use Rattle.book_reader.specs.Rooms.{room_of_walk}
use Rattle.book_reader.specs.Shelves.{shelf_of}
use Rattle.file_check.specs.Lecterns.{IsReady, Keeps, Stands}
use Rattle.file_check.proofs.lectern.Lectern.read.Given as goal

abbrev pub invariant-turns : goal.invariant-turns
invariant-turns g l = record {
  own : l.self.desk.pass.seat.table_id ≡ l.initial.self.desk.pass.seat.table_id;
  keeps : Keeps l.initial.self l.self;
  ready : IsReady l.self (shelf_of g.H.Shelf l.shelf);
  below : below_file l.self.walker (shelf_of g.H.Shelf l.shelf) ≤ length (g.H.Shelf.aside l.initial.shelf);
  books : g.H.Shelf.books l.shelf ≡ g.H.Shelf.books l.initial.shelf;
  counts : HoldsCounts (shelf_of g.H.Shelf l.initial.shelf) (shelf_of g.H.Shelf l.shelf);
  stands : (all : Books) → g.H.Shelf.books l.initial.shelf ≡ Some all → (done : List Placed) × Stands all done l.self (shelf_of g.H.Shelf l.shelf);
}

abbrev pub decreases-turns : goal.decreases-turns
decreases-turns g l = room_of_walk l.self.walker
