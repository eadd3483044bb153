use Rattle.std.proofs.Common.{◌≡◌, ◌≤◌, ℕ, List}
use Rattle.dk_model.specs.declared.limits.Limits.{Limits}
use Rattle.dk_parser.specs.Written.{WrittenCommand}
use Rattle.file_reader.specs.Progress.{IsBehind}
use Rattle.file_reader.specs.Rooms.{room_of}
use Rattle.file_reader.proofs.Asking.{HasTurned}
use Rattle.file_reader.proofs.reader.Reader.next.Given as goal

abbrev pub invariant-pieces : goal.invariant-pieces
invariant-pieces g l = record {
  turned : HasTurned l._turn l.self;
  behind : (limits : Limits) (bytes : List ℕ) (done : List WrittenCommand) → IsBehind limits bytes done (g.H.Shelf.left l.initial.shelf) l.initial.self
      → IsBehind limits bytes done (g.H.Shelf.left l.shelf) l.self;
  room : room_of l.self ≤ room_of l.initial.self;
  books : g.H.Shelf.books l.shelf ≡ g.H.Shelf.books l.initial.shelf;
  is_open : g.H.Shelf.is_open l.shelf ≡ g.H.Shelf.is_open l.initial.shelf;
  aside : g.H.Shelf.aside l.shelf ≡ g.H.Shelf.aside l.initial.shelf;
  faults : g.H.Shelf.faults l.shelf ≡ g.H.Shelf.faults l.initial.shelf;
  missed : (name : List ℕ) → g.H.Shelf.missed l.shelf name ≡ g.H.Shelf.missed l.initial.shelf name;
}
