use Rattle.std.proofs.Common.{ℕ, List, []}
use Rattle.dk_model.specs.declared.limits.Limits.{Limits}
use Rattle.dk_parser.specs.Written.{WrittenCommand}
use Rattle.file_reader.specs.Progress.{HasBegun}
use Rattle.file_reader.specs.Rooms.{room_of}
use Rattle.scope_terms.specs.Scopes.{Module}
use Rattle.prune_file.specs.Commands.{Stands, found_of}
use Rattle.prune_file.proofs.commands.Commands.read_on.Given as goal

abbrev pub invariant-items : goal.invariant-items
invariant-items l = record {
  begun : HasBegun l.reader;
  stands : (limits : Limits) (own : Module) (bytes : List ℕ)
      → Stands limits own l.name bytes l.spans [] l.initial.reader l.initial.book.rest.now l.spans (found_of l.initial.self)
      → (done : List WrittenCommand) × Stands limits own l.name bytes l.spans done l.reader l.book.rest.now l.rest (found_of l.self);
}

abbrev pub decreases-items : goal.decreases-items
decreases-items l = room_of l.reader
