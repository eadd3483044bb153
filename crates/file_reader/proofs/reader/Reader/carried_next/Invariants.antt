use Rattle.std.proofs.Common.{◌≡◌, ◌≤◌, ℕ, List, length}
use Rattle.dk_model.specs.declared.limits.Limits.{Limits}
use Rattle.dk_parser.specs.Written.{WrittenCommand}
use Rattle.file_reader.specs.Held.{Holds}
use Rattle.file_reader.proofs.reader.Reader.carried_next.Given as goal

abbrev pub invariant-loop-token : goal.invariant-loop-token
invariant-loop-token l = record {
  holds : (limits : Limits) (given : List ℕ) (done : List WrittenCommand) → Holds limits given done l.initial.self → Holds limits given done l.self;
  given : l.self.given ≡ l.initial.self.given;
  over : l.self.over ≡ l.initial.self.over;
  fewer : length l.self.carried ≤ length l.initial.self.carried;
}

abbrev pub decreases-loop-token : goal.decreases-loop-token
decreases-loop-token l = length l.self.carried
