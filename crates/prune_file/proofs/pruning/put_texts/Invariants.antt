use Rattle.std.proofs.Common.{◌≡◌, ◌++◌, ℕ, List, length}
use Rattle.dk_io.specs.Gathered.{Moves}
use Rattle.prune_file.specs.Laws.{text_at}
use Rattle.prune_file.proofs.pruning.put_texts.Given as goal

abbrev pub invariant-loop-span : goal.invariant-loop-span
invariant-loop-span g l = record {
  before : (done : List ℕ) × Moves (g.K.Sink.taken l.initial.sink) l.initial.buffer (g.K.Sink.taken l.sink) l.buffer done
      × (text_at l.bytes l.spans ≡ done ++ text_at l.bytes l.rest);
  faults : g.K.Sink.faults l.sink ≡ g.K.Sink.faults l.initial.sink;
}

abbrev pub decreases-loop-span : goal.decreases-loop-span
decreases-loop-span g l = length l.rest
