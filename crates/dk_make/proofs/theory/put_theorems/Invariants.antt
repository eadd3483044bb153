use Rattle.std.proofs.Common.{◌≡◌, ◌+◌, ◌-◌, ◌++◌, ℕ, List}
use Rattle.dk_io.specs.Gathered.{Moves}
use Rattle.dk_make.specs.Theory.{theorems}
use Rattle.dk_make.proofs.theory.put_theorems.Given as goal

abbrev pub invariant-loop-place : goal.invariant-loop-place
invariant-loop-place g l = record {
  before : (done : List ℕ) × Moves (g.K.Sink.taken l.initial.sink) l.initial.buffer (g.K.Sink.taken l.sink) l.buffer done × (theorems 1 l.n ≡ done ++ theorems (l.place + 1) (l.n - l.place));
  faults : g.K.Sink.faults l.sink ≡ g.K.Sink.faults l.initial.sink;
}
