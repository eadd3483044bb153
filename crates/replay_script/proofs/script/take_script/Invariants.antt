use Rattle.std.proofs.Common.{◌≡◌, ◌-◌, ◌+◌, ℕ, List}
use Rattle.replay_script.specs.Standing.{HasRead, output_of}
use Rattle.replay_script.proofs.script.take_script.Given as goal

abbrev pub invariant-loop-replay : goal.invariant-loop-replay
invariant-loop-replay g l = record {
  read : HasRead l.most l.initial.replay l.replay (output_of g.K.Sink l.initial.sink) (output_of g.K.Sink l.sink) (g.H.Shelf.left l.initial.shelf) (g.H.Shelf.left l.shelf);
  faults : g.H.Shelf.faults l.shelf ≡ g.H.Shelf.faults l.initial.shelf;
  missed : (name : List ℕ) → g.H.Shelf.missed l.shelf name ≡ g.H.Shelf.missed l.initial.shelf name;
}

abbrev pub decreases-loop-replay : goal.decreases-loop-replay
decreases-loop-replay g l = (l.most + 1) - l.replay.count
