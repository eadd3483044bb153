use Rattle.std.proofs.Common.{◌≤◌, ◌-◌, length}
use Rattle.file_reader.specs.Progress.{HasBegun}
use Rattle.tree_program.specs.Trials.{GoesOn}
use Rattle.tree_program.proofs.trial.Trial.read.Given as goal

abbrev pub invariant-commands : goal.invariant-commands
invariant-commands g l = record {
  goes_on : GoesOn l.self;
  begun : HasBegun l.reader;
}

abbrev pub decreases-commands : goal.decreases-commands
decreases-commands g l = l.self.most - length l.self.tried.titles
