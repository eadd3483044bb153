use Rattle.file_reader.specs.Progress.{HasBegun}
use Rattle.text_tests.proofs.reading.end_of.Given as goal

abbrev pub invariant-commands : goal.invariant-commands
invariant-commands l = record {
  begun : HasBegun l.reader;
}
