use Rattle.theory_reading.proofs.reader.TheoryReader.add.Goals as goal

pub scope-requires : goal.scope-requires
scope-requires c = c.requires.few
