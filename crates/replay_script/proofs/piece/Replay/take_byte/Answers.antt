use Rattle.replay_script.specs.Standing.{output_of}
use Rattle.replay_script.proofs.piece.Replay.take_byte.Goals as goal

pub returns-else-byte-eq10-clause-takes : goal.returns-else-byte-eq10-clause-takes
returns-else-byte-eq10-clause-takes g c = λ limits budget given text a short. c.take_other.ensures.takes limits budget given text (output_of g.K.Sink c.args.sink.now) a short
