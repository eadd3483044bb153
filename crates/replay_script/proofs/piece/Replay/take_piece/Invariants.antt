use Rattle.std.proofs.Common.{length}
use Rattle.replay_script.specs.Standing.{HasTaken, output_of}
use Rattle.replay_script.proofs.piece.Replay.take_piece.Given as goal

abbrev pub invariant-loop-byte : goal.invariant-loop-byte
invariant-loop-byte g l = HasTaken l.most l.initial.self l.self l.piece l.rest (output_of g.K.Sink l.initial.sink) (output_of g.K.Sink l.sink)

abbrev pub decreases-loop-byte : goal.decreases-loop-byte
decreases-loop-byte g l = length l.rest
