use Rattle.std.proofs.Common.{arith}
use Rattle.replay_script.specs.Standing.{output_of}
use Rattle.replay_script.proofs.Pieces.{byte_stop, byte_taken, past_end, past_stop}
use Rattle.replay_script.proofs.piece.Replay.take_piece.Goals as goal

pub returns-in-Ok-clause-takes : goal.returns-in-Ok-clause-takes
returns-in-Ok-clause-takes g c = λ limits budget given text a is.
    let reached = c.if-self-most.true in
    past_end c.args.most c.args.self.now c.loop-byte.self c.args.piece.now c.loop-byte.rest.now c.in-Some.others.now c.in-Some.byte.now (output_of g.K.Sink c.args.sink.now) (output_of g.K.Sink c.loop-byte.sink) c.loop-byte.invariant
    c.in-Some.ensures.cases.0 limits budget given text a is (output_of g.K.Sink c.put_bad.new.sink) (omega (arith, reached)) c.in-Ok.ensures

pub returns-in-Err-clause-takes : goal.returns-in-Err-clause-takes
returns-in-Err-clause-takes g c = λ limits budget given text a is.
    let reached = c.if-self-most.true in
    past_stop c.args.most c.args.self.now c.loop-byte.self c.args.piece.now c.loop-byte.rest.now c.in-Some.others.now c.in-Some.byte.now (output_of g.K.Sink c.args.sink.now) (output_of g.K.Sink c.loop-byte.sink) c.loop-byte.invariant
    c.in-Some.ensures.cases.0 limits budget given text a is (output_of g.K.Sink c.put_bad.new.sink) c.loop-byte.self.number c.in-Err.stop (omega (arith, reached)) c.in-Err.ensures

pub returns-in-Err-take_byte-clause-takes : goal.returns-in-Err-take_byte-clause-takes
returns-in-Err-take_byte-clause-takes g c = λ limits budget given text a is.
    let less = c.if-self-most.false in
    byte_stop c.args.most c.args.self.now c.loop-byte.self c.args.piece.now c.loop-byte.rest.now c.in-Some.others.now c.in-Some.byte.now (output_of g.K.Sink c.args.sink.now) (output_of g.K.Sink c.loop-byte.sink) c.loop-byte.invariant
    c.in-Some.ensures.cases.0 limits budget given text a is c.take_byte.new.self (output_of g.K.Sink c.take_byte.new.sink) c.in-Err-take_byte.stop (omega (arith, less))
    (λ t at s. c.in-Err-take_byte.ensures.takes limits budget _ t at s)

pub loop-byte-preserved : goal.loop-byte-preserved
loop-byte-preserved g c =
    let less = c.if-self-most.false in
    byte_taken c.args.most c.args.self.now c.loop-byte.self c.args.piece.now c.loop-byte.rest.now c.in-Some.others.now c.in-Some.byte.now (output_of g.K.Sink c.args.sink.now) (output_of g.K.Sink c.loop-byte.sink) c.loop-byte.invariant
    c.in-Some.ensures.cases.0 c.take_byte.new.self (output_of g.K.Sink c.take_byte.new.sink) (omega (arith, less))
    c.in_default-take_byte.ensures.within c.in_default-take_byte.ensures.count c.in_default-take_byte.ensures.takes
