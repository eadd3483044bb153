use Rattle.std.proofs.Common.{◌++◌, ◌∙◌, ap, refl, subst, take}
use Rattle.std.specs.Prelude.{Ok}
use Rattle.dk_io.specs.Bytes.{TakesFront}
use Rattle.replay_script.specs.Standing.{TakesPiece, output_of}
use Rattle.replay_script.proofs.Ends.{begun, past_ends, piece_ends, piece_read, rest_ends}
use Rattle.replay_script.proofs.Reading.{all_given, more_given}
use Rattle.replay_script.proofs.script.take_script.Goals as goal

pub loop-replay-init : goal.loop-replay-init
loop-replay-init g c = record {
  read = begun c.args.most c.args.replay.now (output_of g.K.Sink c.args.sink.now) (g.H.Shelf.left c.args.shelf.now) c.requires.within c.requires.count;
  faults = refl;
  missed = λ name. refl;
}

pub returns-in-Ok-eq0-clause-ends : goal.returns-in-Ok-eq0-clause-ends
returns-in-Ok-eq0-clause-ends g c = λ limits budget a is.
    let h = c.loop-replay.invariant.read in
    let first = g.H.Shelf.left c.args.shelf.now in
    let left = g.H.Shelf.left c.loop-replay.shelf in
    let last = g.H.Shelf.left c.read.new.self in
    rest_ends c.args.most c.args.replay.now c.loop-replay.replay (output_of g.K.Sink c.args.sink.now) (output_of g.K.Sink c.loop-replay.sink) first left h limits budget a is
    c.take_rest.new.self (output_of g.K.Sink c.take_rest.new.sink) last c.take_rest.result
    (all_given first left last h.given c.read.new.buf h.is_given (subst (λ n. TakesFront left last n c.read.new.buf) c.in-Ok-eq0.field-0-test c.in-Ok-eq0.ensures.bytes))
    (λ t at within. c.take_rest.ensures.takes limits budget h.given t at within)

pub loop-replay-preserved : goal.loop-replay-preserved
loop-replay-preserved g c =
    let h = c.loop-replay.invariant.read in
    let first = g.H.Shelf.left c.args.shelf.now in
    let left = g.H.Shelf.left c.loop-replay.shelf in
    let last = g.H.Shelf.left c.read.new.self in
    let n = c.in-Ok.count in
    let piece = take n c.read.new.buf in
    let between = output_of g.K.Sink c.loop-replay.sink in
    let after = output_of g.K.Sink c.take_piece.new.sink in
    let of = more_given first left last h.given c.read.new.buf n h.is_given c.in-Ok.ensures.bytes in
    record {
      read =
          piece_read c.args.most c.args.replay.now c.loop-replay.replay (output_of g.K.Sink c.args.sink.now) between first left h c.take_piece.new.self after last piece of
          (c.in-Ok-true.ensures.within (ap (λ b. Ok b) c.in-Ok-true.field-0-test)) (c.in-Ok-true.ensures.most (ap (λ b. Ok b) c.in-Ok-true.field-0-test))
          (λ limits budget given text a is.
          subst (λ b. TakesPiece limits budget (given ++ piece) c.take_piece.new.self text between after (Ok b)) c.in-Ok-true.field-0-test (c.in-Ok-true.ensures.takes limits budget given text a is));
      faults = c.in-Ok.ensures.cause.stands ∙ c.loop-replay.invariant.faults;
      missed = λ name. c.in-Ok.ensures.missed.stands name ∙ c.loop-replay.invariant.missed name;
    }

pub returns-in-Ok-false-clause-ends : goal.returns-in-Ok-false-clause-ends
returns-in-Ok-false-clause-ends g c = λ limits budget a is.
    let h = c.loop-replay.invariant.read in
    let first = g.H.Shelf.left c.args.shelf.now in
    let left = g.H.Shelf.left c.loop-replay.shelf in
    let last = g.H.Shelf.left c.read.new.self in
    let n = c.in-Ok.count in
    let piece = take n c.read.new.buf in
    let between = output_of g.K.Sink c.loop-replay.sink in
    let after = output_of g.K.Sink c.take_piece.new.sink in
    let of = more_given first left last h.given c.read.new.buf n h.is_given c.in-Ok.ensures.bytes in
    past_ends c.args.most c.args.replay.now c.loop-replay.replay (output_of g.K.Sink c.args.sink.now) between first left h limits budget a is c.take_piece.new.self.number after last piece of
    (λ t at. subst (λ b. TakesPiece limits budget (h.given ++ piece) c.take_piece.new.self t between after (Ok b)) c.in-Ok-false.field-0-test (c.in-Ok-false.ensures.takes limits budget h.given t at is))

pub returns-in-Err-take_piece-clause-ends : goal.returns-in-Err-take_piece-clause-ends
returns-in-Err-take_piece-clause-ends g c = λ limits budget a is.
    let h = c.loop-replay.invariant.read in
    let first = g.H.Shelf.left c.args.shelf.now in
    let left = g.H.Shelf.left c.loop-replay.shelf in
    let last = g.H.Shelf.left c.read.new.self in
    let n = c.in-Ok.count in
    let piece = take n c.read.new.buf in
    let between = output_of g.K.Sink c.loop-replay.sink in
    let after = output_of g.K.Sink c.take_piece.new.sink in
    let of = more_given first left last h.given c.read.new.buf n h.is_given c.in-Ok.ensures.bytes in
    piece_ends c.args.most c.args.replay.now c.loop-replay.replay (output_of g.K.Sink c.args.sink.now) between first left h limits budget a is c.take_piece.new.self.number after last piece c.in-Err-take_piece.stop of
    (λ t at. c.in-Err-take_piece.ensures.takes limits budget h.given t at is)
