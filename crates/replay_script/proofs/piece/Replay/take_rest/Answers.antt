use Rattle.std.proofs.Common.{◌∙◌, refl, sym}
use Rattle.replay_script.proofs.Reading.{no_rest, rest_taken}
use Rattle.replay_script.proofs.piece.Replay.take_rest.Goals as goal

pub returns-then-is_empty : goal.returns-then-is_empty
returns-then-is_empty g c = record {
  takes = λ limits budget given text a within. no_rest limits budget given text c.args.self.now a within _ _ (sym c.as_slice.ensures.value ∙ c.is_empty.ensures.empty c.if-is_empty.true) refl;
}

pub returns-else-is_empty : goal.returns-else-is_empty
returns-else-is_empty g c = record {
  takes = λ limits budget given text a within.
      rest_taken limits budget given text c.args.self.now a within c.end_line.new.self.session c.end_line.new.self _ _ c.end_line.result
      (λ e. c.is_empty.ensures.filled c.if-is_empty.false (c.as_slice.ensures.value ∙ e)) c.end_line.ensures.number c.end_line.ensures.takes;
}
