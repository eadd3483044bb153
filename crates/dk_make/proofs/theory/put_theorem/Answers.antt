use Rattle.std.proofs.Common.{◌∙◌, subst}
use Rattle.dk_io.specs.Gathered.{Gathers}
use Rattle.dk_make.proofs.Lines.{theorem_parts}
use Rattle.dk_make.proofs.theory.put_theorem.Goals as goal

pub returns-clause-put : goal.returns-clause-put
returns-clause-put g c = subst (λ t. Gathers (g.K.Sink.taken c.args.sink.now) c.args.buffer.now (g.K.Sink.taken c.put_all.new.sink) c.put_all.new.self t c.put_all.result)
    (theorem_parts c.args.number _ _ _ _ (c.as_bytes-decimal.ensures.value ∙ c.format.ensures.text) c.numeral_text-first.ensures c.numeral_text-second.ensures c.numeral_text-sum.ensures) c.put_all.ensures.put
