use Rattle.conversion.proofs.Raising.{raised_tells}
use Rattle.conversion.proofs.mentions.is_closed.Goals as goal

pub returns-clause-tells : goal.returns-clause-tells
returns-clause-tells c =
    raised_tells c.same.result c.args.pool.now c.shift.new.self c.args.id c.in_ok-raised.raised c.requires c.in_ok-raised.ensures.keeps c.in_ok-raised.ensures.moves c.same.ensures.terms
