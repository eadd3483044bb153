use Rattle.std.proofs.Common.{length}
use Rattle.one_lexer.proofs.Shapes.{shape_of}
use Rattle.one_lexer.proofs.next.front_of.Goals as goal

pub returns-clause-shape : goal.returns-clause-shape
returns-clause-shape c =
    let front = c.stands_at.result in
    shape_of c.args.limit (length c.args.bytes.now) front.settled front.late front.found c.args.bytes.now c.requires c.stands_at.ensures
