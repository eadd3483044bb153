use Rattle.dk_parser.proofs.Turns.{turn_adds, turn_leaves}
use Rattle.dk_parser.proofs.parser.Parser.feed.Goals as goal

pub returns-clause-after : goal.returns-clause-after
returns-clause-after c = λ limits ts is. turn_leaves limits ts _ _ _ _ c.take.ensures is

pub returns-clause-adds : goal.returns-clause-adds
returns-clause-adds c = λ limits ts is. turn_adds limits ts _ _ _ _ c.take.ensures is
