use Rattle.std.proofs.Common.{length, sym as flip}
use Rattle.std.proofs.lemmas.Bool.{ltb-false}
use Rattle.rule_match.proofs.Walking.{pattern_at, blank_behind}
use Rattle.rule_match.proofs.walk.side_cell.Goals as goal

pub returns-in-Some : goal.returns-in-Some
returns-in-Some c = λ n. pattern_at c.args.side.patterns.now n c.args.column c.in-Some.pattern.now c.in-Some.ensures.lookup.3.0 c.in-Some.ensures.lookup.1

pub returns-in-None : goal.returns-in-None
returns-in-None c = λ n. blank_behind c.args.side.patterns.now n c.args.column (ltb-false c.args.column (length c.args.side.patterns.now) (flip c.in-None.ensures.lookup.0))
