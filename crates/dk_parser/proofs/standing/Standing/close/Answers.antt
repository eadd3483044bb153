use Rattle.std.proofs.Common.{arith}
use Rattle.dk_parser.proofs.Grouped.{arrows_pushed}
use Rattle.dk_parser.proofs.standing.Standing.close.Goals as goal

pub overflow_sub-self : goal.overflow_sub-self
overflow_sub-self c = omega (arith, arrows_pushed c.pop.new.self c.args.self.now.outer c.in-Some.group c.in-Some.ensures.some, c.args.self.now.counted)

pub overflow_sub-self-in-Some : goal.overflow_sub-self-in-Some
overflow_sub-self-in-Some c = omega (arith, arrows_pushed c.pop.new.self c.args.self.now.outer c.in-Some.group c.in-Some.ensures.some, c.args.self.now.counted)
