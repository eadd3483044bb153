use Rattle.std.proofs.Common.{sym}
use Rattle.pattern_compile.proofs.Variables.{variable_found, variable_lost}
use Rattle.pattern_compile.proofs.pattern.bare_variables.Goals as goal

pub returns-in-None : goal.returns-in-None
returns-in-None c =
    variable_lost _ c.loop-pattern.variables c.args.patterns.now c.loop-pattern.pattern-index c.pattern-item.result c.loop-pattern-test.true c.pattern-item.is c.loop-pattern.invariant
    (sym c.in-None.ensures)

pub loop-pattern-preserved : goal.loop-pattern-preserved
loop-pattern-preserved c =
    rw c.in_ok-push-in-Some.ensures.ok
    (variable_found _ c.loop-pattern.variables c.args.patterns.now c.loop-pattern.pattern-index c.pattern-item.result c.loop-pattern-test.true c.pattern-item.is c.loop-pattern.invariant c.in-Some.variable
    (sym c.in-Some.ensures))
