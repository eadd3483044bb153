-- The guard is loaded, filled and shifted.
use Rattle.rule_match.proofs.Trying.{guard_made}
use Rattle.rule_match.proofs.row.guard_under.Goals as goal

pub returns-clause-is : goal.returns-clause-is
returns-clause-is c = guard_made c.args.guard.now c.args.captures.now c.args.pool.now c.load.new.self c.filled.new.self c.shift.new.self c.in_ok-guard.guard c.in_ok-guard-2.guard c.args.depth c.shift.result
    c.requires c.in_ok-guard.ensures.keeps c.in_ok-guard.ensures.denotes c.in_ok-guard-2.ensures.moves c.shift.ensures.moves
