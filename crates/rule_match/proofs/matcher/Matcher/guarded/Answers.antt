use Rattle.std.proofs.Common.{◌+◌, Bool, ap}
use Rattle.rule_match.specs.Matching.{fails, after_guard, guards_due}
use Rattle.rule_match.proofs.Matching.{asks_on}
use Rattle.rule_match.proofs.matcher.Matcher.guarded.Goals as goal

pub returns-then-not-alike-clause-asks : goal.returns-then-not-alike-clause-asks
returns-then-not-alike-clause-asks c =
    asks_on c.next_row.result c.next_row.new.pool c.next_row.new.self c.args.self.now c.args.self.now (λ rules S. fails S rules c.args.pool.now c.args.self.now)
    (λ rules S. after_guard S rules c.args.pool.now c.args.self.now c.args.at c.args.alike) (λ rules s. s)
    (λ rules s S n. ap (λ (b : Bool). after_guard S rules c.args.pool.now c.args.self.now c.args.at b n) c.if-not-alike.true) c.next_row.ensures.asks

pub returns-clause-asks : goal.returns-clause-asks
returns-clause-asks c =
    asks_on c.go_guarding.result c.go_guarding.new.pool c.go_guarding.new.self c.args.self.now c.args.self.now (λ rules S. guards_due S rules c.args.pool.now c.args.self.now (c.args.at + 1))
    (λ rules S. after_guard S rules c.args.pool.now c.args.self.now c.args.at c.args.alike) (λ rules s. s)
    (λ rules s S n. ap (λ (b : Bool). after_guard S rules c.args.pool.now c.args.self.now c.args.at b n) c.if-not-alike.false)
    c.go_guarding.ensures.asks
