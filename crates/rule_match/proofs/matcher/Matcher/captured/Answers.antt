use Rattle.std.proofs.Common.{◌+◌, ◌∙◌, Bool, ap, drop}
use Rattle.shared_term.specs.Changes.{captured_terms}
use Rattle.rule_match.specs.Rows.{row}
use Rattle.rule_match.specs.Columns.{plain}
use Rattle.rule_match.specs.Matching.{fails, after_compared, captures_due}
use Rattle.rule_match.specs.Remaining.{rows_left}
use Rattle.rule_match.proofs.Matching.{asks_on, compared_other, compared_alike}
use Rattle.rule_match.proofs.matcher.Matcher.captured.Goals as goal

pub returns-then-not-alike-clause-asks : goal.returns-then-not-alike-clause-asks
returns-then-not-alike-clause-asks c =
    asks_on c.next_row.result c.next_row.new.pool c.next_row.new.self c.args.self.now c.args.self.now (λ rules S. fails S rules c.args.pool.now c.args.self.now)
    (λ rules S. after_compared S rules c.args.pool.now c.args.self.now c.args.at c.args.alike) (λ rules s. s)
    (λ rules s S n. ap (λ (b : Bool). after_compared S rules c.args.pool.now c.args.self.now c.args.at b n) c.if-not-alike.true
    ∙ compared_other S (row rules c.args.self.now.row) (drop (c.args.self.now.tried + 1) (rows_left rules c.args.self.now.left)) (plain c.args.pool.now c.args.self.now.columns.items) c.args.at
    (captured_terms c.args.pool.now c.args.self.now.captures.items) n)
    c.next_row.ensures.asks

pub returns-clause-asks : goal.returns-clause-asks
returns-clause-asks c =
    asks_on c.go_through.result c.go_through.new.pool c.go_through.new.self c.args.self.now c.args.self.now (λ rules S. captures_due S rules c.args.pool.now c.args.self.now (c.args.at + 1))
    (λ rules S. after_compared S rules c.args.pool.now c.args.self.now c.args.at c.args.alike) (λ rules s. s)
    (λ rules s S n. ap (λ (b : Bool). after_compared S rules c.args.pool.now c.args.self.now c.args.at b n) c.if-not-alike.false
    ∙ compared_alike S (row rules c.args.self.now.row) (drop (c.args.self.now.tried + 1) (rows_left rules c.args.self.now.left)) (plain c.args.pool.now c.args.self.now.columns.items) c.args.at
    (captured_terms c.args.pool.now c.args.self.now.captures.items) n)
    c.go_through.ensures.asks
