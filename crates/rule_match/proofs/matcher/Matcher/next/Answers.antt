use Rattle.std.proofs.Common.{true, false}
use Rattle.shared_term.specs.Pools.{term}
use Rattle.rule_match.specs.Matching.{answered, selects, after_value, after_normal, after_compared, after_guard}
use Rattle.rule_match.specs.Selecting.{left_with}
use Rattle.rule_match.proofs.Matching.{asks_on}
use Rattle.rule_match.proofs.Seeing.{seen}
use Rattle.rule_match.proofs.matcher.Matcher.next.Goals as goal

pub returns-in-Begin-clause-asks : goal.returns-in-Begin-clause-asks
returns-in-Begin-clause-asks c =
    seen c.try_row.result c.try_row.new.pool c.try_row.new.self c.args.self.now (λ rules S. left_with S rules c.args.pool.now c.args.self.now c.args.answer) c.try_row.ensures.within c.try_row.ensures.awaits
    (asks_on c.try_row.result c.try_row.new.pool c.try_row.new.self c.args.self.now c.args.self.now (λ rules S. selects S rules c.args.pool.now c.args.self.now)
    (λ rules S. left_with S rules c.args.pool.now c.args.self.now c.args.answer) (λ rules s. s)
    (λ rules s S n i. answered S rules c.args.pool.now c.args.self.now (c.in-Begins.is i) (c.in-Begin.is i) n) c.try_row.ensures.asks)

pub returns-in-Value-clause-asks : goal.returns-in-Value-clause-asks
returns-in-Value-clause-asks c =
    seen c.put_value.result c.put_value.new.pool c.put_value.new.self c.args.self.now (λ rules S. left_with S rules c.args.pool.now c.args.self.now c.args.answer) c.put_value.ensures.within c.put_value.ensures.awaits
    (asks_on c.put_value.result c.put_value.new.pool c.put_value.new.self c.args.self.now c.args.self.now (λ rules S. after_value S rules c.args.pool.now c.args.self.now c.in-Evaluates.at (term c.args.pool.now c.in-Value.value))
    (λ rules S. left_with S rules c.args.pool.now c.args.self.now c.args.answer) (λ rules s. s)
    (λ rules s S n i. answered S rules c.args.pool.now c.args.self.now (c.in-Evaluates.is i) (c.in-Value.is i) n) c.put_value.ensures.asks)

pub returns-in-Normal-clause-asks : goal.returns-in-Normal-clause-asks
returns-in-Normal-clause-asks c =
    seen c.put_normal.result c.put_normal.new.pool c.put_normal.new.self c.args.self.now (λ rules S. left_with S rules c.args.pool.now c.args.self.now c.args.answer) c.put_normal.ensures.within c.put_normal.ensures.awaits
    (asks_on c.put_normal.result c.put_normal.new.pool c.put_normal.new.self c.args.self.now c.args.self.now (λ rules S. after_normal S rules c.args.pool.now c.args.self.now c.in-Escapes.at (term c.args.pool.now c.in-Normal.part))
    (λ rules S. left_with S rules c.args.pool.now c.args.self.now c.args.answer) (λ rules s. s)
    (λ rules s S n i. answered S rules c.args.pool.now c.args.self.now (c.in-Escapes.is i) (c.in-Normal.is i) n) c.put_normal.ensures.asks)

pub returns-in-Yes-clause-asks : goal.returns-in-Yes-clause-asks
returns-in-Yes-clause-asks c =
    seen c.captured.result c.captured.new.pool c.captured.new.self c.args.self.now (λ rules S. left_with S rules c.args.pool.now c.args.self.now c.args.answer) c.captured.ensures.within c.captured.ensures.awaits
    (asks_on c.captured.result c.captured.new.pool c.captured.new.self c.args.self.now c.args.self.now (λ rules S. after_compared S rules c.args.pool.now c.args.self.now c.in-Compares.at true)
    (λ rules S. left_with S rules c.args.pool.now c.args.self.now c.args.answer) (λ rules s. s)
    (λ rules s S n i. answered S rules c.args.pool.now c.args.self.now (c.in-Compares.is i) (c.in-Yes.is i) n) c.captured.ensures.asks)

pub returns-in-No-clause-asks : goal.returns-in-No-clause-asks
returns-in-No-clause-asks c =
    seen c.captured-in-No.result c.captured-in-No.new.pool c.captured-in-No.new.self c.args.self.now (λ rules S. left_with S rules c.args.pool.now c.args.self.now c.args.answer) c.captured-in-No.ensures.within c.captured-in-No.ensures.awaits
    (asks_on c.captured-in-No.result c.captured-in-No.new.pool c.captured-in-No.new.self c.args.self.now c.args.self.now (λ rules S. after_compared S rules c.args.pool.now c.args.self.now c.in-Compares.at false)
    (λ rules S. left_with S rules c.args.pool.now c.args.self.now c.args.answer) (λ rules s. s)
    (λ rules s S n i. answered S rules c.args.pool.now c.args.self.now (c.in-Compares.is i) (c.in-No.is i) n) c.captured-in-No.ensures.asks)

pub returns-in-Yes-answer-clause-asks : goal.returns-in-Yes-answer-clause-asks
returns-in-Yes-answer-clause-asks c =
    seen c.guarded.result c.guarded.new.pool c.guarded.new.self c.args.self.now (λ rules S. left_with S rules c.args.pool.now c.args.self.now c.args.answer) c.guarded.ensures.within c.guarded.ensures.awaits
    (asks_on c.guarded.result c.guarded.new.pool c.guarded.new.self c.args.self.now c.args.self.now (λ rules S. after_guard S rules c.args.pool.now c.args.self.now c.in-Guards.at true)
    (λ rules S. left_with S rules c.args.pool.now c.args.self.now c.args.answer) (λ rules s. s)
    (λ rules s S n i. answered S rules c.args.pool.now c.args.self.now (c.in-Guards.is i) (c.in-Yes-answer.is i) n) c.guarded.ensures.asks)

pub returns-in-No-answer-clause-asks : goal.returns-in-No-answer-clause-asks
returns-in-No-answer-clause-asks c =
    seen c.guarded-in-No-answer.result c.guarded-in-No-answer.new.pool c.guarded-in-No-answer.new.self c.args.self.now (λ rules S. left_with S rules c.args.pool.now c.args.self.now c.args.answer) c.guarded-in-No-answer.ensures.within c.guarded-in-No-answer.ensures.awaits
    (asks_on c.guarded-in-No-answer.result c.guarded-in-No-answer.new.pool c.guarded-in-No-answer.new.self c.args.self.now c.args.self.now (λ rules S. after_guard S rules c.args.pool.now c.args.self.now c.in-Guards.at false)
    (λ rules S. left_with S rules c.args.pool.now c.args.self.now c.args.answer) (λ rules s. s)
    (λ rules s S n i. answered S rules c.args.pool.now c.args.self.now (c.in-Guards.is i) (c.in-No-answer.is i) n) c.guarded-in-No-answer.ensures.asks)
