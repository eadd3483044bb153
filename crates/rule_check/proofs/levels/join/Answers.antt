use Rattle.std.proofs.Common.{rules, ◌≡◌, ◌∙◌, ◌++◌, List, ℕ, ap, length, vec_len}
use Rattle.std.proofs.lemmas.Option.{MatchOption-at_none}
use Rattle.rule_check.proofs.Resolved.{is_joined}
use Rattle.rule_check.proofs.levels.join.Goals as goal

pub returns-in_ok-push : goal.returns-in_ok-push
returns-in_ok-push c =
    is_joined c.args.levels.now.items c.pop.new.self.items c.pop-in-Some.new.self.items c.push.new.self.items c.in-Some.last c.append.new.self c.pop-in-Some.result c.in-Some.ensures.items c.pop-in-Some.ensures.items
    (λ e. let n : vec_len c.pop-in-Some.new.self ≡ 0 = (MatchOption-at_none _ _ e c.pop-in-Some.ensures.cases).1 in let l : length c.pop-in-Some.new.self.items ≡ vec_len c.pop-in-Some.new.self = search rules in l ∙ n) (c.in_ok-append.ensures.items ∙ ap (λ (xs : List ℕ). xs ++ c.in-Some.last.items) c.numbers-level.ensures) c.in_ok-push.ensures.items
