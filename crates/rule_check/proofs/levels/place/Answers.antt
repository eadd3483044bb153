use Rattle.std.proofs.Common.{rules, ◌≡◌, ◌∙◌, ◌++◌, ◌∷◌, [], List, ℕ, ap, length, vec_len}
use Rattle.std.proofs.lemmas.Option.{MatchOption-at_none}
use Rattle.rule_check.proofs.Resolved.{is_placed}
use Rattle.rule_check.proofs.levels.place.Goals as goal

pub returns : goal.returns
returns c =
    is_placed c.args.levels.now.items c.pop.new.self.items c.push-2.new.self.items c.push.new.self c.pop.result c.args.number c.pop.ensures.items
    (λ e. let n : vec_len c.args.levels.now ≡ 0 = (MatchOption-at_none _ _ e c.pop.ensures.cases).0 in let l : length c.args.levels.now.items ≡ vec_len c.args.levels.now = search rules in l ∙ n)
    (c.in_ok-push.ensures.items ∙ ap (λ (xs : List ℕ). xs ++ c.args.number ∷ []) c.numbers-level.ensures) c.in_ok-push-2.ensures.items
