use Rattle.std.proofs.Common.{◌≡◌, ◌<◌, ℕ, length, subst, arith}
use Rattle.dk_model.specs.SymbolRules.{rules_of}
use Rattle.rule_match.specs.Trees.{IsTree}
use Rattle.conversion.proofs.Treeing.{new_at}
use Rattle.conversion.proofs.trees.TreesInUse.find.Goals as goal

pub returns-in-Some : goal.returns-in-Some
returns-in-Some c = λ S h. c.in-Some.ensures S h.0

pub returns-then-new-symbol : goal.returns-then-new-symbol
returns-then-new-symbol c = λ S h.
    let l : c.loop-at.at < length c.args.self.now.new.items = omega (arith, c.loop-at-test.true, c.len-at-end.ensures, c.args.self.now.new.ok.0) in
    let same : c.index-new.result.now.symbol ≡ c.args.symbol = c.if-new-symbol.true in
    subst (λ (k : ℕ). IsTree (rules_of S k) c.index-new.result.now.tree.now) same (new_at S c.args.self.now.new.items c.loop-at.at c.index-new.result.now h.1 l c.index-new.ensures)
