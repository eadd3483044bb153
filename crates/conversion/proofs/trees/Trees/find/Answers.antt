use Rattle.std.proofs.Common.{◌≡◌, ◌<◌, ℕ, length, subst, arith}
use Rattle.dk_model.specs.SymbolRules.{rules_of}
use Rattle.rule_match.specs.Trees.{IsTree}
use Rattle.conversion.proofs.Treeing.{tree_at}
use Rattle.conversion.proofs.trees.Trees.find.Goals as goal

pub returns-in-Some : goal.returns-in-Some
returns-in-Some c = λ S h.
    let l = rw c.as_slice.ensures.value at c.in-Some.ensures.lookup in
    let lt : c.place_of.result < length c.args.self.now.listed.items = omega (arith, l.3.0) in
    let same : c.in-Some.found.now.symbol ≡ c.args.symbol = omega (arith, c.if-found-symbol.true) in
    subst (λ (k : ℕ). IsTree (rules_of S k) c.in-Some.found.now.tree) same (tree_at S c.args.self.now.listed.items c.place_of.result c.in-Some.found.now h lt l.1)
