-- The right side under the captures, before the arguments that are left over.
use Rattle.std.proofs.Common.{◌≡◌, ◌∙◌, ◌-◌, Some, ap, subst, sym as flip, length, take, arith}
use Rattle.std.specs.Prelude.{slice_get}
use Rattle.std.proofs.lemmas.Grind.{common_steps}
use Rattle.dk_model.specs.Signatures.{PlainRule, PlainSignature}
use Rattle.dk_model.specs.SymbolRules.{rules_of}
use Rattle.signature_log.specs.Versions.{entries_of}
use Rattle.rule_match.specs.Rows.{rule_at}
use Rattle.rule_match.proofs.Growing.{captures_grown}
use Rattle.conversion.specs.Rules.{plain_rule_of}
use Rattle.conversion.specs.Clauses.{PutsRight}
use Rattle.conversion.proofs.Selecting.{right_put, rule_there}
use Rattle.conversion.proofs.state.PoolReducer.put_right.Goals as goal

pub returns-clause-puts : goal.returns-clause-puts
returns-clause-puts c =
    let S : PlainSignature = entries_of c.args.version.now in
    let r : PlainRule = plain_rule_of c.rule_at-rule.result in
    let is : c.in-Ok.at ≡ c.args.at = grind (arith, common_steps, c.try_from.ensures, c.in-Ok.is) in
    let there : slice_get (rules_of S c.args.symbol) c.in-Ok.at ≡ Some r = ap (λ l. slice_get l c.in-Ok.at) (flip c.rules_of.ensures) ∙ c.rule_at-rule.ensures.rule in
    let same : r ≡ rule_at (rules_of S c.args.symbol) c.args.at = flip (rule_there (rules_of S c.args.symbol) c.in-Ok.at r there) ∙ ap (rule_at (rules_of S c.args.symbol)) is in
    let k : c.saturating_sub-kept.result ≡ length c.args.stack.now.items - length r.pats = omega (arith, c.saturating_sub-kept.ensures, c.len.ensures, c.pattern_count.ensures, c.args.stack.now.ok.0) in
    subst (λ (x : PlainRule). PutsRight c.args.self.now c.args.captures.now x c.args.stack.now (record c.brought.new.self { pool = c.put.new.pool }) c.in_ok-next.next c.put.new.stack) same (
      right_put S c.args.symbol c.args.self.now.pool c.brought.new.self.pool c.put.new.pool c.args.captures.now r c.in-Ok.at c.args.stack.now.items c.truncate.new.self.items c.put.new.stack.items c.in_ok-right.right c.in_ok-next.next
          c.in_ok-right.ensures.gives there c.in_ok-right.ensures.keeps (captures_grown c.args.self.now.pool c.brought.new.self.pool c.args.captures.now c.in_ok-right.ensures.keeps c.requires.captures)
          c.in_ok-next.ensures.puts c.requires.stack (c.truncate.ensures.items ∙ ap (λ j. take j c.args.stack.now.items) k),
      c.in_ok-next.ensures.there,
    )
