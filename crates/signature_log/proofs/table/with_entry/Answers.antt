use Rattle.std.proofs.Common.{◌∙◌, sym}
use Rattle.std.proofs.lemmas.Result.{IfOk-weaker}
use Rattle.signature_log.specs.Placed.{entry_rules}
use Rattle.signature_log.proofs.Ruled.{adds_none}
use Rattle.signature_log.proofs.table.with_entry.Goals as goal

pub returns-then-rule_count-eq0 : goal.returns-then-rule_count-eq0
returns-then-rule_count-eq0 c =
    IfOk-weaker c.share.result _ _
    (λ t same. adds_none c.args.table.now t (entry_rules c.args.held.now) same (sym c.rule_count.ensures ∙ c.if-rule_count-eq0.true)) c.share.ensures
