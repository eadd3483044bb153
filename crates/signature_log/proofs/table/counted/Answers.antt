use Rattle.std.proofs.Common.{◌∙◌, ap, arith, get_or}
use Rattle.signature_log.specs.Placed.{placed_rule, entry_rules, no_rule}
use Rattle.signature_log.proofs.Ruled.{adds_more}
use Rattle.signature_log.proofs.table.counted.Goals as goal

pub loop-at-preserved : goal.loop-at-preserved
loop-at-preserved g c =
    adds_more c.args.table.now c.loop-at.all c.in_ok-all-2.all (entry_rules c.args.held.now) c.loop-at.at (placed_rule c.new-place.result) no_rule
    (ap placed_rule c.new-place.ensures ∙ ap (λ e. get_or (entry_rules e) c.loop-at.at no_rule) c.in_ok-share.ensures)
    (omega (arith, c.loop-at-test.true, c.rule_count-at-end.ensures)) c.loop-at.invariant c.in_ok-all-2.ensures
