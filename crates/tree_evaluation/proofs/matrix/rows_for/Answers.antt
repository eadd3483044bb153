use Rattle.std.proofs.Common.{length, refl}
use Rattle.std.proofs.lemmas.Option.{slice_get_read}
use Rattle.dk_model.specs.Matrix.{rows_for}
use Rattle.tree_evaluation.specs.Views.{rule}
use Rattle.tree_evaluation.specs.Tellings.{IsFirstRow}
use Rattle.tree_evaluation.proofs.Rows.{each_more, shown_more, rules_more, rule_shown, rule_first}
use Rattle.tree_evaluation.proofs.matrix.rows_for.Goals as goal

pub loop-from-preserved : goal.loop-from-preserved
loop-from-preserved c =
    let own = c.index-rules-from.result in
    let there = slice_get_read c.args.rules.now (length c.args.rules.now) c.loop-from.from own refl c.loop-from-test.true c.index-rules-from.is in
    record {
      shown = shown_more (rows_for c.args.count c.args.width) (rules_more c.args.width c.args.count) rule c.args.rules.now c.loop-from.from own c.loop-from.rows.items c.push_if.new.rows.items c.in_ok-row.row
          c.loop-from-test.true c.index-rules-from.is c.in_ok-push_if.ensures c.loop-from.invariant.shown
          (rule_shown c.args.width c.args.count c.loop-from.from own c.in_ok-row.row c.in_ok-row.ensures.none c.in_ok-row.ensures.some);
      first = each_more (IsFirstRow c.args.width c.args.count c.args.rules.now) c.loop-from.rows.items c.push_if.new.rows.items c.in_ok-row.row c.in_ok-push_if.ensures c.loop-from.invariant.first
          (rule_first c.args.width c.args.count c.loop-from.from own c.args.rules.now c.in_ok-row.row there c.in_ok-row.ensures.some);
    }
