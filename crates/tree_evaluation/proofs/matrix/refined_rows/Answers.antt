use Rattle.std.proofs.Common.{length, refl}
use Rattle.std.proofs.lemmas.Option.{slice_get_read}
use Rattle.dk_model.specs.Matrix.{refined_rows}
use Rattle.tree_evaluation.specs.Views.{row, tree}
use Rattle.tree_evaluation.specs.Tellings.{IsRefinedFrom}
use Rattle.tree_evaluation.proofs.Rows.{each_more, shown_more, refined_more, refined_shown, refined_from}
use Rattle.tree_evaluation.proofs.matrix.refined_rows.Goals as goal

pub loop-from-preserved : goal.loop-from-preserved
loop-from-preserved c =
    let v = tree c.args.value.now in
    let own = c.index-rows-from.result in
    let there = slice_get_read c.args.rows.now (length c.args.rows.now) c.loop-from.from own refl c.loop-from-test.true c.index-rows-from.is in
    record {
      shown = shown_more (refined_rows v c.args.count c.args.at) (refined_more v c.args.count c.args.at) row c.args.rows.now c.loop-from.from own c.loop-from.kept.items c.push_if.new.rows.items c.in_ok-row.row
          c.loop-from-test.true c.index-rows-from.is c.in_ok-push_if.ensures c.loop-from.invariant.shown (refined_shown v c.args.count c.args.at own c.in_ok-row.row c.in_ok-row.ensures.row);
      refined = each_more (IsRefinedFrom v c.args.count c.args.at c.args.rows.now) c.loop-from.kept.items c.push_if.new.rows.items c.in_ok-row.row c.in_ok-push_if.ensures c.loop-from.invariant.refined
          (refined_from v c.args.count c.args.at own c.args.rows.now c.loop-from.from c.in_ok-row.row there c.in_ok-row.ensures.row c.in_ok-row.ensures.from c.in_ok-row.ensures.rule);
    }
