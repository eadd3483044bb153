use Rattle.std.proofs.Common.{◌+◌, ◌∙◌, refl, drop}
use Rattle.certificate_items.specs.Texts.{item_lines, lines_of}
use Rattle.certificate_items.specs.Views.{plain_item, plain_items}
use Rattle.certificate_text.proofs.Texts.{none_put, more_put, put_stops, all_put, all_short, next_item, no_items}
use Rattle.certificate_text.proofs.item.put_items.Goals as goal

pub loop-item-init : goal.loop-item-init
loop-item-init g c = record { put = none_put _ _ _; faults = refl }

pub loop-item-preserved : goal.loop-item-preserved
loop-item-preserved g c = record {
  put = more_put c.loop-item.invariant.put (item_lines (plain_item c.item-item.result)) (lines_of (plain_items (drop (c.loop-item.item-index + 1) c.args.items.now)))
      (next_item c.args.items.now c.loop-item.item-index c.item-item.result c.loop-item-test.true c.item-item.is) c.in-Ok.ensures.put c.in-Ok.ensures.short;
  faults = c.in-Ok.ensures.cause.stands ∙ c.loop-item.invariant.faults;
}

pub returns-in-Err-clause-put : goal.returns-in-Err-clause-put
returns-in-Err-clause-put g c = put_stops c.loop-item.invariant.put (item_lines (plain_item c.item-item.result)) (lines_of (plain_items (drop (c.loop-item.item-index + 1) c.args.items.now)))
    (next_item c.args.items.now c.loop-item.item-index c.item-item.result c.loop-item-test.true c.item-item.is) c.in-Err.ensures.put

pub returns-clause-put : goal.returns-clause-put
returns-clause-put g c = all_put c.loop-item.invariant.put (no_items c.args.items.now c.loop-item.item-index c.loop-item-test.false)

pub returns-clause-short : goal.returns-clause-short
returns-clause-short g c = all_short c.loop-item.invariant.put (no_items c.args.items.now c.loop-item.item-index c.loop-item-test.false)
