use Rattle.std.proofs.Common.{Err, ap, sym as flip, subst as along}
use Rattle.certificate_items.specs.Texts.{lines_of, BeginsWith}
use Rattle.certificate_items.specs.Views.{plain_items}
use Rattle.certificate_items.proofs.Begins.{begins_none}
use Rattle.certificate_items.proofs.Firsts.{passed}
use Rattle.certificate_items.proofs.Longer.{items_go_on, whole_text, only_items, none_left, some_left, no_more_items}
use Rattle.certificate_items.proofs.reading.read_items.Goals as goal

pub loop-reader-init : goal.loop-reader-init
loop-reader-init c = along (λ xs. BeginsWith (lines_of (plain_items xs)) c.args.bytes.now c.args.bytes.now) (flip c.new-items.ensures) (begins_none c.args.bytes.now)

pub returns-in_err-item-clause-none : goal.returns-in_err-item-clause-none
returns-in_err-item-clause-none c = λ e. no_more_items c.loop-reader.items c.args.bytes.now c.loop-reader.reader.rest.now
    (some_left c.loop-reader.reader.rest.now c.is_empty.result c.is_empty.ensures c.loop-reader-test.true) c.loop-reader.invariant
    (c.in_err-item.ensures.none (ap Err (passed c.from_residual.result c.in_err-item.field-0.0 c.from_residual.ensures.1 e)))

pub loop-reader-preserved : goal.loop-reader-preserved
loop-reader-preserved c = along (λ xs. BeginsWith (lines_of (plain_items xs)) c.args.bytes.now c.item.new.self.rest.now) (flip c.in_ok-push.ensures.ok)
    (items_go_on c.loop-reader.items c.in_ok-item.field-0 c.args.bytes.now c.loop-reader.reader.rest.now c.item.new.self.rest.now c.loop-reader.invariant c.in_ok-item.ensures.ok)

pub returns-clause-ok : goal.returns-clause-ok
returns-clause-ok c = whole_text c.loop-reader.items c.args.bytes.now c.loop-reader.reader.rest.now c.loop-reader.invariant
    (none_left c.loop-reader.reader.rest.now c.is_empty.result c.is_empty.ensures c.loop-reader-test.false)

pub returns-clause-only : goal.returns-clause-only
returns-clause-only c = only_items c.loop-reader.items c.args.bytes.now c.loop-reader.reader.rest.now c.loop-reader.invariant
    (none_left c.loop-reader.reader.rest.now c.is_empty.result c.is_empty.ensures c.loop-reader-test.false)
