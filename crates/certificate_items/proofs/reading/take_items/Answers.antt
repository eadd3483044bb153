use Rattle.std.proofs.Common.{Err, ap, ◌∙◌, sym as flip, subst as along}
use Rattle.certificate_items.specs.Texts.{lines_of, BeginsWith}
use Rattle.certificate_items.specs.Views.{plain_items}
use Rattle.certificate_items.proofs.Begins.{begins_none}
use Rattle.certificate_items.proofs.Firsts.{passed}
use Rattle.certificate_items.proofs.Longer.{items_go_on}
use Rattle.certificate_items.proofs.Fronts.{only_front, no_front}
use Rattle.certificate_items.proofs.reading.take_items.Goals as goal

pub loop-items-init : goal.loop-items-init
loop-items-init c = along (λ xs. BeginsWith (lines_of (plain_items xs)) c.args.bytes.now c.args.bytes.now) (flip c.new-items.ensures) (begins_none c.args.bytes.now)

pub returns-in_err-item-clause-none : goal.returns-in_err-item-clause-none
returns-in_err-item-clause-none c = λ e. no_front c.loop-items.items c.args.bytes.now c.loop-items.reader.rest.now c.loop-items.invariant
    (flip c.begins_item.ensures ∙ c.loop-items-test.true)
    (c.in_err-item.ensures.none (ap Err (passed c.from_residual.result c.in_err-item.field-0.0 c.from_residual.ensures.1 e)))

pub loop-items-preserved : goal.loop-items-preserved
loop-items-preserved c = along (λ xs. BeginsWith (lines_of (plain_items xs)) c.args.bytes.now c.item.new.self.rest.now) (flip c.in_ok-push.ensures.ok)
    (items_go_on c.loop-items.items c.in_ok-item.field-0 c.args.bytes.now c.loop-items.reader.rest.now c.item.new.self.rest.now c.loop-items.invariant c.in_ok-item.ensures.ok)

pub returns-clause-ok : goal.returns-clause-ok
returns-clause-ok c = (c.loop-items.invariant, flip c.begins_item.ensures ∙ c.loop-items-test.false)

pub returns-clause-only : goal.returns-clause-only
returns-clause-only c = only_front c.loop-items.items c.args.bytes.now c.loop-items.reader.rest.now (c.loop-items.invariant, flip c.begins_item.ensures ∙ c.loop-items-test.false)
