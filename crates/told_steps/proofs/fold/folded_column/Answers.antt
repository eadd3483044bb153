use Rattle.std.proofs.Common.{refl}
use Rattle.told_steps.proofs.Folding.{rigid_folds, loose_folds}
use Rattle.told_steps.proofs.fold.folded_column.Goals as goal

pub returns-in_ok-told : goal.returns-in_ok-told
returns-in_ok-told c = rigid_folds c.args.opened c.args.own c.args.parts (record { depth = c.args.opened.depth; told = c.in_ok-told.told }) c.in_ok-value.value
    c.if-rigid.true refl c.in_ok-told.ensures.form c.in_ok-told.ensures.leads c.in_ok-value.ensures

pub returns-in_ok-told-2 : goal.returns-in_ok-told-2
returns-in_ok-told-2 c = loose_folds c.args.opened c.args.own c.args.parts (record { depth = c.args.opened.depth; told = c.in_ok-told-2.told })
    c.if-rigid.false refl c.in_ok-told-2.ensures.form c.in_ok-told-2.ensures.leads
