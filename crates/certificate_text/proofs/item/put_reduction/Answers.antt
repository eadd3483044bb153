use Rattle.std.proofs.Common.{[], ◌∷◌, length, refl}
use Rattle.certificate_lines.specs.declared.line.Line.TheVariants.{Reduction}
use Rattle.checked_steps.specs.Items.{reduction}
use Rattle.certificate_items.specs.Texts.{item_lines, steps_lines}
use Rattle.certificate_items.specs.Views.{plain_steps}
use Rattle.certificate_text.proofs.Texts.{lines_then, lines_stop, lines_short, reduction_parts}
use Rattle.certificate_text.proofs.item.put_reduction.Goals as goal

pub returns-in-Ok-clause-put : goal.returns-in-Ok-clause-put
returns-in-Ok-clause-put g c = lines_then (item_lines (reduction (plain_steps c.args.steps.now))) (Reduction (length c.args.steps.now) ∷ []) (steps_lines (plain_steps c.args.steps.now))
    (reduction_parts c.args.steps.now (length c.args.steps.now) refl) c.in-Ok.ensures.put c.put_steps.ensures.put

pub returns-in-Ok-clause-short : goal.returns-in-Ok-clause-short
returns-in-Ok-clause-short g c = lines_short c.put_steps.result (item_lines (reduction (plain_steps c.args.steps.now))) (Reduction (length c.args.steps.now) ∷ []) (steps_lines (plain_steps c.args.steps.now))
    (reduction_parts c.args.steps.now (length c.args.steps.now) refl) (c.put_line.ensures.short, tt) c.put_steps.ensures.short

pub returns-in-Err-clause-put : goal.returns-in-Err-clause-put
returns-in-Err-clause-put g c = lines_stop (item_lines (reduction (plain_steps c.args.steps.now))) (Reduction (length c.args.steps.now) ∷ []) (steps_lines (plain_steps c.args.steps.now))
    (reduction_parts c.args.steps.now (length c.args.steps.now) refl) c.in-Err.ensures.put
