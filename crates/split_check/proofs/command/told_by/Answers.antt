use Rattle.std.proofs.Common.{rules, ◌∙◌, ap}
use Rattle.split_parts.specs.Parts.{combined}
use Rattle.split_check.specs.Due.{AreDue}
use Rattle.split_check.proofs.Commands.{results_due}
use Rattle.split_check.proofs.command.told_by.Goals as goal

pub returns-in-Ok : goal.returns-in-Ok
returns-in-Ok c = λ due dues e h.
    let rs = c.in-Ok.results.items in
    let a : AreDue dues rs = search rules in
    c.told.ensures due c.args.budget (results_due c.args.budget dues rs due c.combine.result e a (c.combine.ensures ∙ ap (λ xs. combined xs c.args.budget) c.as_slice.ensures.value))
