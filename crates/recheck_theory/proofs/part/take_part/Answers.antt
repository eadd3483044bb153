use Rattle.std.proofs.Common.{Err, ap, subst as along}
use Rattle.dk_model.specs.Scoping.{plain_command}
use Rattle.signature_log.specs.Versions.{entries_of}
use Rattle.certificate_items.specs.Views.{plain_items}
use Rattle.checked_steps.specs.Checked.{IsChecked}
use Rattle.recheck_theory.proofs.Lines.{without_front, not_checked, read_rejected, wrong_passed}
use Rattle.recheck_theory.proofs.part.take_part.Goals as goal

pub returns-in_err-items-clause-rejected : goal.returns-in_err-items-clause-rejected
returns-in_err-items-clause-rejected c = λ e. without_front c.in-Some.ensures.some
    (c.in_err-items.ensures.none (ap Err (read_rejected c.from_residual.result c.in_err-items.field-0.0 c.from_residual.ensures.1 e)))

pub returns-in_err-typ-clause-rejected : goal.returns-in_err-typ-clause-rejected
returns-in_err-typ-clause-rejected c = λ e. not_checked c.in-Some.ensures.some c.in_ok-items.ensures.only
    (along (λ items. ¬ IsChecked (entries_of c.args.version.now) (plain_command c.args.command.now) (plain_items items)) c.as_slice.ensures
    (c.in_err-typ.ensures.rejected (ap Err (wrong_passed c.from_residual-in_err-typ.result c.in_err-typ.field-0.0 c.from_residual-in_err-typ.ensures.1 e))))
