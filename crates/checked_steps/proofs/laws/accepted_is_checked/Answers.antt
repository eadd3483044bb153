use Rattle.typing_model.proofs.Rules.{whnf_reduces, normal_reduces, comparison_joins}
use Rattle.checked_steps.proofs.Complete.{accepted_items, type_items}
use Rattle.checked_steps.proofs.laws.accepted_is_checked.Goals as goal

pub returns-clause-command : goal.returns-clause-command
returns-clause-command c = λ S numbered. accepted_items S (whnf_reduces S numbered) (normal_reduces S numbered) (comparison_joins S numbered)

pub returns-clause-typ : goal.returns-clause-typ
returns-clause-typ c = λ S numbered. type_items S (whnf_reduces S numbered) (normal_reduces S numbered) (comparison_joins S numbered)
