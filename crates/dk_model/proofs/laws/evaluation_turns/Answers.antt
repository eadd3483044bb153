use Rattle.std.proofs.Common.{refl}
use Rattle.dk_model.proofs.Turns.{whnf_contracts, whnf_stands, whnf_selects, selection_is, comparison_is, normal_is}
use Rattle.dk_model.proofs.laws.evaluation_turns.Goals as goal

pub returns-clause-ended : goal.returns-clause-ended
returns-clause-ended c = λ S t u. (refl, refl, refl)

pub returns-clause-contraction : goal.returns-clause-contraction
returns-clause-contraction c = λ S n t t' e. whnf_contracts S n t t' e

pub returns-clause-end : goal.returns-clause-end
returns-clause-end c = λ S n t e q. whnf_stands S n t e q

pub returns-clause-rule : goal.returns-clause-rule
returns-clause-rule c = λ S n t k e q. whnf_selects S n t k e q

pub returns-clause-selection : goal.returns-clause-selection
returns-clause-selection c = λ S n cols rs. selection_is S n cols rs

pub returns-clause-comparison : goal.returns-clause-comparison
returns-clause-comparison c = λ S n t u. comparison_is S n t u

pub returns-clause-normal_form : goal.returns-clause-normal_form
returns-clause-normal_form c = λ S n t. normal_is S n t
