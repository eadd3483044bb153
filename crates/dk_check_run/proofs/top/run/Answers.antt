use Rattle.dk_check_run.proofs.Promises.{promises, runs_at}
use Rattle.dk_check_run.proofs.top.run.Goals as goal

pub returns-clause-due : goal.returns-clause-due
returns-clause-due g c = runs_at c.standard.ensures c.run_with.ensures

pub returns-clause-promises : goal.returns-clause-promises
returns-clause-promises g c = promises c.pruned_stands_alone.ensures c.accepted_is_reported.ensures c.rechecked_have_derivations.ensures c.accepted_are_read.ensures.outcome c.certified_is_rechecked.ensures _ _ _ _ _ _ _ (runs_at c.standard.ensures c.run_with.ensures)
