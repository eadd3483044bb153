-- What is to be concluded of the pair waits below its parts.
use Rattle.std.proofs.Common.{IfOk, List, subst}
use Rattle.shared_term.specs.Pools.{term}
use Rattle.conversion.specs.declared.compare.Step.{Step}
use Rattle.conversion.specs.Pending.{TakesApart}
use Rattle.conversion.proofs.compare.pair_parts.Goals as goal

pub returns : goal.returns
returns c = subst (λ (l : List Step). IfOk c.parts.result (λ alike. TakesApart c.args.pool.now (term c.args.pool.now c.args.x) (term c.args.pool.now c.args.y) l alike c.parts.new.work.items)) c.in_ok-push_step.ensures c.parts.ensures
