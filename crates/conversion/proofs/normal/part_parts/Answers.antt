-- What is to be concluded of the part waits below its parts.
use Rattle.std.proofs.Common.{IfOk, List, subst}
use Rattle.shared_term.specs.Pools.{term}
use Rattle.conversion.specs.declared.normal.Frame.{Frame}
use Rattle.conversion.specs.Waiting.{TakesValueApart}
use Rattle.conversion.proofs.normal.part_parts.Goals as goal

pub returns : goal.returns
returns c = subst (λ (l : List Frame). IfOk c.take_apart.result (λ next. TakesValueApart c.args.pool.now (term c.args.pool.now c.args.value) l next c.take_apart.new.frames.items)) c.in_ok-push_frame.ensures c.take_apart.ensures
