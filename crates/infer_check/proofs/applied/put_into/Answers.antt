-- No arguments.
use Rattle.std.proofs.Common.{arith}
use Rattle.std.proofs.lemmas.Bool.Decides.{nat_tests}
use Rattle.infer_check.proofs.Putting.{empty_put}
use Rattle.infer_check.proofs.applied.put_into.Goals as goal

pub returns-then-is_empty-clause-makes : goal.returns-then-is_empty-clause-makes
returns-then-is_empty-clause-makes g c =
    (empty_put g.R.Reducer.owns g.R.Reducer.denotes c.args.r.now c.args.typ c.args.arguments.now (grind (arith, nat_tests)), c.requires.typ)
