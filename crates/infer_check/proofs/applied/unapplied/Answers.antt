-- Nothing is put in.
use Rattle.infer_check.proofs.Putting.{none_put}
use Rattle.infer_check.proofs.applied.unapplied.Goals as goal

pub returns-clause-is : goal.returns-clause-is
returns-clause-is g c = none_put g.R.Reducer.owns g.R.Reducer.denotes c.args.r.now 0 (record { typ = c.args.typ; arguments = c.new.result }) c.new.ensures.items
