use Rattle.signature_log.specs.Versions.{entries_of}
use Rattle.infer_check.specs.Contexts.{rule_types, bound_types}
use Rattle.split_check.proofs.Layings.{type_goes}
use Rattle.split_check.proofs.laying.lay_type.Goals as goal

pub returns-in_ok-fine-in-Ok-clause-lays : goal.returns-in_ok-fine-in-Ok-clause-lays
returns-in_ok-fine-in-Ok-clause-lays g c = (
  type_goes (entries_of c.args.version.now) c.args.laying.now c.fine.new.self c.infer.new.walk.left (rule_types g.R.Reducer.denotes c.args.r.now c.args.laying.now.walk.context)
      (bound_types g.R.Reducer.denotes c.args.r.now c.args.laying.now.walk.context) (g.R.Reducer.denotes c.args.r.now c.args.term.now) (g.R.Reducer.denotes c.infer.new.r c.in-Ok.typ) c.in-Ok.ensures.gives.0 c.in_ok-fine-in-Ok.ensures.grown,
  c.in-Ok.ensures.gives.1,
)
