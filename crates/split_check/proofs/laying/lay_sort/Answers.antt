use Rattle.signature_log.specs.Versions.{entries_of}
use Rattle.infer_check.specs.Contexts.{rule_types, bound_types}
use Rattle.split_check.proofs.Layings.{sort_goes}
use Rattle.split_check.proofs.laying.lay_sort.Goals as goal

pub returns-in_ok-fine-in-Ok-clause-lays : goal.returns-in_ok-fine-in-Ok-clause-lays
returns-in_ok-fine-in-Ok-clause-lays g c = (
  g.R.Reducer.denotes c.sort_of.new.r c.in-Ok._sort,
  sort_goes (entries_of c.args.version.now) c.args.laying.now c.fine.new.self c.sort_of.new.walk.left
      (rule_types g.R.Reducer.denotes c.args.r.now c.args.laying.now.walk.context) (bound_types g.R.Reducer.denotes c.args.r.now c.args.laying.now.walk.context) (g.R.Reducer.denotes c.args.r.now c.args.typ.now) (g.R.Reducer.denotes c.sort_of.new.r c.in-Ok._sort)
      c.in-Ok.ensures.gives.0 c.in_ok-fine-in-Ok.ensures.grown,
)
