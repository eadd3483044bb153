use Rattle.signature_log.specs.Versions.{entries_of}
use Rattle.split_check.proofs.Layings.{product_goes}
use Rattle.split_check.proofs.laying.lay_product.Goals as goal

pub returns-in_ok-fine-in-Ok-clause-lays : goal.returns-in_ok-fine-in-Ok-clause-lays
returns-in_ok-fine-in-Ok-clause-lays g c = (
  product_goes (entries_of c.args.version.now) c.args.laying.now c.fine.new.self c.into_product.new.left c.args.code (g.R.Reducer.denotes c.args.r.now c.args.typ)
      (g.R.Reducer.denotes c.into_product.new.r c.in-Ok.product.domain, g.R.Reducer.denotes c.into_product.new.r c.in-Ok.product.codomain) c.in-Ok.ensures.gives.0 c.in_ok-fine-in-Ok.ensures.grown,
  c.in-Ok.ensures.gives.1,
  c.in-Ok.ensures.gives.2,
)
