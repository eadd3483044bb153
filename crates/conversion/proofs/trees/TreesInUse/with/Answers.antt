use Rattle.std.proofs.Common.{subst, sym as flip}
use Rattle.conversion.specs.Trees.{AreNew}
use Rattle.conversion.proofs.Treeing.{new_pushed}
use Rattle.conversion.proofs.trees.TreesInUse.with.Goals as goal

pub returns-clause-trees : goal.returns-clause-trees
returns-clause-trees c = λ S h k. (
  h.0,
  subst (AreNew S) (flip c.in_ok-push.ensures.items) (new_pushed S c.args.self.new.items (record { symbol = c.args.symbol; tree = c.args.tree }) h.1 k),
)
