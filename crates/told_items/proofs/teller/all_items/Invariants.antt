use Rattle.std.proofs.Common.{◌≡◌, ◌++◌, length}
use Rattle.certificate_items.specs.Views.{plain_items}
use Rattle.told_items.specs.Logs.{items_of}
use Rattle.told_items.proofs.teller.all_items.Given as goal

abbrev pub invariant-loop-answered : goal.invariant-loop-answered
invariant-loop-answered l = plain_items l.all.items ++ items_of l.told ≡ items_of l.fn.told

abbrev pub decreases-loop-answered : goal.decreases-loop-answered
decreases-loop-answered l = length l.told
