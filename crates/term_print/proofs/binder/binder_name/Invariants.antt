use Rattle.std.proofs.Common.{◌-◌, ◌+◌, length}
use Rattle.term_print.specs.Named.{longest}
use Rattle.term_print.proofs.Naming.{Leads}
use Rattle.term_print.proofs.binder.binder_name.Given as goal

abbrev pub invariant-quotes : goal.invariant-quotes
invariant-quotes l = Leads l.used l.depth l.name.items

abbrev pub decreases-quotes : goal.decreases-quotes
decreases-quotes l = (longest l.used + 1) - length l.name.items
