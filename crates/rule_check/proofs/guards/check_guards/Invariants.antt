use Rattle.std.proofs.Common.{◌≡◌, ◌≤◌, length}
use Rattle.signature_log.specs.Versions.{entries_of}
use Rattle.infer_check.specs.Walks.{Follows}
use Rattle.rule_check.specs.Founds.{OwnsGuards}
use Rattle.rule_check.specs.Clauses.{guards_due}
use Rattle.rule_check.proofs.Guarding.{rest_due}
use Rattle.rule_check.proofs.guards.check_guards.Given as goal

abbrev pub invariant-loop-guard : goal.invariant-loop-guard
invariant-loop-guard g l = record {
  same : rest_due g.R.Reducer.denotes (entries_of l.fn.version) l.fn.r l.fn.types l.fn.found.bindings l.rest l.left ≡ guards_due g.R.Reducer.denotes (entries_of l.fn.version) l.fn.r l.fn.types l.fn.found l.fn.left;
  rest : OwnsGuards g.R.Reducer.owns l.fn.r l.rest;
  types : l.types ≡ l.fn.types;
  follows : Follows g.R.Reducer.owns g.R.Reducer.denotes g.R.Reducer.serves (entries_of l.fn.version) l.fn.r l.r;
  spent : l.left ≤ l.fn.left;
}

abbrev pub decreases-loop-guard : goal.decreases-loop-guard
decreases-loop-guard g l = length l.rest
