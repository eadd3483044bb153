use Rattle.std.proofs.Common.{◌≡◌, length}
use Rattle.dk_model.specs.RuleTyping.{later_type}
use Rattle.signature_log.specs.Versions.{entries_of}
use Rattle.infer_check.specs.Contexts.{bound_types}
use Rattle.infer_check.specs.Walks.{Continues}
use Rattle.rule_check.specs.Founds.{terms_of, OwnsBindings, IsRebound}
use Rattle.rule_check.proofs.occurrence.later_type.Given as goal

abbrev pub invariant-loop-first : goal.invariant-loop-first
invariant-loop-first g l = record {
  same : later_type (entries_of l.fn.version) (bound_types g.R.Reducer.denotes l.fn.r l.fn.side.walk.context) l.rest (g.R.Reducer.denotes l.r l.typ) (terms_of g.R.Reducer.denotes l.r l.side.found.bindings) l.side.walk.left
      ≡ later_type (entries_of l.fn.version) (bound_types g.R.Reducer.denotes l.fn.r l.fn.side.walk.context) l.fn.arguments (g.R.Reducer.denotes l.fn.r l.fn.typ) (terms_of g.R.Reducer.denotes l.fn.r l.fn.side.found.bindings) l.fn.side.walk.left;
  typ : g.R.Reducer.owns l.r l.typ;
  bindings : OwnsBindings g.R.Reducer.owns g.R.Reducer.denotes l.r l.side.found.bindings;
  rebound : IsRebound l.fn.side.found l.side.found;
  continues : Continues g.R.Reducer.owns g.R.Reducer.denotes g.R.Reducer.serves (entries_of l.fn.version) l.fn.r l.fn.side.walk l.r l.side.walk;
}

abbrev pub decreases-loop-first : goal.decreases-loop-first
decreases-loop-first g l = length l.rest
