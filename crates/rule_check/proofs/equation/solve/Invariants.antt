use Rattle.std.proofs.Common.{◌≡◌, ◌≤◌}
use Rattle.dk_model.specs.Solving.{each_solved, solved}
use Rattle.signature_log.specs.Versions.{entries_of}
use Rattle.infer_check.specs.Walks.{Follows}
use Rattle.rule_check.specs.Founds.{terms_of, OwnsBindings}
use Rattle.rule_check.specs.Equations.{pending, OwnsEquations}
use Rattle.rule_check.proofs.equation.solve.Given as goal

abbrev pub invariant-loop-equation : goal.invariant-loop-equation
invariant-loop-equation g l = record {
  same : each_solved (solved (entries_of l.fn.version)) (pending g.R.Reducer.denotes l.r l.pending.items) (terms_of g.R.Reducer.denotes l.r l.bindings) l.left
      ≡ solved (entries_of l.fn.version) (terms_of g.R.Reducer.denotes l.fn.r l.fn.bindings) (g.R.Reducer.denotes l.fn.r l.fn.equation.one) (g.R.Reducer.denotes l.fn.r l.fn.equation.other) l.fn.left;
  pending : OwnsEquations g.R.Reducer.owns l.r l.pending.items;
  bindings : OwnsBindings g.R.Reducer.owns g.R.Reducer.denotes l.r l.bindings;
  follows : Follows g.R.Reducer.owns g.R.Reducer.denotes g.R.Reducer.serves (entries_of l.fn.version) l.fn.r l.r;
  spent : l.left ≤ l.fn.left;
}

abbrev pub decreases-loop-equation : goal.decreases-loop-equation
decreases-loop-equation g l = l.left
