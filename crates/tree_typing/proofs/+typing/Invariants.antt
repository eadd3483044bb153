use Rattle.std.proofs.Common.{◌≡◌, ◌≤◌, ◌+◌, ◌*◌, vec_len}
use Rattle.dk_model.specs.Trees.{tree, apply}
use Rattle.dk_model.specs.Winding.{behind_references, size, total_size}
use Rattle.dk_model.specs.TypingOver.{inferred}
use Rattle.tree_typing.specs.Clauses.{entries, rule_types}
use Rattle.tree_typing.specs.Contexts.{bound_types}
use Rattle.tree_typing.specs.Steps.{along}
use Rattle.tree_typing.proofs.+typing.Given as goal

abbrev pub decreases-inference::infer : goal.decreases-inference::infer
decreases-inference::infer g l = 8 * size (tree l.term.now)

abbrev pub decreases-inference::infer_application : goal.decreases-inference::infer_application
decreases-inference::infer_application g l = 8 * (size (tree l.f.now) + size (tree l.a.now)) + 3

abbrev pub decreases-inference::infer_abstraction : goal.decreases-inference::infer_abstraction
decreases-inference::infer_abstraction g l = 8 * (size (tree l.domain.now) + size (tree l.body.now)) + 2

abbrev pub decreases-inference::application_type : goal.decreases-inference::application_type
decreases-inference::application_type g l = 8 * size (tree l.argument.now) + 2

abbrev pub decreases-inference::body_type : goal.decreases-inference::body_type
decreases-inference::body_type g l = 8 * size (tree l.body.now) + 1

abbrev pub decreases-inference::infer_domain : goal.decreases-inference::infer_domain
decreases-inference::infer_domain g l = 8 * size (tree l.domain.now) + 1

abbrev pub decreases-inference::sort_of : goal.decreases-inference::sort_of
decreases-inference::sort_of g l = 8 * size (tree l.term.now) + 1

abbrev pub decreases-checking::check : goal.decreases-checking::check
decreases-checking::check g l = 8 * size (tree l.term.now) + 1

abbrev pub decreases-checking::check_annotation : goal.decreases-checking::check_annotation
decreases-checking::check_annotation g l = 8 * size (tree l.annotation.now) + 2

abbrev pub invariant-inference::infer_application-loop-argument : goal.invariant-inference::infer_application-loop-argument
invariant-inference::infer_application-loop-argument g l = record {
  same : along (g.E.Evaluates.evaluator (entries l.fn.setting)) (entries l.fn.setting) (rule_types l.fn.setting) (bound_types l.fn.context)
      (behind_references l.arguments.items) (tree l.typ) (g.E.Evaluates.left l.evaluation)
      ≡ inferred (g.E.Evaluates.evaluator (entries l.fn.setting)) (entries l.fn.setting) (rule_types l.fn.setting) (bound_types l.fn.context)
      (apply (tree l.fn.f) (tree l.fn.a)) (g.E.Evaluates.left l.fn.evaluation);
  smaller : total_size (behind_references l.arguments.items) ≤ size (tree l.fn.f) + size (tree l.fn.a);
}

abbrev pub decreases-inference::infer_application-loop-argument : goal.decreases-inference::infer_application-loop-argument
decreases-inference::infer_application-loop-argument g l = vec_len l.arguments
