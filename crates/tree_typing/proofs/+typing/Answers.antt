-- An application, argument by argument.
use Rattle.std.proofs.Common.{rules, ◌+◌, arith}
use Rattle.dk_model.specs.Trees.{tree, apply}
use Rattle.dk_model.specs.Winding.{behind_references, size}
use Rattle.tree_typing.specs.Contexts.{bound_types}
use Rattle.tree_typing.specs.Clauses.{entries, rule_types}
use Rattle.tree_typing.proofs.Spines.{argument_fails, argument_given, head_fails, head_given, last_smaller, others_smaller}
use Rattle.tree_typing.proofs.+typing.Goals as goal

pub inference::infer_application-returns-in_err-head_type : goal.inference::infer_application-returns-in_err-head_type
inference::infer_application-returns-in_err-head_type g t c =
    let S = entries c.args.setting.now in
    let left = g.E.Evaluates.left in
    let p = head_fails (g.E.Evaluates.evaluator S) S (rule_types c.args.setting.now) (bound_types c.args.context.now) c.in_err-head_type.field-0.0 (left c.infer.new.evaluation)
    (tree c.in_ok-head.head.now) (apply (tree c.args.f.now) (tree c.args.a.now)) (behind_references c.in_ok-head.arguments.items) (left c.args.evaluation.now)
    c.in_ok-head.ensures.whole c.in_err-head_type.ensures.gives in
    search rules

pub inference::infer_application-loop-argument-init : goal.inference::infer_application-loop-argument-init
inference::infer_application-loop-argument-init g t c =
    let S = entries c.args.setting.now in
    let left = g.E.Evaluates.left in
    let h = c.in_ok-head.ensures.smaller in
    record {
      same = head_given (g.E.Evaluates.evaluator S) S (rule_types c.args.setting.now) (bound_types c.args.context.now) (tree c.in_ok-head.head.now)
          (apply (tree c.args.f.now) (tree c.args.a.now)) (tree c.in_ok-head_type.head_type) (behind_references c.in_ok-head.arguments.items) (left c.args.evaluation.now)
          (left c.infer.new.evaluation) c.in_ok-head.ensures.whole c.in_ok-head_type.ensures.gives;
      smaller = omega (arith, h);
    }

pub inference::infer_application-returns-in_err-typ : goal.inference::infer_application-returns-in_err-typ
inference::infer_application-returns-in_err-typ g t c =
    let S = entries c.args.setting.now in
    let left = g.E.Evaluates.left in
    let p = argument_fails (g.E.Evaluates.evaluator S) S (rule_types c.args.setting.now) (bound_types c.args.context.now) c.in_err-typ.field-0.0 (left c.application_type.new.evaluation)
    c.loop-argument.arguments.items c.pop.new.self.items c.in-Some.argument (tree c.loop-argument.typ) (apply (tree c.args.f.now) (tree c.args.a.now)) (left c.loop-argument.evaluation)
    (left c.args.evaluation.now) c.in-Some.ensures.items c.loop-argument.invariant.same c.in_err-typ.ensures.gives in
    search rules

pub inference::infer_application-application_type-requires : goal.inference::infer_application-application_type-requires
inference::infer_application-application_type-requires g t c κs within =
    let l = c.loop-argument.invariant in
    let n = size (tree c.args.f.now) + size (tree c.args.a.now) in
    let s = last_smaller c.loop-argument.arguments.items c.pop.new.self.items c.in-Some.argument n c.in-Some.ensures.items l.smaller in
    search rules

pub inference::infer_application-loop-argument-preserved : goal.inference::infer_application-loop-argument-preserved
inference::infer_application-loop-argument-preserved g t c =
    let S = entries c.args.setting.now in
    let left = g.E.Evaluates.left in
    let l = c.loop-argument.invariant in
    let n = size (tree c.args.f.now) + size (tree c.args.a.now) in
    let e = c.in-Some.ensures.items in
    record {
      same = argument_given (g.E.Evaluates.evaluator S) S (rule_types c.args.setting.now) (bound_types c.args.context.now) c.loop-argument.arguments.items c.pop.new.self.items c.in-Some.argument
          (tree c.loop-argument.typ) (tree c.in_ok-typ.typ) (apply (tree c.args.f.now) (tree c.args.a.now)) (left c.loop-argument.evaluation) (left c.application_type.new.evaluation)
          (left c.args.evaluation.now) e l.same c.in_ok-typ.ensures.gives;
      smaller = others_smaller c.loop-argument.arguments.items c.pop.new.self.items c.in-Some.argument n e l.smaller;
    }
