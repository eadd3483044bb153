use Rattle.std.proofs.Common.{◌≡◌, ◌<◌, ◌+◌, ◌*◌, vec_len, map}
use Rattle.dk_model.specs.Typing.{inferred}
use Rattle.signature_log.specs.Versions.{entries_of}
use Rattle.signature_log.specs.Reducers.{built, AreOwned}
use Rattle.infer_check.specs.Contexts.{rule_types, bound_types}
use Rattle.infer_check.specs.Applied.{put_together, OwnsApplied}
use Rattle.infer_check.specs.Spine.{along, size, total_size}
use Rattle.infer_check.specs.Walks.{Continues}
use Rattle.infer_check.proofs.+typing.Given as goal

abbrev pub decreases-checking::check_annotated : goal.decreases-checking::check_annotated
decreases-checking::check_annotated g l = 8 * (size (g.R.Reducer.denotes l.r.now l.abstraction.annotation) + size (g.R.Reducer.denotes l.r.now l.abstraction.body)) + 5

abbrev pub decreases-checking::check_bare : goal.decreases-checking::check_bare
decreases-checking::check_bare g l = 8 * size (g.R.Reducer.denotes l.r.now l.body) + 5

abbrev pub decreases-checking::check_taken : goal.decreases-checking::check_taken
decreases-checking::check_taken g l = 8 * size (g.R.Reducer.denotes l.r.now l.term) + 4

abbrev pub decreases-inference::apply : goal.decreases-inference::apply
decreases-inference::apply g l = 8 * size (g.R.Reducer.denotes l.r.now l.argument) + 5

abbrev pub decreases-inference::infer_abstraction : goal.decreases-inference::infer_abstraction
decreases-inference::infer_abstraction g l = 8 * (size (g.R.Reducer.denotes l.r.now l.domain) + size (g.R.Reducer.denotes l.r.now l.body)) + 5

abbrev pub decreases-inference::infer_domain : goal.decreases-inference::infer_domain
decreases-inference::infer_domain g l = 8 * size (g.R.Reducer.denotes l.r.now l.domain) + 4

abbrev pub decreases-inference::infer_head : goal.decreases-inference::infer_head
decreases-inference::infer_head g l = 8 * size (built g.R.Reducer.denotes l.r.now l.head) + 1

abbrev pub decreases-inference::infer_node : goal.decreases-inference::infer_node
decreases-inference::infer_node g l = 8 * size (built g.R.Reducer.denotes l.r.now l.node) + 2

abbrev pub decreases-inference::infer_product : goal.decreases-inference::infer_product
decreases-inference::infer_product g l = 8 * (size (g.R.Reducer.denotes l.r.now l.domain) + size (g.R.Reducer.denotes l.r.now l.codomain)) + 5

abbrev pub decreases-inference::infer_taken : goal.decreases-inference::infer_taken
decreases-inference::infer_taken g l = 8 * size (g.R.Reducer.denotes l.r.now l.term) + 3

abbrev pub invariant-inference::infer_node-loop-argument : goal.invariant-inference::infer_node-loop-argument
invariant-inference::infer_node-loop-argument g l = record {
  same : along (entries_of l.fn.version) (rule_types g.R.Reducer.denotes l.fn.r l.fn.walk.context) (bound_types g.R.Reducer.denotes l.fn.r l.fn.walk.context)
      (map (g.R.Reducer.denotes l.r) l.arguments.items) (put_together g.R.Reducer.owns g.R.Reducer.denotes l.r 0 l.typ) l.walk.left
      ≡ inferred (entries_of l.fn.version) (rule_types g.R.Reducer.denotes l.fn.r l.fn.walk.context) (bound_types g.R.Reducer.denotes l.fn.r l.fn.walk.context)
      (built g.R.Reducer.denotes l.fn.r l.fn.node) l.fn.walk.left;
  typ : OwnsApplied g.R.Reducer.owns g.R.Reducer.denotes l.r l.typ;
  arguments : AreOwned g.R.Reducer.owns l.r l.arguments.items;
  continues : Continues g.R.Reducer.owns g.R.Reducer.denotes g.R.Reducer.serves (entries_of l.fn.version) l.fn.r l.fn.walk l.r l.walk;
  smaller : total_size (map (g.R.Reducer.denotes l.r) l.arguments.items) < size (built g.R.Reducer.denotes l.fn.r l.fn.node);
}

abbrev pub decreases-inference::infer_node-loop-argument : goal.decreases-inference::infer_node-loop-argument
decreases-inference::infer_node-loop-argument g l = vec_len l.arguments
