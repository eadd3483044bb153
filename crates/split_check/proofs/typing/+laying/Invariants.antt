use Rattle.std.proofs.Common.{◌<◌, ◌+◌, ◌*◌, vec_len, map}
use Rattle.dk_model.specs.Typing.{inferred}
use Rattle.signature_log.specs.Versions.{entries_of}
use Rattle.signature_log.specs.Reducers.{built, AreOwned}
use Rattle.infer_check.specs.Contexts.{rule_types, bound_types}
use Rattle.infer_check.specs.Spine.{along, size, total_size}
use Rattle.infer_check.specs.Walks.{Follows}
use Rattle.split_check.specs.Laying.{GoesOn, Stays}
use Rattle.split_check.proofs.typing.+laying.Given as goal

abbrev pub decreases-lay_argument : goal.decreases-lay_argument
decreases-lay_argument g l = 4 * size (g.R.Reducer.denotes l.r.now l.argument.term) + 4

abbrev pub decreases-lay_body : goal.decreases-lay_body
decreases-lay_body g l = 4 * size (g.R.Reducer.denotes l.r.now l.body.term) + 4

abbrev pub decreases-lay_check : goal.decreases-lay_check
decreases-lay_check g l = 4 * size (g.R.Reducer.denotes l.r.now l.sized.term) + 3

abbrev pub decreases-lay_infer : goal.decreases-lay_infer
decreases-lay_infer g l = 4 * size (built g.R.Reducer.denotes l.r.now l.node) + 2

abbrev pub invariant-lay_infer-loop-argument : goal.invariant-lay_infer-loop-argument
invariant-lay_infer-loop-argument g l = record {
  goes : GoesOn (entries_of l.fn.version) (inferred (entries_of l.fn.version) (rule_types g.R.Reducer.denotes l.fn.r l.fn.laying.walk.context) (bound_types g.R.Reducer.denotes l.fn.r l.fn.laying.walk.context)
      (built g.R.Reducer.denotes l.fn.r l.fn.node))
      (along (entries_of l.fn.version) (rule_types g.R.Reducer.denotes l.fn.r l.fn.laying.walk.context) (bound_types g.R.Reducer.denotes l.fn.r l.fn.laying.walk.context)
      (map (g.R.Reducer.denotes l.r) l.arguments.items) (g.R.Reducer.denotes l.r l.typ)) l.fn.laying l.laying;
  typ : g.R.Reducer.owns l.r l.typ;
  arguments : AreOwned g.R.Reducer.owns l.r l.arguments.items;
  follows : Follows g.R.Reducer.owns g.R.Reducer.denotes g.R.Reducer.serves (entries_of l.fn.version) l.fn.r l.r;
  stays : Stays l.fn.laying l.laying;
  smaller : total_size (map (g.R.Reducer.denotes l.r) l.arguments.items) < size (built g.R.Reducer.denotes l.fn.r l.fn.node);
}

abbrev pub decreases-lay_infer-loop-argument : goal.decreases-lay_infer-loop-argument
decreases-lay_infer-loop-argument g l = vec_len l.arguments
