use Rattle.std.proofs.Common.{rules, ◌≤◌, ◌<◌, ◌∙◌, ap, length, map}
use Rattle.dk_model.specs.Trees.{tree}
use Rattle.dk_model.specs.Signatures.{maybe_tree}
use Rattle.dk_model.specs.Bindings.{with_binding}
use Rattle.tree_terms.proofs.Binding.{with_padded, with_set}
use Rattle.tree_terms.proofs.bindings.with_binding.Goals as goal

pub loop-bindings-preserved : goal.loop-bindings-preserved
loop-bindings-preserved c =
    let le : length c.loop-bindings.bindings.items ≤ c.args.number = search rules in
    record {
      term = c.loop-bindings.invariant.term;
      same = ap (λ os. with_binding (map maybe_tree os) c.args.number (tree c.args.term)) c.in_ok-push.ensures.items ∙ with_padded c.loop-bindings.bindings.items c.args.number (tree c.args.term) le
          ∙ c.loop-bindings.invariant.same;
    }

pub returns : goal.returns
returns c =
    let lt : c.args.number < length c.loop-bindings.bindings.items = search rules in
    with_set c.loop-bindings.bindings.items c.args.number _ lt
    ∙ ap (λ t. with_binding (map maybe_tree c.loop-bindings.bindings.items) c.args.number (tree t)) c.loop-bindings.invariant.term ∙ c.loop-bindings.invariant.same
