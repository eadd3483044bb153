-- A step at its place.
use Rattle.std.proofs.Common.{◌≡◌, ◌∙◌, IfOk, Some, None, ap, subst, sym as flip}
use Rattle.std.specs.Option.{option_copied, option_map}
use Rattle.dk_model.specs.Trees.{tree}
use Rattle.dk_model.specs.Signatures.{maybe_tree}
use Rattle.signature_log.specs.Versions.{entries_of}
use Rattle.tree_steps.specs.Places.{node_at}
use Rattle.tree_steps.specs.Views.{term_of}
use Rattle.tree_steps.proofs.Stepping.{beta_nowhere, beta_taken, rule_nowhere, rule_taken}
use Rattle.tree_steps.proofs.steps.Steps.+steps.Goals as goal

pub step_taken-returns-in_ok-node-in-Some-clause-taken : goal.step_taken-returns-in_ok-node-in-Some-clause-taken
step_taken-returns-in_ok-node-in-Some-clause-taken t c =
    let there : node_at c.in-Beta.place (tree c.args.counted.term) ≡ Some (tree c.in-Some.node.now) = flip c.node_at.ensures ∙ ap (λ o. option_map tree (option_copied o)) c.in-Some.is in
    subst (λ o. IfOk c.placed.result (λ u. option_map term_of u ≡ o))
    (flip (beta_taken (entries_of c.args.self.version.now) c.args.step.now c.in-Beta.place (tree c.args.counted.term) (tree c.in-Some.node.now) (maybe_tree c.in_ok-node-in-Some.node) c.in-Beta.is there (flip c.in_ok-node-in-Some.ensures)))
    c.placed.ensures.placed

pub step_taken-returns-in-None-clause-taken : goal.step_taken-returns-in-None-clause-taken
step_taken-returns-in-None-clause-taken t c =
    let there : node_at c.in-Beta.place (tree c.args.counted.term) ≡ None = flip c.node_at.ensures ∙ ap (λ o. option_map tree (option_copied o)) c.in-None.is in
    flip (beta_nowhere (entries_of c.args.self.version.now) c.args.step.now c.in-Beta.place (tree c.args.counted.term) c.in-Beta.is there)

pub step_taken-returns-in_ok-node-in-Some-node_at-clause-taken : goal.step_taken-returns-in_ok-node-in-Some-node_at-clause-taken
step_taken-returns-in_ok-node-in-Some-node_at-clause-taken t c =
    let there : node_at c.in-Rule.place (tree c.args.counted.term) ≡ Some (tree c.in-Some-node_at.node.now) = flip c.node_at-in-Rule.ensures ∙ ap (λ o. option_map tree (option_copied o)) c.in-Some-node_at.is in
    subst (λ o. IfOk c.placed-in-Some-node_at.result (λ u. option_map term_of u ≡ o))
    (flip (rule_taken (entries_of c.args.self.version.now) c.args.step.now c.in-Rule.place (tree c.args.counted.term) c.in-Rule.number c.in-Rule.joins (tree c.in-Some-node_at.node.now) (maybe_tree c.in_ok-node-in-Some-node_at.node) c.in-Rule.is there (flip (rw c.as_slice.ensures at c.in_ok-node-in-Some-node_at.ensures))))
    c.placed-in-Some-node_at.ensures.placed

pub step_taken-returns-in-None-node_at-clause-taken : goal.step_taken-returns-in-None-node_at-clause-taken
step_taken-returns-in-None-node_at-clause-taken t c =
    let there : node_at c.in-Rule.place (tree c.args.counted.term) ≡ None = flip c.node_at-in-Rule.ensures ∙ ap (λ o. option_map tree (option_copied o)) c.in-None-node_at.is in
    flip (rule_nowhere (entries_of c.args.self.version.now) c.args.step.now c.in-Rule.place (tree c.args.counted.term) c.in-Rule.number c.in-Rule.joins c.in-Rule.is there)
