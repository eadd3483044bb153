-- Steps at places.
use Rattle.std.proofs.Common.{◌≡◌, ◌∙◌, ℕ, ap, List, Option, Some, None}
use Rattle.dk_model.specs.PlainTerms.{Tree}
use Rattle.dk_model.specs.PlainEntries.{PlainSignature}
use Rattle.checked_steps.specs.Items.{ItemStep}
use Rattle.checked_steps.specs.Matching.{within, at_place}
use Rattle.checked_steps.specs.Taken.{and_then, contracted, fired, step_taken, all_joined}
use Rattle.certificate_items.specs.declared.item.Step.{Step}
use Rattle.certificate_items.specs.declared.item.Step.TheVariants.{Beta, Rule}
use Rattle.certificate_items.specs.declared.item.Join.{Join}
use Rattle.certificate_items.specs.Views.{plain_step, plain_joins}
use Rattle.certificate_items.proofs.Rows.{rule_is}
use Rattle.tree_steps.specs.Places.{node_at, with_node}
use Rattle.tree_steps.proofs.Placing.{at_place_is}

module _ (F : Tree → Option Tree) (place : ℕ) (t : Tree) where
  there : (o : Option Tree) → node_at place t ≡ o → at_place F place t ≡ within (λ u. with_node place t u) (and_then o F)
  there o e = at_place_is F place t ∙ ap (λ x. within (λ u. with_node place t u) (and_then x F)) e

module _ (S : PlainSignature) (x : Step) (place : ℕ) (t : Tree) where
  pub beta_nowhere : x ≡ Beta place → node_at place t ≡ None → step_taken S (plain_step x) t ≡ None
  beta_nowhere is e = ap (λ (y : Step). step_taken S (plain_step y) t) is ∙ there contracted place t None e

  pub beta_taken : (u : Tree) (o : Option Tree) → x ≡ Beta place → node_at place t ≡ Some u → contracted u ≡ o → step_taken S (plain_step x) t ≡ within (with_node place t) o
  beta_taken u o is e h = ap (λ (y : Step). step_taken S (plain_step y) t) is ∙ there contracted place t (Some u) e ∙ ap (within (with_node place t)) h

  module _ (number : ℕ) (js : List Join) where
    abbrev fires : Tree → Option Tree
    fires = fired S number (all_joined S (plain_joins js))

    at_rule : x ≡ Rule place number js → step_taken S (plain_step x) t ≡ at_place fires place t
    at_rule is = ap (λ (y : Step). step_taken S (plain_step y) t) is ∙ ap (λ (y : ItemStep). step_taken S y t) (rule_is place number js)

    pub rule_nowhere : x ≡ Rule place number js → node_at place t ≡ None → step_taken S (plain_step x) t ≡ None
    rule_nowhere is e = at_rule is ∙ there fires place t None e

    pub rule_taken : (u : Tree) (o : Option Tree) → x ≡ Rule place number js → node_at place t ≡ Some u → fired S number (all_joined S (plain_joins js)) u ≡ o
        → step_taken S (plain_step x) t ≡ within (with_node place t) o
    rule_taken u o is e h = at_rule is ∙ there fires place t (Some u) e ∙ ap (within (with_node place t)) h
