-- For proofs: a rule's step, and where it leads.
use Rattle.std.specs.Prelude.{ℕ, ◌+◌, ◌≡◌, Some, true, List, map, take, drop, length, slice_get}
use Rattle.dk_model.specs.PlainTerms.{Tree}
use Rattle.dk_model.specs.Trees.{tree}
use Rattle.dk_model.specs.PlainEntries.{PlainRule, PlainSignature}
use Rattle.dk_model.specs.Spines.{arguments, applied, head_symbol}
use Rattle.dk_model.specs.SymbolRules.{rules_of}
use Rattle.typing_model.specs.Steps.{Part, AreInstances, capture, instantiated}
use Rattle.checked_steps.specs.Matching.{to_join}
use Rattle.checked_steps.specs.Items.{rule_step, no_steps, more_steps}
use Rattle.checked_steps.specs.Taken.{all_joined}
use Rattle.certificate_items.specs.Views.{plain_joins, plain_steps}
use Rattle.told_steps.specs.Parts.{LeadsTo}
use Rattle.told_steps.specs.Ends.{AreEnds}
use Rattle.told_steps.specs.Folding.{form_of, columns_at}
use Rattle.told_steps.specs.declared.told.Told.{Told}
use Rattle.told_steps.specs.declared.end.End.{End}
use Rattle.told_steps.specs.declared.firing.TakenRule.{TakenRule}

-- the rule at the root, and its right side
pub record IsRuleStep (taken : TakenRule) (told : Told) : Type 0 where
  pub steps : plain_steps told.steps ≡ more_steps (rule_step 0 taken.number (plain_joins taken.joins)) no_steps
  pub form : tree told.form ≡ tree taken.right

-- where the ends of as many arguments as the rule has patterns are instances of these, and so many arguments stand behind them
pub record FiresOn (S : PlainSignature) (t : Tree) (behind : ℕ) (taken : TakenRule) (ends : List End) : Type 0 where
  pub head : ℕ
  pub rule : PlainRule
  pub parts : List Part
  pub symbol : head_symbol t ≡ Some head
  pub numbered : slice_get (rules_of S head) taken.number ≡ Some rule
  pub count : length (arguments t) ≡ length rule.pats + behind
  pub leads : AreEnds S (columns_at 0 (take (length rule.pats) (arguments t))) ends
  pub instances : AreInstances 0 rule.pats (map form_of ends) parts
  pub joined : all_joined S (plain_joins taken.joins) (to_join parts) ≡ true
  pub right : tree taken.right ≡ instantiated (capture parts) 0 rule.right

abbrev pub FiresBehind : Tree → ℕ → TakenRule → List End → Told → Type 0
FiresBehind t behind taken ends told = (S : PlainSignature) (on : FiresOn S t behind taken ends)
    → LeadsTo S t told × (tree told.form ≡ applied (tree taken.right) (drop (length on.rule.pats) (arguments t)))
