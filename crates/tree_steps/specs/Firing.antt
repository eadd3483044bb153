-- For proofs: the rule of a step with the parts of the arguments, before its conditions are joined.
use Rattle.std.specs.Prelude.{ℕ, Option, Some, None, List, slice_get}
use Rattle.dk_model.specs.PlainTerms.{Tree}
use Rattle.dk_model.specs.PlainEntries.{PlainRule, PlainSignature}
use Rattle.dk_model.specs.Spines.{arguments, head_symbol}
use Rattle.dk_model.specs.SymbolRules.{rules_of}
use Rattle.dk_model.specs.RuleTypingOver.{patterns_of}
use Rattle.typing_model.specs.Steps.{Part}
use Rattle.checked_steps.specs.Matching.{all_matched}
use Rattle.checked_steps.specs.Taken.{and_then}

abbrev pub with_rule : PlainRule → Option (List Part) → Option (PlainRule × List Part)
with_rule r None = None
with_rule r (Some ps) = Some (r, ps)

-- the rule of this number of the symbol at the head, and the parts where its patterns match all arguments
abbrev pub firing_of : PlainSignature → ℕ → Tree → Option (PlainRule × List Part)
firing_of S number t = and_then (head_symbol t) (λ k. and_then (slice_get (rules_of S k) number) (λ r. with_rule r (all_matched 0 (patterns_of r.pats) (arguments t))))
