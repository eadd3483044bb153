use Rattle.std.proofs.Common.{◌≡◌, Some, drop, map}
use Rattle.dk_model.specs.Trees.{tree}
use Rattle.dk_model.specs.RuleTypingOver.{patterns_of}
use Rattle.checked_steps.specs.Matching.{both_parts, all_matched}
use Rattle.tree_terms.specs.Rules.{stored_pattern}
use Rattle.tree_steps.specs.Views.{part}
use Rattle.tree_steps.proofs.matching.+matching.Given as goal

abbrev pub invariant-all_matched-loop-pattern : goal.invariant-all_matched-loop-pattern
invariant-all_matched-loop-pattern l =
    both_parts (Some (map part l.parts.items)) (all_matched l.depth (patterns_of (map stored_pattern (drop l.pattern-index l.patterns))) (map tree l.rest))
    ≡ all_matched l.depth (patterns_of (map stored_pattern l.patterns)) (map tree l.terms)
