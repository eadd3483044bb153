-- For callers: what some laws ask of a signature that needn't be well formed: rules number their variables, and
-- nothing has annotations.
use Rattle.std.specs.Prelude.{ℕ, ◌<◌, Option, Some, None, List, [], ◌∷◌}
use Rattle.dk_model.specs.Trees.{Tree}
use Rattle.dk_model.specs.Erasure.{IsPlain}
use Rattle.dk_model.specs.Signatures.{Pattern, Patterns, no_patterns, more_patterns, rule_variable_pattern, wildcard_pattern, guard_pattern, symbol_pattern, variable_pattern, abstraction_pattern, PlainRule, PlainEntry, symbol_entry, rules_entry, PlainSignature}

abbrev mutual
  -- the rule variables of a pattern, outside its guards, are numbered below `vars`
  pub IsNumberedPattern : ℕ → Pattern → Type 0
  IsNumberedPattern vars (rule_variable_pattern k xs) = k < vars
  IsNumberedPattern vars wildcard_pattern = Unit {0}
  IsNumberedPattern vars (guard_pattern t) = Unit {0}
  IsNumberedPattern vars (symbol_pattern k ps) = AreNumberedPatterns vars ps
  IsNumberedPattern vars (variable_pattern k ps) = AreNumberedPatterns vars ps
  IsNumberedPattern vars (abstraction_pattern p) = IsNumberedPattern vars p

  pub AreNumberedPatterns : ℕ → Patterns → Type 0
  AreNumberedPatterns vars no_patterns = Unit {0}
  AreNumberedPatterns vars (more_patterns p ps) = IsNumberedPattern vars p × AreNumberedPatterns vars ps

abbrev pub AreNumbered : ℕ → List Pattern → Type 0
AreNumbered vars [] = Unit {0}
AreNumbered vars (p ∷ ps) = IsNumberedPattern vars p × AreNumbered vars ps

abbrev pub AreNumberedRules : List PlainRule → Type 0
AreNumberedRules [] = Unit {0}
AreNumberedRules (r ∷ rs) = AreNumbered r.vars r.pats × AreNumberedRules rs

abbrev pub IsNumberedEntry : PlainEntry → Type 0
IsNumberedEntry (symbol_entry s t b) = Unit {0}
IsNumberedEntry (rules_entry rs) = AreNumberedRules rs

-- each rule numbers the rule variables of its patterns below the count that it gives
abbrev pub IsNumbered : PlainSignature → Type 0
IsNumbered [] = Unit {0}
IsNumbered (symbol_entry s t b ∷ es) = IsNumbered es
IsNumbered (rules_entry rs ∷ es) = AreNumberedRules rs × IsNumbered es

abbrev pub IsPlainOption : Option Tree → Type 0
IsPlainOption None = Unit {0}
IsPlainOption (Some t) = IsPlain t

abbrev pub ArePlainRules : List PlainRule → Type 0
ArePlainRules [] = Unit {0}
ArePlainRules (r ∷ rs) = IsPlain r.right × ArePlainRules rs

abbrev pub IsPlainEntry : PlainEntry → Type 0
IsPlainEntry (symbol_entry s t b) = IsPlain t × IsPlainOption b
IsPlainEntry (rules_entry rs) = ArePlainRules rs

-- types, bodies and right sides have no annotations
abbrev pub HasNoAnnotations : PlainSignature → Type 0
HasNoAnnotations [] = Unit {0}
HasNoAnnotations (e ∷ es) = IsPlainEntry e × HasNoAnnotations es
