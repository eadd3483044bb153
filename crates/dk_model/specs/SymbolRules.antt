-- Trusted: the rules of a symbol (docs/evaluation.md).
use Rattle.std.specs.Prelude.{ℕ, ◌++◌, Option, Some, List, [], ◌∷◌, eqb, slice_get, if◌then◌else◌}
use Rattle.dk_model.specs.PlainEntries.{PlainRule, PlainEntry, symbol_entry, rules_entry, PlainSignature}

-- those of the rules whose head is this symbol
abbrev pub rules_of_head : ℕ → List PlainRule → List PlainRule
rules_of_head symbol [] = []
rules_of_head symbol (rule ∷ rules) = if eqb rule.head symbol then rule ∷ rules_of_head symbol rules else rules_of_head symbol rules

-- the rules of a symbol that the commands declare, in file order
abbrev pub declared_rules : ℕ → PlainSignature → List PlainRule
declared_rules symbol [] = []
declared_rules symbol (symbol_entry sort typ body ∷ entries) = declared_rules symbol entries
declared_rules symbol (rules_entry rules ∷ entries) = rules_of_head symbol rules ++ declared_rules symbol entries

-- a definition is a rule of no patterns; no other entry is one
abbrev pub body_rule : ℕ → Option PlainEntry → List PlainRule
body_rule symbol (Some (symbol_entry sort typ (Some body))) = record { head = symbol; vars = 0; pats = []; notes = []; right = body } ∷ []
body_rule symbol entry = []

-- the rules of a symbol: its body, then its rules in file order
abbrev pub rules_of : PlainSignature → ℕ → List PlainRule
rules_of S symbol = body_rule symbol (slice_get S symbol) ++ declared_rules symbol S
