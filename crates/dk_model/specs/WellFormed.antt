-- For callers: well-formed signatures: each entry is one that a command can add to those before it (Saillard 2015,
-- global contexts).
use Rattle.std.specs.Prelude.{ℕ, ◌≡◌, Option, Some, None, Ok, List, map, take, slice_get}
use Rattle.dk_model.specs.Erasure.{IsPlain}
use Rattle.dk_model.specs.PlainTerms.{Tree}
use Rattle.dk_model.specs.PlainEntries.{PlainRule, PlainEntry, symbol_entry, rules_entry, PlainSignature}
use Rattle.dk_model.specs.PlainCommands.{PlainScopedRule}
use Rattle.dk_model.specs.Shapes.{shapes_of, erased_rule}
use Rattle.dk_model.specs.declared.signature.SymSort.{SymSort}
use Rattle.dk_model.specs.declared.signature.SymSort.TheVariants.{Definable}

-- only a definition keeps a body, which has no annotations
abbrev pub IsKeptBody : SymSort → Option Tree → Type 0
IsKeptBody sort None = Unit {0}
IsKeptBody sort (Some body) = (sort ≡ Definable) × IsPlain body

-- the rules of a command: each has the shape of a rule over these entries, but for the annotations of its guards and right side
abbrev pub AreRulesOver : PlainSignature → List PlainRule → Type 0
AreRulesOver S rules = (scoped : List PlainScopedRule) × (shapes : List PlainRule) × (shapes_of S scoped ≡ Ok shapes) × (rules ≡ map erased_rule shapes)

-- an entry that a command can add to these: a type without annotations and the body that is kept, or rules
abbrev pub IsEntryOver : PlainSignature → PlainEntry → Type 0
IsEntryOver S (symbol_entry sort typ body) = IsPlain typ × IsKeptBody sort body
IsEntryOver S (rules_entry rules) = AreRulesOver S rules

-- the entries before the one at this place, from 0
abbrev pub before : PlainSignature → ℕ → PlainSignature
before S place = take place S

-- each entry is one that a command can add to those before it
abbrev pub IsSignature : PlainSignature → Type 0
IsSignature S = (place : ℕ) (entry : PlainEntry) → slice_get S place ≡ Some entry → IsEntryOver (before S place) entry
