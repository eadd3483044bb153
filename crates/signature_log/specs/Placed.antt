-- For proofs: rules by their places in the entries of their commands.
use Rattle.std.specs.Prelude.{ℕ, ◌≡◌, ◌<◌, Option, Some, None, List, [], ◌++◌, length, map, get_or}
use Rattle.dk_model.specs.Trees.{star}
use Rattle.dk_model.specs.Signatures.{PlainRule, rule_by, entry_by}
use Rattle.dk_model.specs.SymbolRules.{rules_of_head, declared_rules}
use Rattle.dk_model.specs.declared.signature.Entry.{Entry}
use Rattle.dk_model.specs.declared.signature.Entry.TheVariants.{Symbol, Rules}
use Rattle.dk_model.specs.declared.signature.Rule.{Rule}
use Rattle.shared_term.specs.Storage.{stored_term}
use Rattle.shared_term.specs.declared.stored.Stored.{Stored}
use Rattle.signature_log.specs.Slots.{cell_at, fork_at}

-- places of rules, each an entry and a number in it
abbrev pub Places : Type 0
Places = List (Entry Stored × ℕ)

-- such places by the numbers of symbols, in four levels of blocks
abbrev pub Table : Type 0
Table = List (Option (List (Option (List (Option (List (Option Places)))))))

-- the rules of an entry
abbrev pub rules_in : Entry Stored → List (Rule Stored)
rules_in (Symbol sort typ body) = []
rules_in (Rules rules) = rules

abbrev pub entry_rules : Entry Stored → List PlainRule
entry_rules entry = map (rule_by stored_term) (rules_in entry)

-- the entry has a rule at this place
abbrev pub HasRule : Entry Stored → ℕ → Type 0
HasRule entry at = at < length (rules_in entry)

abbrev pub no_rule : PlainRule
no_rule = record { head = 0; vars = 0; pats = []; notes = []; right = star }

-- the rule at a place in an entry
abbrev pub placed_rule : Entry Stored × ℕ → PlainRule
placed_rule place = get_or (entry_rules place.0) place.1 no_rule

-- the places that a number has
abbrev pub places_in : Option Places → Places
places_in None = []
places_in (Some places) = places

-- the rules at the places that a number has
abbrev pub listed_rules : Option Places → List PlainRule
listed_rules o = map placed_rule (places_in o)

-- the places that a table has at a number
abbrev pub table_at : Table → ℕ → Option Places
table_at = fork_at (fork_at (fork_at cell_at 32) 1024) 32768

-- each symbol has those of the rules more whose head it is
abbrev pub AddsRules : Table → Table → List PlainRule → Type 0
AddsRules old new rules = (symbol : ℕ) → listed_rules (table_at new symbol) ≡ listed_rules (table_at old symbol) ++ rules_of_head symbol rules

-- the table of a version has of each symbol the rules that its entries declare
abbrev pub IsVersion : List (Entry Stored) → Table → Type 0
IsVersion entries table = (symbol : ℕ) → listed_rules (table_at table symbol) ≡ declared_rules symbol (map (entry_by stored_term) entries)
