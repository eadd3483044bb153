-- Trusted: the entries of a version and the rules of a symbol, as plain data.
use Rattle.std.specs.Prelude.{ℕ, List, [], map}
use Rattle.dk_model.specs.Signatures.{PlainRule, PlainEntry, PlainSignature, entry_by, rule_by}
use Rattle.dk_model.specs.declared.signature.Entry.{Entry}
use Rattle.shared_term.specs.Storage.{stored_term}
use Rattle.shared_term.specs.declared.stored.Stored.{Stored}
use Rattle.signature_log.specs.declared.rows.Row.{Row}
use Rattle.signature_log.specs.declared.rows.Row.TheVariants.{Body, Rule}

abbrev pub stored_entry : Entry Stored → PlainEntry
stored_entry = entry_by stored_term

-- the signature that a version is: its entries, in file order
abbrev pub entries_of : List (Entry Stored) → PlainSignature
entries_of v = map stored_entry v

-- a row of a symbol as a rule: its body is a rule of no patterns
abbrev pub row_rule : ℕ → Row → PlainRule
row_rule symbol (Body body) = record { head = symbol; vars = 0; pats = []; notes = []; right = stored_term body.now }
row_rule symbol (Rule rule) = rule_by stored_term rule.now
