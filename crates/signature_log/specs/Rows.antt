-- For callers: the rows of a symbol as a list of rules.
use Rattle.std.specs.Prelude.{ℕ, Option, Some, None, List, [], ◌∷◌, ◌++◌}
use Rattle.std.specs.Borrow.{Bor}
use Rattle.std.specs.Option.{option_copied}
use Rattle.dk_model.specs.Signatures.{PlainRule}
use Rattle.shared_term.specs.Storage.{stored_term}
use Rattle.shared_term.specs.declared.stored.Stored.{Stored}
use Rattle.signature_log.specs.Placed.{listed_rules}
use Rattle.signature_log.specs.declared.rows.Rows.{Rows}

-- the body as a rule of no patterns, where there is one
abbrev pub body_rows : ℕ → Option (Bor Stored) → List PlainRule
body_rows symbol None = []
body_rows symbol (Some body) = record { head = symbol; vars = 0; pats = []; notes = []; right = stored_term body.now } ∷ []

-- the body of this symbol, then its declared rules
abbrev pub row_rules : ℕ → Rows → List PlainRule
row_rules symbol rows = body_rows symbol rows.body ++ listed_rules (option_copied rows.declared)
