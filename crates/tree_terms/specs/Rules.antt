-- For callers: a rule of a symbol, as the plain data of dk_model.
use Rattle.dk_model.specs.Signatures.{Pattern, pattern_by, PlainRule}
use Rattle.dk_model.specs.declared.signature.Pat.{Pat}
use Rattle.shared_term.specs.Storage.{stored_term}
use Rattle.shared_term.specs.declared.stored.Stored.{Stored}
use Rattle.signature_log.specs.Versions.{row_rule}
use Rattle.tree_terms.specs.declared.rules.SymbolRule.{SymbolRule}

abbrev pub stored_pattern : Pat Stored → Pattern
stored_pattern = pattern_by stored_term

abbrev pub rule : SymbolRule → PlainRule
rule r = row_rule r.symbol r.row
