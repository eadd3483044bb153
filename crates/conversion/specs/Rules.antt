-- For proofs: the rules of a symbol, as the evaluating code holds them.
use Rattle.dk_model.specs.Signatures.{PlainRule}
use Rattle.signature_log.specs.Versions.{row_rule}
use Rattle.conversion.specs.declared.rules.SymbolRule.{SymbolRule}

-- the rule
abbrev pub plain_rule_of : SymbolRule → PlainRule
plain_rule_of r = row_rule r.symbol r.row
