-- The rules that an entry keeps, from their shapes.
use Rattle.std.proofs.Common.{◌≡◌, ◌∙◌, List, ap, sym as flip}
use Rattle.std.specs.Prelude.{Result, Ok, map}
use Rattle.dk_model.specs.Signatures.{PlainRule}
use Rattle.dk_model.specs.Shapes.{erased_rule, kept_rules}
use Rattle.dk_model.specs.declared.code.Code.{Code}

pub rules_kept : (due : Result (List PlainRule) Code) (shapes kept stored : List PlainRule) → due ≡ Ok shapes → kept ≡ map erased_rule shapes → stored ≡ kept
    → stored ≡ kept_rules due
rules_kept due shapes kept stored e f g = g ∙ f ∙ flip (ap kept_rules e)
