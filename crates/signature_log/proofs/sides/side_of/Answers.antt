use Rattle.std.proofs.Common.{refl, ap, subst, sym as flip, map}
use Rattle.dk_model.specs.Signatures.{rule_by}
use Rattle.shared_term.specs.Storage.{stored_term}
use Rattle.rule_match.specs.declared.walk.LeftSide.{LeftSide}
use Rattle.rule_match.specs.Rows.{stored_pattern}
use Rattle.rule_match.specs.Sides.{IsLeftSide}
use Rattle.rule_match.proofs.Walking.{left_side}
use Rattle.signature_log.specs.declared.rows.Row.{Row}
use Rattle.signature_log.specs.Versions.{row_rule}
use Rattle.signature_log.proofs.sides.side_of.Goals as goal

pub returns-in-Rule : goal.returns-in-Rule
returns-in-Rule c k =
    let side : LeftSide = record { patterns = c.as_slice.result; vars = c.in-Rule.rule.now.vars } in
    subst (λ (row : Row). IsLeftSide (row_rule k row) side) (flip c.in-Rule.is)
    (left_side (rule_by stored_term c.in-Rule.rule.now) side (ap (map stored_pattern) c.as_slice.ensures) refl)
