-- A left side for each rule, in order.
use Rattle.std.proofs.Common.{◌≡◌, ◌<◌, ◌∙◌, ℕ, zero, suc, List, [], ◌∷◌, None, ap, arith, length, sym as flip}
use Rattle.std.specs.Prelude.{slice_get}
use Rattle.std.specs.Option.{option_map}
use Rattle.dk_model.specs.Signatures.{PlainRule}
use Rattle.rule_match.proofs.Walking.{next_left_side}
use Rattle.signature_log.specs.Versions.{row_rule}
use Rattle.signature_log.specs.Rows.{row_rules}
use Rattle.signature_log.proofs.rows.Rows.sides.Goals as goal

is_there : (rules : List PlainRule) (i : ℕ) → i < length rules → None ≡ slice_get rules i → ⊥
is_there [] i l e = omega (arith, l)
is_there (x ∷ rules) zero l e = cc
is_there (x ∷ rules) (suc i) l e = is_there rules i (omega (arith, l)) e

pub unreachable-requires : goal.unreachable-requires
unreachable-requires c =
    is_there (row_rules 0 c.args.self.now) c.loop-at.at (let e = c.len-at-end.ensures 0 in omega (arith, e, c.loop-at-test.true))
    (ap (option_map (row_rule 0)) (flip c.in-None.is) ∙ c.at.ensures 0)

pub loop-at-preserved : goal.loop-at-preserved
loop-at-preserved c k =
    next_left_side (row_rules k c.args.self.now) c.loop-at.sides.items c.push.new.self.items c.loop-at.at (row_rule k c.in-Some.row) c.side_of.result (c.loop-at.invariant k)
    (flip (c.at.ensures k) ∙ ap (option_map (row_rule k)) c.in-Some.is) (c.side_of.ensures k) c.in_ok-push-in-Some.ensures.items
