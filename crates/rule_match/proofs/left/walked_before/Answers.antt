use Rattle.std.proofs.Common.{◌≡◌, ◌∙◌, ◌≤◌, sym as flip, arith}
use Rattle.rule_match.specs.Sides.{widest}
use Rattle.rule_match.proofs.Siding.{width_full, rows_full}
use Rattle.rule_match.proofs.left.walked_before.Goals as goal

pub returns-then-widest-count-clause-begins : goal.returns-then-widest-count-clause-begins
returns-then-widest-count-clause-begins c = λ rules a.
    let e : c.widest_side-widest.result ≡ widest rules = c.widest_side-widest.ensures rules a in
    let l : widest rules ≤ c.args.count = omega (arith, e, c.if-widest-count.true) in
    let k : widest rules ≤ c.widest_side-widest.result = omega (arith, e) in record {
      width = e ∙ flip (width_full rules c.args.count l);
      rows = rows_full rules c.widest_side-widest.result c.args.count c.widest_side-widest.result k l;
      room = k;
    }
