use Rattle.std.proofs.Common.{◌∙◌, ◌<◌, ◌≤◌, Option, Some, None, sym as flip, min, length, subst, arith}
use Rattle.shared_term.specs.declared.id.TermId.{TermId}
use Rattle.shared_term.specs.Changes.{captured_terms, AreCaptures}
use Rattle.rule_match.specs.Trying.{HasGuard}
use Rattle.rule_match.specs.Columns.{AreColumns}
use Rattle.rule_match.proofs.Growing.{columns_within, captures_within, column_within}
use Rattle.rule_match.proofs.Winding.{extends_more}
use Rattle.rule_match.proofs.Trying.{guard_stops, guard_goes, guards_ended}
use Rattle.rule_match.proofs.row.next_guard.Goals as goal

pub guard_of-requires : goal.guard_of-requires
guard_of-requires c = captures_within c.args.pool.now c.loop-at.pool c.args.captures.now c.loop-at.invariant.keeps c.requires.captures

pub returns-in-Some-clause-guards : goal.returns-in-Some-clause-guards
returns-in-Some-clause-guards c =
    let w : AreColumns (length c.loop-at.pool) c.args.columns.now = columns_within c.args.pool.now c.loop-at.pool c.args.columns.now c.loop-at.invariant.keeps c.requires.columns in
    let v : AreCaptures (length c.loop-at.pool) c.args.captures.now = captures_within c.args.pool.now c.loop-at.pool c.args.captures.now c.loop-at.invariant.keeps c.requires.captures in
    let lt : c.loop-at.at < length c.args.columns.now = omega (arith, c.loop-at-test.true, c.loop-at.auto.at-end, c.min-at-end.ensures) in
    let g : HasGuard c.index-cells-at.result c.column_of-column.result.depth c.guard_of.new.pool (captured_terms c.loop-at.pool c.args.captures.now) (Some c.in-Some.guard) =
    subst (λ (z : Option TermId). HasGuard c.index-cells-at.result c.column_of-column.result.depth c.guard_of.new.pool (captured_terms c.loop-at.pool c.args.captures.now) z) c.in-Some.is c.in_ok-guard_of.ensures.guard in
    let l = column_within (length c.loop-at.pool) c.loop-at.at c.args.columns.now c.column_of-column.result w c.column_of-column.ensures in
    let longer = c.guard_of.ensures.keeps.longer in record {
      is = λ C n.
          guard_stops (λ m t. None) C n c.args.cells.now c.args.columns.now c.loop-at.at c.args.from c.index-cells-at.result c.column_of-column.result
          (omega (arith, c.loop-at-test.true, c.loop-at.auto.at-end, c.min-at-end.ensures)) c.index-cells-at.is c.column_of-column.ensures c.loop-at.pool c.guard_of.new.pool c.guard_of.ensures.keeps
          w c.args.captures.now v _ (c.loop-at.invariant.same C n) c.in-Some.guard l g;
      within = (lt, omega (arith, l, longer), g.1);
    }

pub loop-at-preserved : goal.loop-at-preserved
loop-at-preserved c =
    let w : AreColumns (length c.loop-at.pool) c.args.columns.now = columns_within c.args.pool.now c.loop-at.pool c.args.columns.now c.loop-at.invariant.keeps c.requires.columns in
    let v : AreCaptures (length c.loop-at.pool) c.args.captures.now = captures_within c.args.pool.now c.loop-at.pool c.args.captures.now c.loop-at.invariant.keeps c.requires.captures in
    let lt : c.loop-at.at < length c.args.columns.now = omega (arith, c.loop-at-test.true, c.loop-at.auto.at-end, c.min-at-end.ensures) in
    let g : HasGuard c.index-cells-at.result c.column_of-column.result.depth c.guard_of.new.pool (captured_terms c.loop-at.pool c.args.captures.now) None =
    subst (λ (z : Option TermId). HasGuard c.index-cells-at.result c.column_of-column.result.depth c.guard_of.new.pool (captured_terms c.loop-at.pool c.args.captures.now) z) c.in-None.is c.in_ok-guard_of.ensures.guard in record {
      same = λ C n.
          guard_goes (λ m t. None) C n c.args.cells.now c.args.columns.now c.loop-at.at c.args.from c.index-cells-at.result c.column_of-column.result
          (omega (arith, c.loop-at-test.true, c.loop-at.auto.at-end, c.min-at-end.ensures)) c.index-cells-at.is c.column_of-column.ensures c.loop-at.pool c.guard_of.new.pool c.guard_of.ensures.keeps
          w c.args.captures.now v _ (c.loop-at.invariant.same C n) g;
      keeps = extends_more c.args.pool.now c.loop-at.pool c.guard_of.new.pool c.loop-at.invariant.keeps c.guard_of.ensures.keeps;
    }

pub returns-clause-guards : goal.returns-clause-guards
returns-clause-guards c = record {
  is = λ C n.
      flip (c.loop-at.invariant.same C n)
      ∙ guards_ended (λ m t. None) C c.loop-at.pool c.args.cells.now c.args.columns.now c.loop-at.at n (captured_terms c.loop-at.pool c.args.captures.now)
      (let l : min (length c.args.cells.now) (length c.args.columns.now) ≤ c.loop-at.at = omega (arith, c.loop-at-test.false, c.loop-at.auto.at-end, c.min-at-end.ensures) in l);
  within = tt;
}
