use Rattle.std.proofs.Common.{◌∙◌, sym as flip, ◌≤◌, min, length, subst, arith}
use Rattle.shared_term.specs.Changes.{captured_terms}
use Rattle.rule_match.specs.declared.row.Caught.{Caught}
use Rattle.rule_match.specs.declared.row.Caught.TheVariants.{Escapes, Compares}
use Rattle.rule_match.specs.Trying.{CellSteps}
use Rattle.rule_match.specs.Columns.{AreColumns}
use Rattle.rule_match.proofs.Growing.{columns_within, column_within}
use Rattle.rule_match.proofs.Winding.{extends_more}
use Rattle.rule_match.proofs.Trying.{pass_stops, pass_goes, row_ended}
use Rattle.rule_match.proofs.row.pass.Goals as goal

pub cell_step-requires-clause-column : goal.cell_step-requires-clause-column
cell_step-requires-clause-column c =
    column_within (length c.loop-at.pool) c.loop-at.at c.args.columns.now c.column_of-column.result (columns_within c.args.pool.now c.loop-at.pool c.args.columns.now c.loop-at.invariant.keeps c.requires.columns)
    c.column_of-column.ensures

pub returns-in-Escapes-clause-passes : goal.returns-in-Escapes-clause-passes
returns-in-Escapes-clause-passes c = λ N C n.
    let w : AreColumns (length c.loop-at.pool) c.args.columns.now = columns_within c.args.pool.now c.loop-at.pool c.args.columns.now c.loop-at.invariant.keeps c.requires.columns in
    pass_stops N C n c.args.cells.now c.args.columns.now c.loop-at.at c.args.from c.index-cells-at.result c.column_of-column.result
    (omega (arith, c.loop-at-test.true, c.loop-at.auto.at-end, c.min-at-end.ensures)) c.index-cells-at.is
    c.column_of-column.ensures c.loop-at.pool c.cell_step.new.pool c.cell_step.ensures.keeps
    w c.loop-at.captures.items c.cell_step.new.captures.items _ (c.loop-at.invariant.same N C n) Escapes
    (subst (λ (z : Caught). CellSteps c.index-cells-at.result c.column_of-column.result c.loop-at.pool c.loop-at.captures.items c.cell_step.new.pool c.cell_step.new.captures.items z) c.in-Escapes.is
    c.in_ok-cell_step.ensures.steps)

pub returns-in-Compares-clause-passes : goal.returns-in-Compares-clause-passes
returns-in-Compares-clause-passes c = λ N C n.
    let w : AreColumns (length c.loop-at.pool) c.args.columns.now = columns_within c.args.pool.now c.loop-at.pool c.args.columns.now c.loop-at.invariant.keeps c.requires.columns in
    pass_stops N C n c.args.cells.now c.args.columns.now c.loop-at.at c.args.from c.index-cells-at.result c.column_of-column.result
    (omega (arith, c.loop-at-test.true, c.loop-at.auto.at-end, c.min-at-end.ensures)) c.index-cells-at.is
    c.column_of-column.ensures c.loop-at.pool c.cell_step.new.pool c.cell_step.ensures.keeps
    w c.loop-at.captures.items c.cell_step.new.captures.items _ (c.loop-at.invariant.same N C n) (Compares c.in-Compares.earlier c.in-Compares.part)
    (subst (λ (z : Caught). CellSteps c.index-cells-at.result c.column_of-column.result c.loop-at.pool c.loop-at.captures.items c.cell_step.new.pool c.cell_step.new.captures.items z) c.in-Compares.is
    c.in_ok-cell_step.ensures.steps)

pub loop-at-preserved : goal.loop-at-preserved
loop-at-preserved c =
    let w : AreColumns (length c.loop-at.pool) c.args.columns.now = columns_within c.args.pool.now c.loop-at.pool c.args.columns.now c.loop-at.invariant.keeps c.requires.columns in record {
      same = λ N C n.
          pass_goes N C n c.args.cells.now c.args.columns.now c.loop-at.at c.args.from c.index-cells-at.result c.column_of-column.result
          (omega (arith, c.loop-at-test.true, c.loop-at.auto.at-end, c.min-at-end.ensures)) c.index-cells-at.is
          c.column_of-column.ensures c.loop-at.pool c.cell_step.new.pool c.cell_step.ensures.keeps
          w c.loop-at.captures.items c.cell_step.new.captures.items _ (c.loop-at.invariant.same N C n)
          (column_within (length c.loop-at.pool) c.loop-at.at c.args.columns.now c.column_of-column.result w c.column_of-column.ensures)
          (subst (λ (z : Caught). CellSteps c.index-cells-at.result c.column_of-column.result c.loop-at.pool c.loop-at.captures.items c.cell_step.new.pool c.cell_step.new.captures.items z) c.in-On.is
          c.in_ok-cell_step.ensures.steps);
      captures = c.in_ok-cell_step.ensures.captures;
      keeps = extends_more c.args.pool.now c.loop-at.pool c.cell_step.new.pool c.loop-at.invariant.keeps c.cell_step.ensures.keeps;
    }

pub returns-clause-passes : goal.returns-clause-passes
returns-clause-passes c = λ N C n.
    flip (c.loop-at.invariant.same N C n)
    ∙ row_ended N C c.loop-at.pool c.args.cells.now c.args.columns.now c.loop-at.at n (captured_terms c.loop-at.pool c.loop-at.captures.items)
    (let l : min (length c.args.cells.now) (length c.args.columns.now) ≤ c.loop-at.at = omega (arith, c.loop-at-test.false, c.loop-at.auto.at-end, c.min-at-end.ensures) in l)
