use Rattle.std.proofs.Common.{◌∙◌, ◌++◌, ◌<◌, ◌≤◌, ◌+◌, Vec, Global, length, map, drop, ap, arith}
use Rattle.rule_match.specs.declared.cell.Row.{Row}
use Rattle.rule_match.specs.Rows.{row}
use Rattle.rule_match.specs.Keys.{rows_by}
use Rattle.rule_match.proofs.Grouping.{row_goes_on, row_left_out, all_halved}
use Rattle.rule_match.proofs.group.half.Goals.{then-may_be_kept+in_ok-copied+in_ok-push, else-may_be_kept}
use Rattle.rule_match.proofs.group.half.Goals as goal

pub loop-row-preserved : goal.loop-row-preserved
loop-row-preserved c = λ rules key e.
    let lt : c.loop-row.row-index < length c.args.rows.now = omega (arith, c.loop-row-test.true) in
    let h = c.loop-row.invariant rules key e in
    elim c.if-may_be_kept.branch [
      | then-may_be_kept+in_ok-copied+in_ok-push w ↦
          row_goes_on rules key c.args.column c.loop-row.row-index c.args.rows.now c.loop-row.half.items c.row-item.result _ lt c.row-item.is h
          w.in_ok-copied.field-0 c.if-may_be_kept.half.items (w.in_ok-copied.ensures rules) (ap (λ (u : Vec Row Global). u.items) w.half-is ∙ w.in_ok-push.ensures.items)
      | else-may_be_kept w ↦
          ap (λ (u : Vec Row Global). rows_by key c.args.column (map (row rules) u.items) ++ rows_by key c.args.column (map (row rules) (drop (c.loop-row.row-index + 1) c.args.rows.now))) w.half-is
          ∙ row_left_out rules key c.args.column c.loop-row.row-index c.args.rows.now c.loop-row.half.items c.row-item.result _ lt c.row-item.is h
          c.may_be_kept.result w.if-may_be_kept.false (c.may_be_kept.ensures key e)
    ]

pub returns : goal.returns
returns c = λ rules key e.
    all_halved rules key c.args.column c.args.rows.now c.loop-row.half.items c.loop-row.row-index _
    (let l : length c.args.rows.now ≤ c.loop-row.row-index = omega (arith, c.loop-row-test.false) in l) (c.loop-row.invariant rules key e)
