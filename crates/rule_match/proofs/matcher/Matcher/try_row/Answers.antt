use Rattle.std.proofs.Common.{◌≡◌, ◌∙◌, List, Some, None, ap, sym as flip, map, length, arith}
use Rattle.dk_model.specs.Matrix.{rigid_at}
use Rattle.rule_match.specs.declared.cell.Cell.{Cell}
use Rattle.rule_match.specs.declared.matcher.Matcher.{Matcher}
use Rattle.rule_match.specs.declared.matcher.Stage.TheVariants.{Begins}
use Rattle.rule_match.specs.Rows.{plain_cell}
use Rattle.rule_match.specs.Matching.{selects, captures_due}
use Rattle.rule_match.proofs.Growing.{none_captured_here}
use Rattle.rule_match.proofs.Matching.{asks_on}
use Rattle.rule_match.proofs.Placing.{row_placed}
use Rattle.rule_match.proofs.Asking.{no_row, no_column, asks_value, begins_row, row_found, row_missing}
use Rattle.rule_match.proofs.matcher.Matcher.try_row.Goals as goal

pub returns-then-at-len-clause-asks : goal.returns-then-at-len-clause-asks
returns-then-at-len-clause-asks c = λ rules s.
    let e : rigid_at (map plain_cell c.in-Some.row.cells.items) ≡ Some c.in-Some-rigid_at.at =
    flip (ap (λ (l : List Cell). rigid_at (map plain_cell l)) c.as_slice.ensures.value) ∙ flip c.rigid_at.ensures.value ∙ c.in-Some-rigid_at.is in
    no_column rules c.args.pool.now c.args.self.now s c.in-Some.row
    (row_found rules c.args.self.now.left c.args.self.now.tried c.in-Some.row c.in_ok-row_at.field-0 c.in-Some.is (c.in_ok-row_at.ensures.is rules s.source s.left)) c.in-Some-rigid_at.at e
    (omega (arith, c.if-at-len.true, c.len.ensures, c.args.self.now.columns.ok.0))

pub variable_count-count-requires : goal.variable_count-count-requires
variable_count-count-requires c =
    row_placed c.args.self.now.source c.args.self.now.left c.args.self.now.tried c.in-Some.row c.in_ok-row_at.field-0 c.requires.placed c.in-Some.is c.in_ok-row_at.ensures.is

pub go_through-requires-clause-tried : goal.go_through-requires-clause-tried
go_through-requires-clause-tried c = record {
  there = row_placed c.args.self.now.source c.args.self.now.left c.args.self.now.tried c.in-Some.row c.in_ok-row_at.field-0 c.requires.placed c.in-Some.is c.in_ok-row_at.ensures.is;
  counted = rw c.in-Some.is at c.in_ok-row_at.ensures.counted;
}

pub go_through-requires-clause-within : goal.go_through-requires-clause-within
go_through-requires-clause-within c = record {
  columns = c.requires.columns;
  captures = none_captured_here (length c.args.pool.now) c.variable_count-count.result c.in_ok-self-in-None-rigid_at.field-0.items c.in_ok-self-in-None-rigid_at.ensures;
  stage = tt;
  tried = tt;
  placed = c.requires.placed;
}

pub returns-in-None-clause-asks : goal.returns-in-None-clause-asks
returns-in-None-clause-asks c = λ rules s.
    no_row rules c.args.pool.now c.args.self.now s (row_missing rules c.args.self.now.left c.args.self.now.tried c.in_ok-row_at.field-0 c.in-None.is (c.in_ok-row_at.ensures.is rules s.source s.left))

pub returns-else-at-len-clause-asks : goal.returns-else-at-len-clause-asks
returns-else-at-len-clause-asks c = λ rules s.
    let e : rigid_at (map plain_cell c.in-Some.row.cells.items) ≡ Some c.in-Some-rigid_at.at =
    flip (ap (λ (l : List Cell). rigid_at (map plain_cell l)) c.as_slice.ensures.value) ∙ flip c.rigid_at.ensures.value ∙ c.in-Some-rigid_at.is in
    asks_value rules c.args.pool.now c.args.self.now s c.in-Some.row
    (row_found rules c.args.self.now.left c.args.self.now.tried c.in-Some.row c.in_ok-row_at.field-0 c.in-Some.is (c.in_ok-row_at.ensures.is rules s.source s.left)) c.in-Some-rigid_at.at e
    (omega (arith, c.if-at-len.false, c.len.ensures, c.args.self.now.columns.ok.0))

pub returns-in_ok-self-in-None-rigid_at-clause-asks : goal.returns-in_ok-self-in-None-rigid_at-clause-asks
returns-in_ok-self-in-None-rigid_at-clause-asks c =
    let m1 : Matcher = record c.args.self.now { row = c.in-Some.row; captures = c.in_ok-self-in-None-rigid_at.field-0; stage = Begins } in
    let e : rigid_at (map plain_cell c.in-Some.row.cells.items) ≡ None =
    flip (ap (λ (l : List Cell). rigid_at (map plain_cell l)) c.as_slice.ensures.value) ∙ flip c.rigid_at.ensures.value ∙ c.in-None-rigid_at.is in
    asks_on c.go_through.result c.go_through.new.pool c.go_through.new.self c.args.self.now m1 (λ rules S. captures_due S rules c.args.pool.now m1 0)
    (λ rules S. selects S rules c.args.pool.now c.args.self.now) (λ rules s. record { source = s.source; left = s.left })
    (λ rules s S n. begins_row rules c.args.pool.now c.args.self.now s c.in-Some.row
    (row_found rules c.args.self.now.left c.args.self.now.tried c.in-Some.row c.in_ok-row_at.field-0 c.in-Some.is (c.in_ok-row_at.ensures.is rules s.source s.left)) c.in_ok-self-in-None-rigid_at.field-0
    c.variable_count-count.result e (c.variable_count-count.ensures rules s.source).is c.in_ok-self-in-None-rigid_at.ensures S n)
    c.go_through.ensures.asks
