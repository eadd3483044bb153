use Rattle.std.proofs.Common.{◌≡◌, ◌∙◌, List, ap, map, arith}
use Rattle.dk_model.specs.Matrix.{cell_at}
use Rattle.shared_term.specs.Pools.{term}
use Rattle.rule_match.specs.declared.cell.Cell.{Cell}
use Rattle.rule_match.specs.declared.matcher.Matcher.{Matcher}
use Rattle.rule_match.specs.declared.matcher.Stage.TheVariants.{Begins}
use Rattle.rule_match.specs.Rows.{plain_cell}
use Rattle.rule_match.specs.Matching.{fails, captures_due, after_normal}
use Rattle.rule_match.proofs.Matching.{asks_on}
use Rattle.rule_match.proofs.Asking.{normal_within, still_fails, still_goes}
use Rattle.rule_match.proofs.matcher.Matcher.put_normal.Goals as goal

pub next_row-requires-clause-within : goal.next_row-requires-clause-within
next_row-requires-clause-within c =
    normal_within c.args.pool.now c.mentions_still.new.pool c.mentions_still.ensures.keeps c.args.self.now c.requires.within c.args.at c.args.part c.requires.part c.column_of-depth.result
    (rw c.as_slice-2.ensures.value at c.column_of-depth.ensures) c.put_column.new.columns c.put_column.ensures

pub go_through-requires-clause-within : goal.go_through-requires-clause-within
go_through-requires-clause-within c =
    normal_within c.args.pool.now c.mentions_still.new.pool c.mentions_still.ensures.keeps c.args.self.now c.requires.within c.args.at c.args.part c.requires.part c.column_of-depth.result
    (rw c.as_slice-2.ensures.value at c.column_of-depth.ensures) c.put_column.new.columns c.put_column.ensures

pub returns-then-mentions-clause-asks : goal.returns-then-mentions-clause-asks
returns-then-mentions-clause-asks c =
    let m1 : Matcher = record c.args.self.now { columns = c.put_column.new.columns; stage = Begins } in
    let is : plain_cell c.cell_of-cell.result ≡ cell_at (map plain_cell c.args.self.now.row.cells.items) c.args.at =
    c.cell_of-cell.ensures ∙ ap (λ (l : List Cell). cell_at (map plain_cell l) c.args.at) c.as_slice.ensures.value in
    asks_on c.next_row.result c.next_row.new.pool c.next_row.new.self c.args.self.now m1 (λ rules S. fails S rules c.mentions_still.new.pool m1)
    (λ rules S. after_normal S rules c.args.pool.now c.args.self.now c.args.at (term c.args.pool.now c.args.part)) (λ rules s. record { source = s.source; left = s.left })
    (λ rules s S n. still_fails c.args.pool.now c.mentions_still.new.pool c.mentions_still.ensures.keeps c.args.self.now c.requires.within c.args.at c.args.part c.requires.part c.column_of-depth.result
    (rw c.as_slice-2.ensures.value at c.column_of-depth.ensures) c.put_column.new.columns c.put_column.ensures rules c.in_ok-mentions.mentions c.cell_of-cell.result is
    c.in_ok-mentions.ensures.mentions c.if-mentions.true S n)
    c.next_row.ensures.asks

pub returns-clause-asks : goal.returns-clause-asks
returns-clause-asks c =
    let m1 : Matcher = record c.args.self.now { columns = c.put_column.new.columns; stage = Begins } in
    let is : plain_cell c.cell_of-cell.result ≡ cell_at (map plain_cell c.args.self.now.row.cells.items) c.args.at =
    c.cell_of-cell.ensures ∙ ap (λ (l : List Cell). cell_at (map plain_cell l) c.args.at) c.as_slice.ensures.value in
    asks_on c.go_through.result c.go_through.new.pool c.go_through.new.self c.args.self.now m1 (λ rules S. captures_due S rules c.mentions_still.new.pool m1 c.args.at)
    (λ rules S. after_normal S rules c.args.pool.now c.args.self.now c.args.at (term c.args.pool.now c.args.part)) (λ rules s. record { source = s.source; left = s.left })
    (λ rules s S n. still_goes c.args.pool.now c.mentions_still.new.pool c.mentions_still.ensures.keeps c.args.self.now c.requires.within c.args.at c.args.part c.requires.part c.column_of-depth.result
    (rw c.as_slice-2.ensures.value at c.column_of-depth.ensures) c.put_column.new.columns c.put_column.ensures rules c.in_ok-mentions.mentions c.cell_of-cell.result is
    c.in_ok-mentions.ensures.mentions c.if-mentions.false (omega (arith, c.requires.cell, c.args.self.now.row.cells.ok.0)) (omega (arith, c.requires.at, c.args.self.now.columns.ok.0)) S n)
    c.go_through.ensures.asks
