use Rattle.std.proofs.Common.{◌+◌, ◌∙◌, List, refl, ap, drop, length}
use Rattle.dk_model.specs.Matrix.{Row as PlainRow, Column as PlainColumn}
use Rattle.dk_model.specs.Units.{bind}
use Rattle.dk_model.specs.Evaluation.{comparison_of, normal_of}
use Rattle.shared_term.specs.Pools.{term}
use Rattle.shared_term.specs.Changes.{captured_terms}
use Rattle.rule_match.specs.declared.matcher.Matcher.{Matcher}
use Rattle.rule_match.specs.declared.matcher.Stage.TheVariants.{Escapes}
use Rattle.rule_match.specs.declared.row.Passage.TheVariants.{Through, Escapes as EscapesAt, Compares as ComparesAt}
use Rattle.rule_match.specs.Rows.{row}
use Rattle.rule_match.specs.Columns.{plain}
use Rattle.rule_match.specs.Matching.{guards_due, captures_due, after_normal}
use Rattle.rule_match.specs.Remaining.{rows_left}
use Rattle.rule_match.proofs.Growing.{columns_within, column_within}
use Rattle.rule_match.proofs.Matching.{asks_on, cells_asked, escape_asks, compare_asks, term_there}
use Rattle.rule_match.proofs.matcher.Matcher.go_through.Goals as goal

pub go_guarding-requires-clause-within : goal.go_guarding-requires-clause-within
go_guarding-requires-clause-within c = record {
  columns = columns_within c.args.pool.now c.pass.new.pool c.args.self.now.columns.items c.pass.ensures.keeps c.requires.within.columns;
  captures = c.in_ok-pass.ensures.captures;
  stage = c.requires.within.stage;
  tried = c.requires.within.tried;
  placed = c.requires.within.placed;
}

pub returns-in-Through-clause-asks : goal.returns-in-Through-clause-asks
returns-in-Through-clause-asks c =
    let m1 : Matcher = record c.args.self.now { captures = c.pass.new.captures } in
    asks_on c.go_guarding.result c.go_guarding.new.pool c.go_guarding.new.self c.args.self.now m1 (λ rules S. guards_due S rules c.pass.new.pool m1 0)
    (λ rules S. captures_due S rules c.args.pool.now c.args.self.now c.args.from) (λ rules s. record { source = s.source; left = s.left })
    (λ rules s S n. cells_asked S (row rules c.args.self.now.row) (drop (c.args.self.now.tried + 1) (rows_left rules c.args.self.now.left)) c.args.self.now.row.cells.items c.args.self.now.columns.items
    c.args.self.now.captures.items c.pass.new.captures.items c.args.pool.now c.pass.new.pool c.args.from n Through refl
    (rw (c.as_slice.ensures.value, c.as_slice-2.ensures.value, c.in-Through.is) at c.in_ok-pass.ensures.passes))
    c.go_guarding.ensures.asks

pub returns-in-Escapes-clause-asks : goal.returns-in-Escapes-clause-asks
returns-in-Escapes-clause-asks c = λ rules s.
    let m1 : Matcher = record c.args.self.now { captures = c.pass.new.captures; stage = Escapes c.in-Escapes.at } in
    let rest : List PlainRow = drop (c.args.self.now.tried + 1) (rows_left rules c.args.self.now.left) in
    record {
      stands = record { source = s.source; left = s.left };
      asks = λ S n.
          cells_asked S (row rules c.args.self.now.row) rest c.args.self.now.row.cells.items c.args.self.now.columns.items c.args.self.now.captures.items c.pass.new.captures.items c.args.pool.now
          c.pass.new.pool c.args.from n (EscapesAt c.in-Escapes.at) refl (rw (c.as_slice.ensures.value, c.as_slice-2.ensures.value, c.in-Escapes.is) at c.in_ok-pass.ensures.passes)
          ∙ escape_asks S (row rules c.args.self.now.row) rest (plain c.pass.new.pool c.args.self.now.columns.items) c.in-Escapes.at (captured_terms c.pass.new.pool c.pass.new.captures.items) n
          ∙ ap (λ (k : PlainColumn). bind (normal_of S n k.term) (after_normal S rules c.pass.new.pool m1 c.in-Escapes.at))
          (term_there c.pass.new.pool c.args.self.now.columns.items c.in-Escapes.at c.column_of.result (rw c.as_slice-in-Escapes.ensures.value at c.column_of.ensures));
    }

pub returns-in-Escapes-clause-within : goal.returns-in-Escapes-clause-within
returns-in-Escapes-clause-within c = record {
  columns = columns_within c.args.pool.now c.pass.new.pool c.args.self.now.columns.items c.pass.ensures.keeps c.requires.within.columns;
  captures = c.in_ok-pass.ensures.captures;
  stage = rw (c.as_slice.ensures.value, c.as_slice-2.ensures.value, c.in-Escapes.is) at c.in_ok-pass.ensures.passed;
  tried = c.requires.tried;
  placed = c.requires.within.placed;
}

pub returns-in-Compares-clause-asks : goal.returns-in-Compares-clause-asks
returns-in-Compares-clause-asks c = λ rules s.
    let rest : List PlainRow = drop (c.args.self.now.tried + 1) (rows_left rules c.args.self.now.left) in
    record {
      stands = record { source = s.source; left = s.left };
      asks = λ S n.
          cells_asked S (row rules c.args.self.now.row) rest c.args.self.now.row.cells.items c.args.self.now.columns.items c.args.self.now.captures.items c.pass.new.captures.items c.args.pool.now
          c.pass.new.pool c.args.from n (ComparesAt c.in-Compares.at c.in-Compares.earlier c.in-Compares.part) refl
          (rw (c.as_slice.ensures.value, c.as_slice-2.ensures.value, c.in-Compares.is) at c.in_ok-pass.ensures.passes)
          ∙ compare_asks S (row rules c.args.self.now.row) rest (plain c.pass.new.pool c.args.self.now.columns.items) c.in-Compares.at (captured_terms c.pass.new.pool c.pass.new.captures.items)
          (comparison_of S n (term c.pass.new.pool c.in-Compares.earlier) (term c.pass.new.pool c.in-Compares.part));
    }

pub returns-in-Compares-clause-within : goal.returns-in-Compares-clause-within
returns-in-Compares-clause-within c = record {
  columns = columns_within c.args.pool.now c.pass.new.pool c.args.self.now.columns.items c.pass.ensures.keeps c.requires.within.columns;
  captures = c.in_ok-pass.ensures.captures;
  stage = (rw (c.as_slice.ensures.value, c.as_slice-2.ensures.value, c.in-Compares.is) at c.in_ok-pass.ensures.passed).0;
  tried = c.requires.tried;
  placed = c.requires.within.placed;
}

pub returns-in-Escapes-clause-asked : goal.returns-in-Escapes-clause-asked
returns-in-Escapes-clause-asked c =
    column_within (length c.pass.new.pool) c.in-Escapes.at c.args.self.now.columns.items c.column_of.result
    (columns_within c.args.pool.now c.pass.new.pool c.args.self.now.columns.items c.pass.ensures.keeps c.requires.within.columns) (rw c.as_slice-in-Escapes.ensures.value at c.column_of.ensures)
