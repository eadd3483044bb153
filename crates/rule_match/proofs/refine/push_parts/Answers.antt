use Rattle.std.proofs.Common.{map}
use Rattle.rule_match.specs.Rows.{plain_cell}
use Rattle.rule_match.proofs.Refining.{after_symbol, after_variable}
use Rattle.rule_match.proofs.refine.push_parts.Goals as goal

pub returns-in_ok-push_list-in-Sym : goal.returns-in_ok-push_list-in-Sym
returns-in_ok-push_list-in-Sym c =
    let parts = rw c.as_slice.ensures at c.in_ok-push_list-in-Sym.ensures in
    after_symbol (map plain_cell c.args.cells.now.items) (map plain_cell c.push_list.new.cells.items) c.args.pattern.now c.args.count c.in-Sym.field-0 c.in-Sym.patterns parts c.in-Sym.is

pub returns-in_ok-push_list-in-Var : goal.returns-in_ok-push_list-in-Var
returns-in_ok-push_list-in-Var c =
    let parts = rw c.as_slice-in-Var.ensures at c.in_ok-push_list-in-Var.ensures in
    after_variable (map plain_cell c.args.cells.now.items) (map plain_cell c.push_list-in-Var.new.cells.items) c.args.pattern.now c.args.count c.in-Var.field-0 c.in-Var.patterns parts c.in-Var.is
