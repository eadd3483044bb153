use Rattle.pattern_compile.proofs.Rowed.{guards_symbol, guards_variable}
use Rattle.pattern_compile.proofs.mark.+guarding.Goals as goal

pub guards_are_marked-returns-in-Sym : goal.guards_are_marked-returns-in-Sym
guards_are_marked-returns-in-Sym t c =
    guards_symbol c.args.marks.now c.args.pattern.now c.in-Sym.field-0 c.in-Sym.arguments c.all_guards_are_marked.result c.in-Sym.is
    (rw c.as_slice.ensures at c.all_guards_are_marked.ensures)

pub guards_are_marked-returns-in-Var : goal.guards_are_marked-returns-in-Var
guards_are_marked-returns-in-Var t c =
    guards_variable c.args.marks.now c.args.pattern.now c.in-Var.field-0 c.in-Var.arguments c.all_guards_are_marked-in-Var.result c.in-Var.is
    (rw c.as_slice-in-Var.ensures at c.all_guards_are_marked-in-Var.ensures)
