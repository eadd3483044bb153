use Rattle.pattern_compile.proofs.Rowed.{erased_symbol, erased_variable}
use Rattle.pattern_compile.proofs.erase.+erasing.Goals as goal

pub erased_pattern-returns-in_ok-erased_patterns-in-Sym :
    goal.erased_pattern-returns-in_ok-erased_patterns-in-Sym
erased_pattern-returns-in_ok-erased_patterns-in-Sym t c =
    erased_symbol c.args.pattern.now c.in-Sym.symbol c.in-Sym.arguments c.in_ok-erased_patterns-in-Sym.field-0 c.in-Sym.is
    (rw c.as_slice-in-Sym.ensures at c.in_ok-erased_patterns-in-Sym.ensures)

pub erased_pattern-returns-in_ok-erased_patterns-in-Var :
    goal.erased_pattern-returns-in_ok-erased_patterns-in-Var
erased_pattern-returns-in_ok-erased_patterns-in-Var t c =
    erased_variable c.args.pattern.now c.in-Var.variable c.in-Var.arguments c.in_ok-erased_patterns-in-Var.field-0 c.in-Var.is
    (rw c.as_slice-in-Var.ensures at c.in_ok-erased_patterns-in-Var.ensures)
