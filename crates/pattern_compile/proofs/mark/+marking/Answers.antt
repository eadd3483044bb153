use Rattle.pattern_compile.proofs.Rowed.{marked_symbol, marked_variable}
use Rattle.pattern_compile.proofs.Marking.{mark_goes_on}
use Rattle.pattern_compile.proofs.mark.+marking.Goals as goal

pub mark_pattern-returns-in-Sym : goal.mark_pattern-returns-in-Sym
mark_pattern-returns-in-Sym t c =
    marked_symbol c.args.marks.now c.args.pattern.now c.in-Sym.field-0 c.in-Sym.arguments c.mark_patterns.new.marks c.in-Sym.is
    (rw c.as_slice.ensures at c.mark_patterns.ensures)

pub mark_pattern-returns-in-Var : goal.mark_pattern-returns-in-Var
mark_pattern-returns-in-Var t c =
    marked_variable c.args.marks.now c.args.pattern.now c.in-Var.field-0 c.in-Var.arguments c.mark_patterns-in-Var.new.marks c.in-Var.is
    (rw c.as_slice-in-Var.ensures at c.mark_patterns-in-Var.ensures)

pub mark_patterns-loop-pattern-preserved : goal.mark_patterns-loop-pattern-preserved
mark_patterns-loop-pattern-preserved t c =
    mark_goes_on _ c.loop-pattern.marks c.args.patterns.now c.loop-pattern.pattern-index c.pattern-item.result c.loop-pattern-test.true c.pattern-item.is c.loop-pattern.invariant c.mark_pattern.new.marks c.mark_pattern.ensures
