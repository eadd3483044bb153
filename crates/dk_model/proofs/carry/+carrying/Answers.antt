use Rattle.dk_model.proofs.Carrying.{carried_symbol, carried_variable}
use Rattle.dk_model.proofs.carry.+carrying.Goals as goal

pub carry_pattern-returns-in_ok-carry_patterns-in-Sym : goal.carry_pattern-returns-in_ok-carry_patterns-in-Sym
carry_pattern-returns-in_ok-carry_patterns-in-Sym g t c =
    carried_symbol g.C.Carry.read_tree g.C.Carry.made_tree c.args.pattern.now c.in-Sym.symbol c.in-Sym.arguments c.in_ok-carry_patterns-in-Sym.field-0 c.in-Sym.is
    (rw c.as_slice-in-Sym.ensures at c.in_ok-carry_patterns-in-Sym.ensures)

pub carry_pattern-returns-in_ok-carry_patterns-in-Var : goal.carry_pattern-returns-in_ok-carry_patterns-in-Var
carry_pattern-returns-in_ok-carry_patterns-in-Var g t c =
    carried_variable g.C.Carry.read_tree g.C.Carry.made_tree c.args.pattern.now c.in-Var.variable c.in-Var.arguments c.in_ok-carry_patterns-in-Var.field-0 c.in-Var.is
    (rw c.as_slice-in-Var.ensures at c.in_ok-carry_patterns-in-Var.ensures)
