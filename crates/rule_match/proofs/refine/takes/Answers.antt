use Rattle.rule_match.proofs.Refining.{takes_symbol, takes_variable}
use Rattle.rule_match.proofs.refine.takes.Goals as goal

pub returns-in-Sym : goal.returns-in-Sym
returns-in-Sym c = takes_symbol c.args.key c.args.pattern.now c.in-Sym.k c.len.result c.in-Sym.patterns c.is_symbol.result c.in-Sym.is c.len.ensures c.is_symbol.ensures

pub returns-in-Var : goal.returns-in-Var
returns-in-Var c = takes_variable c.args.key c.args.pattern.now c.in-Var.k c.len-in-Var.result c.in-Var.patterns c.is_variable.result c.in-Var.is c.len-in-Var.ensures c.is_variable.ensures
