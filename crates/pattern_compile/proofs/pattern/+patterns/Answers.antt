use Rattle.std.proofs.Common.{◌≤◌, ap, sym, arith}
use Rattle.std.specs.Prelude.{Some}
use Rattle.dk_model.specs.Scoping.{plain_left}
use Rattle.pattern_compile.specs.Patterns.{plain_patterns}
use Rattle.pattern_compile.proofs.Rowed.{symbol_is, variable_is}
use Rattle.pattern_compile.proofs.Heads.{left_size, head_size, pattern_by, no_pattern_by}
use Rattle.pattern_compile.proofs.pattern.+patterns.Goals as goal

pub applied-returns-in-Sym : goal.applied-returns-in-Sym
applied-returns-in-Sym t c = rw c.in-Sym.is (ap Some (sym (symbol_is c.in-Sym.symbol c.args.arguments)))

pub applied-returns-in-Var : goal.applied-returns-in-Var
applied-returns-in-Var t c = rw c.in-Var.is (ap Some (sym (variable_is c.in-Var.variable c.args.arguments)))

pub pattern-applied-requires : goal.pattern-applied-requires
pattern-applied-requires t c =
    let s : left_size (plain_left c.head.result.now) ≤ left_size (plain_left c.args.left.now) = rw c.head.ensures.value (head_size (plain_left c.args.left.now)) in
    (omega (arith, s, c.decreases), c.head.ensures.alone)

pub pattern-returns-in-Some : goal.pattern-returns-in-Some
pattern-returns-in-Some t c =
    let by = pattern_by c.args.vars (plain_left c.args.left.now) (plain_patterns c.in-Some.arguments) (rw c.in-Some.is at c.in_ok-arguments.ensures) in
    rw by (rw c.head.ensures.value at c.applied.ensures)

pub pattern-returns-in-None : goal.pattern-returns-in-None
pattern-returns-in-None t c =
    no_pattern_by c.args.vars (plain_left c.args.left.now) (rw c.in-None.is at c.in_ok-arguments.ensures)
