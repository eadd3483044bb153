use Rattle.std.proofs.Common.{refl}
use Rattle.std.specs.Prelude.{IsTrue, false}
use Rattle.pattern_compile.proofs.Variables.{no_arguments, some_arguments}
use Rattle.pattern_compile.proofs.pattern.as_variable.Goals as goal

pub returns-then-is_empty : goal.returns-then-is_empty
returns-then-is_empty c =
    no_arguments c.args.pattern.now c.in-Var.variable c.in-Var.arguments c.in-Var.is (c.if-is_empty.ensures.0 refl)

pub returns-else-is_empty : goal.returns-else-is_empty
returns-else-is_empty c =
    some_arguments c.args.pattern.now c.in-Var.variable c.in-Var.arguments c.in-Var.is (λ e. no_false (c.if-is_empty.ensures.1 e))
  where
    no_false : IsTrue false → ⊥
    no_false e = cc
