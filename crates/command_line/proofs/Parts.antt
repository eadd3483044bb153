-- What is put together, step by step.
use Rattle.std.proofs.Common.{◌≡◌, IfOk, Bool, true, false, not, ◌&&◌, refl, subst}
use Rattle.std.specs.declared.result.Result.{Result}
use Rattle.clap.specs.Words.{App, Rule, with_rule}
use Rattle.clap.specs.declared.builder.command.Command.{Command}
use Rattle.command_line.specs.Parts.{IsApp}

-- the third condition of a command that is plain
pub third : (x y g r : Bool) → (x && (not y && (not g && r))) ≡ true → g ≡ false
third true false false r h = refl
third true false true r h = cc
third true true g r h = cc
third false y g r h = cc

-- the same with an argument that was told otherwise
pub told : {E : Type 0} (made : Result Command E) (a : App) (s t : Rule) → s ≡ t
    → IfOk made (IsApp (with_rule a s)) → IfOk made (IsApp (with_rule a t))
told made a s t e h = subst (λ (u : Rule). IfOk made (IsApp (with_rule a u))) e h
