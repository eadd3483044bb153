-- Trusted: what a pruned text is as a file (docs/pruning.md).
use Rattle.std.specs.Prelude.{◌≡◌, ℕ, List}
use Rattle.dk_model.specs.declared.limits.Limits.{Limits}
use Rattle.scope_terms.specs.Scopes.{Module}
use Rattle.text_law.specs.Texts.{forms_of}
use Rattle.prune_theory.specs.Resting.{picked}
use Rattle.prune_file.specs.Files.{IsAccepted, commands_in}
use Rattle.prune_file.specs.Pruned.{IsPruned}

-- what a file is pruned to is accepted by itself: the commands that are kept, each with as many units left as it had
pub record StandsAlone (limits : Limits) (own : Module) (budget : ℕ) (name bytes text : List ℕ) (p : IsPruned limits own budget name bytes text) : Type 0 where
  pub file : IsAccepted limits own budget text
  pub forms_are : forms_of (commands_in file.items) ≡ picked p.keep 0 (forms_of (commands_in p.file.items))
  pub left_is : file.left ≡ picked p.keep 0 p.file.left
