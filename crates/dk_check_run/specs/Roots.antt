-- For proofs: what is handed over to be read.
use Rattle.std.specs.Prelude.{◌≡◌, ℕ, List}
use Rattle.std.specs.String.{string_bytes}
use Rattle.dk_model.specs.declared.limits.Limits.{Limits}
use Rattle.theory_walk.specs.declared.needs.ModuleLimits.{ModuleLimits}
use Rattle.theory_walk.specs.BookNames.{own_module}
use Rattle.book_reader.specs.declared.walker.Root.{Root}

-- the file of this name is to be read, within these limits
pub record IsRootOf (limits : Limits) (most : ModuleLimits) (file : List ℕ) (root : Root) : Type 0 where
  pub limits_are : root.limits ≡ limits
  pub most_are : root.most ≡ most
  pub file_is : string_bytes root.file ≡ file
  pub own_is : root.own ≡ own_module file
