-- For callers: each symbol is found in its module by the name with which it was declared.
use Rattle.std.specs.Prelude.{◌≡◌, ℕ, Some, length}
use Rattle.std.specs.Map.{lookup}
use Rattle.scope_terms.specs.Scopes.{Module, Spelling, Symbols, numbers_in, same_spelling, spelling_of}

-- a name for each number, and the names are found with their numbers
pub record AreFound (symbols : Symbols) : Type 0 where
  pub numbered : length symbols.spelt ≡ symbols.count
  pub found : (k : ℕ) (m : Module) (x : Spelling) → spelling_of symbols k ≡ Some (m, x) → lookup (same_spelling x) (numbers_in symbols m) ≡ Some k
