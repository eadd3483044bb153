-- For proofs: the modules that a postfix list needs, operation by operation.
use Rattle.std.specs.Prelude.{ℕ, List, [], ◌∷◌, take}
use Rattle.dk_terms.specs.Postfix.{spelling}
use Rattle.dk_terms.specs.declared.operation.RawOperation.{RawOperation}
use Rattle.dk_terms.specs.declared.operation.RawOperation.TheVariants as operation

-- the module of a qualified name
abbrev pub modules_at : List ℕ → RawOperation → List (List ℕ)
modules_at letters (operation.Qualified s k) = take k (spelling letters s) ∷ []
modules_at letters x = []
