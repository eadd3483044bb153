-- For proofs: applications along their arguments.
use Rattle.std.specs.Prelude.{ℕ, List, [], ◌∷◌}
use Rattle.dk_model.specs.Trees.{Tree}
use Rattle.dk_model.specs.Signatures.{PlainSignature}
pub use Rattle.dk_model.specs.Winding.{wound, is_application, size, total_size}
use Rattle.dk_model.specs.Typing.{Judged, answer, next, application_type, inferred, checked, as_star}

module _ (S : PlainSignature) (V G : List Tree) where
  -- the type of `f a` where `f` has the type F
  abbrev pub argument_type : Tree → Tree → ℕ → Judged Tree
  argument_type a F n = application_type S (checked S V G a) a F n

  -- the type of a head of type F applied to the arguments of a stack, the first one on top
  abbrev pub along : List Tree → Tree → ℕ → Judged Tree
  along [] F n = answer F n
  along (x ∷ xs) F n = next (along xs F n) (application_type S (checked S V G x) x)

  -- that a domain has the type `Type`
  abbrev pub domain_fits : Tree → ℕ → Judged (Unit {0})
  domain_fits d n = next (inferred S V G d n) (as_star S)
