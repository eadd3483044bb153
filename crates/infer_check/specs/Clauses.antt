-- For proofs: what each step of typing gives.
use Rattle.std.specs.Prelude.{ℕ, Result}
use Rattle.dk_model.specs.Trees.{Tree}
use Rattle.dk_model.specs.Signatures.{PlainSignature}
use Rattle.dk_model.specs.Typing.{inferred, checked, sort_of}
use Rattle.dk_model.specs.declared.stop.TypeFault.{TypeFault}
use Rattle.infer_check.specs.declared.walk.Walk.{Walk}
use Rattle.infer_check.specs.Contexts.{rule_types, bound_types}
use Rattle.infer_check.specs.declared.applied.Applied.{Applied}
use Rattle.infer_check.specs.Given.{GivesType, GivesFit}
use Rattle.infer_check.specs.Applied.{GivesApplied}
use Rattle.infer_check.specs.Spine.{argument_type, domain_fits}

-- with the context and the units of a walk
module _ {R T : Type 0} (owns : R → T → Type 0) (denotes : R → T → Tree) (S : PlainSignature) (old : R) (w : Walk T) where
  -- the type of a term
  abbrev pub Infers : Tree → R → Result T TypeFault → ℕ → Type 0
  Infers t new result left = GivesType owns denotes (inferred S (rule_types denotes old w.context) (bound_types denotes old w.context) t w.left) new result left

  -- the sort of a type
  abbrev pub GivesSort : Tree → R → Result T TypeFault → ℕ → Type 0
  GivesSort t new result left = GivesType owns denotes (sort_of S (rule_types denotes old w.context) (bound_types denotes old w.context) t w.left) new result left

  -- that a term fits a type
  abbrev pub Checks : Tree → Tree → Result Unit TypeFault → ℕ → Type 0
  Checks t typ result left = GivesFit (checked S (rule_types denotes old w.context) (bound_types denotes old w.context) t typ w.left) result left

  -- that a domain has the type `Type`
  abbrev pub FitsDomain : Tree → Result Unit TypeFault → ℕ → Type 0
  FitsDomain d result left = GivesFit (domain_fits S (rule_types denotes old w.context) (bound_types denotes old w.context) d w.left) result left

  -- the type of a function's application
  abbrev pub Applies : Tree → Tree → R → Result (Applied T) TypeFault → ℕ → Type 0
  Applies a typ new result left = GivesApplied owns denotes (argument_type S (rule_types denotes old w.context) (bound_types denotes old w.context) a typ w.left) new result left
