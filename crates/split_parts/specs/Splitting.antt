-- For callers: an application typed by parts, each with the whole budget.
use Rattle.std.specs.Prelude.{ℕ, List, [], ◌∷◌}
use Rattle.dk_model.specs.PlainTerms.{Tree, apply}
use Rattle.dk_model.specs.PlainEntries.{PlainSignature}
use Rattle.dk_model.specs.Erasure.{erased}
use Rattle.dk_model.specs.Substitution.{substitute}
use Rattle.dk_model.specs.declared.code.Code.TheVariants.{E20}
use Rattle.dk_model.specs.Typing.{Judged, answer, as_product, inferred, checked}
use Rattle.split_parts.specs.Parts.{part}
use Rattle.split_parts.specs.declared.part.PartResult.{PartResult}

-- a head applied to arguments, of which the first stands first
abbrev pub applied : Tree → List Tree → Tree
applied h [] = h
applied h (a ∷ rest) = applied (apply h a) rest

-- what goes on where there is an answer
abbrev pub where_answered : {A B : Type 0} → Judged A → (A → B) → B → B
where_answered (answer a n) f none = f a
where_answered x f none = none

module _ (S : PlainSignature) (V G : List Tree) (budget : ℕ) where
  -- the arguments behind a function of type F: the function's type, then the argument, and so on, up to the first type
  -- that isn't a product
  abbrev pub argument_steps : List Tree → Tree → List PartResult
  argument_steps [] F = []
  argument_steps (a ∷ rest) F = part budget (as_product S E20 F budget) ∷
      where_answered (as_product S E20 F budget) (λ p. part budget (checked S V G a p.0 budget) ∷ argument_steps rest (substitute 0 (erased a) p.1)) []

  -- the head, then the arguments
  abbrev pub application_steps : Tree → List Tree → List PartResult
  application_steps h rest = part budget (inferred S V G h budget) ∷ where_answered (inferred S V G h budget) (argument_steps rest) []

  abbrev pub applied_typ : List Tree → Tree → Tree
  applied_typ [] F = F
  applied_typ (a ∷ rest) F = where_answered (as_product S E20 F budget) (λ p. applied_typ rest (substitute 0 (erased a) p.1)) F

  -- the type of the whole
  abbrev pub application_typ : Tree → List Tree → Tree
  application_typ h rest = where_answered (inferred S V G h budget) (applied_typ rest) h
