-- For proofs: the type of a function that has been applied, with arguments that are still to be put into it.
use Rattle.std.specs.Prelude.{ℕ, ◌≡◌, Result, Ok, Err, map}
use Rattle.dk_model.specs.Trees.{Tree}
use Rattle.dk_model.specs.Typing.{Judged, answer}
use Rattle.dk_model.specs.declared.stop.TypeFault.{TypeFault}
use Rattle.shared_term.specs.Changes.{substitute_all}
use Rattle.signature_log.specs.Reducers.{AreOwned}
use Rattle.infer_check.specs.declared.applied.Applied.{Applied}
use Rattle.infer_check.specs.declared.applied.Function.{Function}
use Rattle.infer_check.specs.Given.{Fails}

module _ {R T : Type 0} (owns : R → T → Type 0) (denotes : R → T → Tree) where
  -- the type with its arguments put in, under so many binders
  abbrev pub put_together : R → ℕ → Applied T → Tree
  put_together r depth a = substitute_all depth (map (denotes r) a.arguments.items) (denotes r a.typ)

  -- that its parts are the reducer's
  pub record OwnsApplied (r : R) (a : Applied T) : Type 0 where
    pub typ : owns r a.typ
    pub arguments : AreOwned owns r a.arguments.items

  -- such a type of the reducer's, with the units left
  abbrev pub GivesApplied : Judged Tree → R → Result (Applied T) TypeFault → ℕ → Type 0
  GivesApplied due r (Ok a) left = (due ≡ answer (put_together r 0 a) left) × OwnsApplied r a
  GivesApplied due r (Err fault) left = Fails fault left due

  -- the two parts of a function's type, with the units left
  abbrev pub GivesFunction : Judged (Tree × Tree) → R → Result (Function T) TypeFault → ℕ → Type 0
  GivesFunction due r (Ok f) left = (due ≡ answer (denotes r f.domain, put_together r 1 f.codomain) left) × owns r f.domain × OwnsApplied r f.codomain
  GivesFunction due r (Err fault) left = Fails fault left due
