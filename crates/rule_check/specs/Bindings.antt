-- For proofs: terms under what rule variables are bound to.
use Rattle.std.specs.Prelude.{ℕ, zero, suc, ◌≡◌, ◌<◌, List, [], ◌∷◌, Option, Some, None, true, false}
use Rattle.dk_model.specs.Trees.{Tree}
use Rattle.dk_model.specs.Bounds.{IsClosedAt}
use Rattle.dk_model.specs.Captures.{capture_at}
use Rattle.dk_model.specs.Signatures.{maybe_by}
use Rattle.dk_model.specs.Bindings.{Bindings as PlainBindings, under_option, bound, mentions_rule_variable}
use Rattle.signature_log.specs.Reducers.{OwnsSome, OwnsSomes}
use Rattle.rule_check.specs.declared.found.Bindings.{Bindings}
use Rattle.rule_check.specs.Levels.{IsFree}
use Rattle.rule_check.specs.Founds.{types_of, terms_of, OwnsBindings}

-- the list with this at a place
abbrev pub with_term : {T : Type 0} → List (Option T) → ℕ → T → List (Option T)
with_term [] zero t = Some t ∷ []
with_term [] (suc k) t = None ∷ with_term [] k t
with_term (o ∷ os) zero t = Some t ∷ os
with_term (o ∷ os) (suc k) t = o ∷ with_term os k t

module _ {R T : Type 0} (owns : R → T → Type 0) (denotes : R → T → Tree) where
  -- these terms
  pub record ArePut (s : PlainBindings) (r : R) (ps : List (Option T)) : Type 0 where
    pub same : types_of denotes r ps ≡ s
    pub own : OwnsSomes owns r ps

  -- that the rule variable may be bound to the term: it isn't bound, the term doesn't mention it nor any that is, and is closed
  pub record MayBind (r : R) (b : Bindings T) (k : ℕ) (t : T) : Type 0 where
    pub own : owns r t
    pub closed : IsClosedAt 0 (denotes r t)
    pub free : IsFree (terms_of denotes r b) (denotes r t)
    pub unbound : capture_at (terms_of denotes r b) k ≡ None
    pub without : mentions_rule_variable k (denotes r t) ≡ false

  module _ (old : R) where
    -- a term with these in the place of rule variables, where there is one
    pub record IsSomeUnder (ts : List (Option T)) (o : Option Tree) (r : R) (p : Option T) : Type 0 where
      pub same : maybe_by (denotes r) p ≡ under_option (types_of denotes old ts) o
      pub own : OwnsSome owns r p

    -- the same bindings
    pub record IsStill (b : Bindings T) (r : R) (d : Bindings T) : Type 0 where
      pub same : terms_of denotes r d ≡ terms_of denotes old b
      pub own : OwnsBindings owns denotes r d

    -- the same bindings, of which none in the last level mentions the rule variable
    pub record HasRoom (b : Bindings T) (k : ℕ) (r : R) (d : Bindings T) : Type 0 where
      pub same : terms_of denotes r d ≡ terms_of denotes old b
      pub own : OwnsBindings owns denotes r d
      pub above : (j : ℕ) (u : Tree) → capture_at (types_of denotes r d.terms.items) j ≡ Some u → mentions_rule_variable k u ≡ true → 0 < own.levels.rank j

    -- a further rule variable is bound
    pub record IsBound (b : Bindings T) (k : ℕ) (t : T) (r : R) (d : Bindings T) : Type 0 where
      pub same : terms_of denotes r d ≡ bound (terms_of denotes old b) k (denotes old t)
      pub own : OwnsBindings owns denotes r d
