-- For proofs: what a walk has found, as terms, and that its values are a reducer's.
use Rattle.std.specs.Prelude.{ℕ, ◌≡◌, List, [], ◌∷◌, Option, Some, map}
use Rattle.dk_model.specs.Trees.{Tree}
use Rattle.dk_model.specs.Signatures.{maybe_by}
use Rattle.dk_model.specs.Bounds.{IsClosedAt}
use Rattle.dk_model.specs.Captures.{capture_at}
use Rattle.dk_model.specs.Bindings.{under}
use Rattle.dk_model.specs.RuleTyping.{Guard as PlainGuard, Found as PlainFound, types_under}
use Rattle.signature_log.specs.Reducers.{AreOwned, OwnsSome, OwnsSomes}
use Rattle.infer_check.specs.Contexts.{innermost_first}
use Rattle.rule_check.specs.declared.found.Guard.{Guard}
use Rattle.rule_check.specs.declared.found.Found.{Found}
use Rattle.rule_check.specs.declared.found.Bindings.{Bindings}
use Rattle.rule_check.specs.Mentioned.{may_mention}
use Rattle.rule_check.specs.Levels.{resolved, behind_first, AreLevelled}

module _ {R T : Type 0} (denotes : R → T → Tree) (r : R) where
  -- the types of the rule variables
  abbrev pub types_of : List (Option T) → List (Option Tree)
  types_of ts = map (maybe_by (denotes r)) ts

  -- what the rule variables are bound to, with the bindings put into it
  abbrev pub terms_of : Bindings T → List (Option Tree)
  terms_of b = resolved (behind_first b.levels.items) (types_of b.terms.items)

  abbrev pub guard_of : Guard T → PlainGuard
  guard_of g = record { context = innermost_first denotes r g.bound; term = denotes r g.term; typ = denotes r g.typ }

  abbrev pub guards_of : List (Guard T) → List PlainGuard
  guards_of gs = map guard_of gs

  -- what a walk has found
  abbrev pub found_of : Found T → PlainFound
  found_of w = record { types = types_of w.types.items; guards = guards_of w.guards.items; bindings = terms_of w.bindings }

module _ {R T : Type 0} (owns : R → T → Type 0) (r : R) where
  pub record OwnsGuard (g : Guard T) : Type 0 where
    pub bound : AreOwned owns r g.bound
    pub term : owns r g.term
    pub typ : owns r g.typ

  abbrev pub OwnsGuards : List (Guard T) → Type 0
  OwnsGuards [] = Unit {0}
  OwnsGuards (g ∷ gs) = OwnsGuard g × OwnsGuards gs

-- that what rule variables are bound to is closed
abbrev pub AreClosed : List (Option Tree) → Type 0
AreClosed s = (k : ℕ) (u : Tree) → capture_at s k ≡ Some u → IsClosedAt 0 u

module _ {R T : Type 0} (owns : R → T → Type 0) (denotes : R → T → Tree) (r : R) where
  -- that what rule variables are bound to is the reducer's, and closed, mentions only what was bound behind it, and that the
  -- rule variables that stand in it are noted
  pub record OwnsBindings (b : Bindings T) : Type 0 where
    pub own : OwnsSomes owns r b.terms.items
    pub noted : OwnsSome owns r b.mentioned.term
    pub levels : AreLevelled (may_mention denotes r b.mentioned) b.levels.items (types_of denotes r b.terms.items)

  -- that the values of what is found are the reducer's
  pub record OwnsFound (w : Found T) : Type 0 where
    pub types : OwnsSomes owns r w.types.items
    pub guards : OwnsGuards owns r w.guards.items
    pub bindings : OwnsBindings w.bindings

-- only what rule variables are bound to is another
pub record IsRebound {T : Type 0} (w v : Found T) : Type 0 where
  pub types : v.types ≡ w.types
  pub guards : v.guards ≡ w.guards

-- the types of all rule variables under the bindings, `Kind` for one without
pub record AreAllTypes {R T : Type 0} (owns : R → T → Type 0) (denotes : R → T → Tree) (old : R) (w : Found T) (r : R) (ts : List T) : Type 0 where
  pub same : map (denotes r) ts ≡ types_under (terms_of denotes old w.bindings) (types_of denotes old w.types.items)
  pub own : AreOwned owns r ts

module _ {R T : Type 0} (owns : R → T → Type 0) (denotes : R → T → Tree) (old : R) (b : Bindings T) where
  -- types under bindings
  pub record AreTypesUnder (ts : List T) (r : R) (us : List T) : Type 0 where
    pub same : map (denotes r) us ≡ map (under (terms_of denotes old b)) (map (denotes old) ts)
    pub own : AreOwned owns r us

  -- a guard under bindings
  pub record IsGuardUnder (g : Guard T) (r : R) (h : Guard T) : Type 0 where
    pub context : innermost_first denotes r h.bound ≡ map (under (terms_of denotes old b)) (innermost_first denotes old g.bound)
    pub term : denotes r h.term ≡ under (terms_of denotes old b) (denotes old g.term)
    pub typ : denotes r h.typ ≡ under (terms_of denotes old b) (denotes old g.typ)
    pub own : OwnsGuard owns r h
