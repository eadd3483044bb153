-- What an equation of two terms is: a binding of a side, the parts of both, or nothing.
use Rattle.std.specs.Prelude.{◌&&◌, Bool, true, false, if◌then◌else◌}
use Rattle.std.proofs.Common.{ℕ, ◌≡◌, Option, Some, None, refl}
use Rattle.dk_model.specs.Trees.{Tree, star, kind, symbol, variable, rule_variable, apply, bare, annotated, product}
use Rattle.dk_model.specs.Signatures.{PlainSignature}
use Rattle.dk_model.specs.Spines.{head, pairs_of}
use Rattle.dk_model.specs.Bindings.{may_bind}
use Rattle.dk_model.specs.Solving.{has_parts, is_rigid_head, binder_of, Equation, binds, parts, clash, nothing, heads_apart, parts_or, binds_or, equation_of}
use Rattle.typing_model.specs.Derivations.{Equations, HaveParts}

pub data BindsSide (t u : Tree) (k : ℕ) (x : Tree) : Type 0 where
  binds_left : t ≡ rule_variable k → u ≡ x → may_bind k x ≡ true → BindsSide t u k x
  binds_right : u ≡ rule_variable k → t ≡ x → may_bind k x ≡ true → BindsSide t u k x

module _ (S : PlainSignature) where
  abbrev pub IsEquation : Tree → Tree → Equation → Type 0
  IsEquation t u (binds k x) = BindsSide t u k x
  IsEquation t u (parts ps) = HaveParts S t u ps
  IsEquation t u clash = Unit {0}
  IsEquation t u nothing = Unit {0}

  left_if : (t u : Tree) (k : ℕ) (e : Equation) (b : Bool) → may_bind k u ≡ b → t ≡ rule_variable k → IsEquation t u e → IsEquation t u (binds_or e u (if b then Some k else None))
  left_if t u k e true q i h = binds_left i refl q
  left_if t u k e false q i h = h

  left_is : (t u : Tree) (e : Equation) → IsEquation t u e → IsEquation t u (binds_or e u (binder_of t u))
  left_is (rule_variable k) u e h = left_if (rule_variable k) u k e (may_bind k u) refl refl h
  left_is star u e h = h
  left_is kind u e h = h
  left_is (symbol k) u e h = h
  left_is (variable k) u e h = h
  left_is (apply f a) u e h = h
  left_is (bare b) u e h = h
  left_is (annotated n b) u e h = h
  left_is (product a b) u e h = h

  right_if : (t u : Tree) (k : ℕ) (e : Equation) (b : Bool) → may_bind k t ≡ b → u ≡ rule_variable k → IsEquation t u e → IsEquation t u (binds_or e t (if b then Some k else None))
  right_if t u k e true q i h = binds_right i refl q
  right_if t u k e false q i h = h

  right_is : (t u : Tree) (e : Equation) → IsEquation t u e → IsEquation t u (binds_or e t (binder_of u t))
  right_is t (rule_variable k) e h = right_if t (rule_variable k) k e (may_bind k t) refl refl h
  right_is t star e h = h
  right_is t kind e h = h
  right_is t (symbol k) e h = h
  right_is t (variable k) e h = h
  right_is t (apply f a) e h = h
  right_is t (bare b) e h = h
  right_is t (annotated n b) e h = h
  right_is t (product a b) e h = h

  apart_is : (t u : Tree) (b : Bool) → IsEquation t u (heads_apart b)
  apart_is t u true = tt
  apart_is t u false = tt

  parts_if : (t u : Tree) (e : Equation) (b : Bool) (o : Option Equations) → has_parts S (head t) ≡ b → pairs_of t u ≡ o → IsEquation t u e → IsEquation t u (parts_or e (if b then o else None))
  parts_if t u e false o q i h = h
  parts_if t u e true None q i h = h
  parts_if t u e true (Some ps) q i h = (q, i)

  pub equation_is : (t u : Tree) → IsEquation t u (equation_of S t u)
  equation_is t u = left_is t u _ (right_is t u _ (parts_if t u (heads_apart (is_rigid_head S (head t) && is_rigid_head S (head u))) (has_parts S (head t)) (pairs_of t u) refl refl (apart_is t u _)))
