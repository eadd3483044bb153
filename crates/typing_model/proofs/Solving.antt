-- What solving with units answers resolves the equation.
use Rattle.std.specs.Prelude.{◌&&◌, Bool, true, false, if◌then◌else◌}
use Rattle.std.proofs.Common.{List, [], ◌∷◌, ◌++◌, append-nil, ℕ, zero, suc, ◌≡◌, Option, Some, None, refl, sym as flip, subst as along}
use Rattle.dk_model.specs.Trees.{Tree, star, kind, symbol, variable, rule_variable, apply, bare, annotated, product}
use Rattle.dk_model.specs.Signatures.{PlainSignature}
use Rattle.dk_model.specs.Spines.{head, pairs_of}
use Rattle.dk_model.specs.Evaluation.{whnf_of, comparison_of}
use Rattle.dk_model.specs.Bindings.{Bindings, under, bound, may_bind}
use Rattle.dk_model.specs.TypingOver.{JudgedIn, answer}
use Rattle.dk_model.specs.Solving.{Solver, has_parts, is_rigid_head, binder_of, rigid_parts, Equation, binds, parts, clash, nothing, heads_apart, parts_or, binds_or, equation_of, each_solved, equation_solved, heads_solved, unless_same, solved_with, solved}
use Rattle.typing_model.specs.Steps.{ReducesTo}
use Rattle.typing_model.specs.Derivations.{Equations, Binds, left_binds, right_binds, HaveParts, Resolves, resolved, dropped, replaced, binding}
use Rattle.typing_model.specs.Laws.{WhnfReduces}
use Rattle.typing_model.proofs.Typing.{from_after, from_next}
use Rattle.typing_model.proofs.Resolving.{resolves_then}

-- ---- what an equation is

pub data BindsSide (t u : Tree) (k : ℕ) (x : Tree) : Type 0 where
  binds_left : t ≡ rule_variable k → u ≡ x → may_bind k x ≡ true → BindsSide t u k x
  binds_right : u ≡ rule_variable k → t ≡ x → may_bind k x ≡ true → BindsSide t u k x

module _ (S : PlainSignature) where
  abbrev IsEquation : Tree → Tree → Equation → Type 0
  IsEquation t u (binds k x) = BindsSide t u k x
  IsEquation t u (parts ps) = HaveParts S t u ps
  IsEquation t u clash = Unit {0}
  IsEquation t u nothing = Unit {0}

  left_if : (t u : Tree) (k : ℕ) (e : Equation) (b : Bool) → may_bind k u ≡ b → t ≡ rule_variable k → IsEquation t u e → IsEquation t u (binds_or e u (if b then Some k else None))
  left_if t u k e true q i h = binds_left i refl q
  left_if t u k e false q i h = h

  left_is : (t u : Tree) (e : Equation) → IsEquation t u e → IsEquation t u (binds_or e u (binder_of t u))
  left_is (rule_variable k) u e h = left_if (rule_variable k) u k e (may_bind k u) refl refl h
  left_is star u e h = h
  left_is kind u e h = h
  left_is (symbol k) u e h = h
  left_is (variable k) u e h = h
  left_is (apply f a) u e h = h
  left_is (bare b) u e h = h
  left_is (annotated n b) u e h = h
  left_is (product a b) u e h = h

  right_if : (t u : Tree) (k : ℕ) (e : Equation) (b : Bool) → may_bind k t ≡ b → u ≡ rule_variable k → IsEquation t u e → IsEquation t u (binds_or e t (if b then Some k else None))
  right_if t u k e true q i h = binds_right i refl q
  right_if t u k e false q i h = h

  right_is : (t u : Tree) (e : Equation) → IsEquation t u e → IsEquation t u (binds_or e t (binder_of u t))
  right_is t (rule_variable k) e h = right_if t (rule_variable k) k e (may_bind k t) refl refl h
  right_is t star e h = h
  right_is t kind e h = h
  right_is t (symbol k) e h = h
  right_is t (variable k) e h = h
  right_is t (apply f a) e h = h
  right_is t (bare b) e h = h
  right_is t (annotated n b) e h = h
  right_is t (product a b) e h = h

  apart_is : (t u : Tree) (b : Bool) → IsEquation t u (heads_apart b)
  apart_is t u true = tt
  apart_is t u false = tt

  parts_if : (t u : Tree) (e : Equation) (b : Bool) (o : Option Equations) → has_parts S (head t) ≡ b → pairs_of t u ≡ o → IsEquation t u e → IsEquation t u (parts_or e (if b then o else None))
  parts_if t u e false o q i h = h
  parts_if t u e true None q i h = h
  parts_if t u e true (Some ps) q i h = (q, i)

  equation_is : (t u : Tree) → IsEquation t u (equation_of S t u)
  equation_is t u = left_is t u _ (right_is t u _ (parts_if t u (heads_apart (is_rigid_head S (head t) && is_rigid_head S (head u))) (has_parts S (head t)) (pairs_of t u) refl refl (apart_is t u _)))

  -- ---- what is solved

  -- ---- what is answered

  drop_resolves : (s : Bindings) (t u : Tree) → Resolves S s ((t, u) ∷ []) s
  drop_resolves s t u = dropped t u [] [] resolved

  along_resolves : (s r q : Bindings) (E : Equations) (n m : ℕ) → answer r n ≡ answer q m → Resolves S s E r → Resolves S s E q
  along_resolves s r q E n m e h = let i : r ≡ q = cc in along (Resolves S s E) i h

  module _ (W : WhnfReduces S) where
    -- what Q answers for a pair
    abbrev IsSolver : Solver → Type 0
    IsSolver Q = (s : Bindings) (t u : Tree) (n m : ℕ) (r : Bindings) → Q s t u n ≡ answer r m → Resolves S s ((t, u) ∷ []) r

    each_resolves : (Q : Solver) → IsSolver Q → (ps : Equations) (s : Bindings) (n m : ℕ) (r : Bindings) → each_solved Q ps s n ≡ answer r m → Resolves S s ps r
    each_resolves Q h [] s n m r e = along_resolves s s r [] n m e resolved
    each_resolves Q h (p ∷ ps) s n m r e = from_next (Resolves S s (p ∷ ps) r) (Q s p.0 p.1 n) _ r m e (λ q j e1 g.
        resolves_then S ps (h s p.0 p.1 n j q e1) (each_resolves Q h ps q j m r g))

    module _ (Q : Solver) (h : IsSolver Q) (s : Bindings) (t u v w : Tree) (rt : ReducesTo S (under s t) v) (ru : ReducesTo S (under s u) w) where
      side_resolves : (k : ℕ) (x : Tree) → BindsSide (under s v) (under s w) k x → Resolves S s ((t, u) ∷ []) (bound s k x)
      side_resolves k x (binds_left i j may) = binding t u v w [] [] rt ru
          (along (λ z. Binds s z (under s w) (bound s k x)) (flip i) (along (λ z. Binds s (rule_variable k) z (bound s k x)) (flip j) (left_binds k may))) resolved
      side_resolves k x (binds_right i j may) = binding t u v w [] [] rt ru
          (along (λ z. Binds s (under s v) z (bound s k x)) (flip i) (along (λ z. Binds s z (rule_variable k) (bound s k x)) (flip j) (right_binds k may))) resolved

      equation_resolves : (e : Equation) (n m : ℕ) (r : Bindings) → IsEquation (under s v) (under s w) e → equation_solved Q s e n ≡ answer r m → Resolves S s ((t, u) ∷ []) r
      equation_resolves (binds k x) n m r i e = along_resolves s (bound s k x) r ((t, u) ∷ []) n m e (side_resolves k x i)
      equation_resolves (parts ps) n m r i e = replaced t u v w [] [] rt ru i (along (λ z. Resolves S s z r) (flip (append-nil ps)) (each_resolves Q h ps s n m r e))
      equation_resolves clash n m r i e = cc
      equation_resolves nothing n m r i e = along_resolves s s r ((t, u) ∷ []) n m e (drop_resolves s t u)

    heads_resolve : (Q : Solver) → IsSolver Q → IsSolver (heads_solved S Q)
    heads_resolve Q h s t u n m r e = from_after (Resolves S s ((t, u) ∷ []) r) (whnf_of S n (under s t)) _ r m e (λ v e1 g.
        from_after (Resolves S s ((t, u) ∷ []) r) (whnf_of S v.1 (under s u)) _ r m g (λ w e2 g'.
        equation_resolves Q h s t u v.0 w.0 (W n v.1 (under s t) v.0 e1) (W v.1 w.1 (under s u) w.0 e2)
        (equation_of S (under s v.0) (under s w.0)) w.1 m r (equation_is (under s v.0) (under s w.0)) g'))

    unless_resolves : (x : JudgedIn ℕ Bindings) (s : Bindings) (t u : Tree) (b : Bool) (n m : ℕ) (r : Bindings) → (x ≡ answer r m → Resolves S s ((t, u) ∷ []) r)
        → unless_same x s b n ≡ answer r m → Resolves S s ((t, u) ∷ []) r
    unless_resolves x s t u true n m r h e = along_resolves s s r ((t, u) ∷ []) n m e (drop_resolves s t u)
    unless_resolves x s t u false n m r h e = h e

    with_resolves : (f : ℕ) → IsSolver (solved_with f S)
    with_resolves zero s t u n m r e = cc
    with_resolves (suc f) s t u n m r e = from_after (Resolves S s ((t, u) ∷ []) r) (comparison_of S n (under s t) (under s u)) _ r m e (λ b e1 g.
        unless_resolves (heads_solved S (solved_with f S) s t u b.1) s t u b.0 b.1 m r (λ x. heads_resolve (solved_with f S) (with_resolves f) s t u b.1 m r x) g)

    pub solved_resolves : IsSolver (solved S)
    solved_resolves s t u n m r e = with_resolves n s t u n m r e
