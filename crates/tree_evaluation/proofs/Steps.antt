-- The steps of an evaluation: what is due at a call is what is due at the call that it goes on with.
use Rattle.std.proofs.Common.{◌≡◌, ℕ, suc, Some, None, true, false, ap, ◌∙◌}
use Rattle.dk_model.specs.Trees.{Tree}
use Rattle.dk_model.specs.Substitution.{equal}
use Rattle.dk_model.specs.Signatures.{PlainSignature}
use Rattle.dk_model.specs.Units.{Units, bind}
use Rattle.dk_model.specs.Spines.{contraction, head_symbol}
use Rattle.dk_model.specs.Parts.{each_normal}
use Rattle.dk_model.specs.Evaluation.{whnf_of, comparison_of, normal_of, columns, rows}
use Rattle.dk_model.specs.Equations.{selection_of, after_selection, heads_compared}
use Rattle.dk_model.proofs.Turns.{whnf_contracts, whnf_stands, whnf_selects, comparison_is, normal_is}

pub bind_none : {A B : Type 0} (x : Units A) (g : A → ℕ → Units B) → x ≡ None → bind x g ≡ None
bind_none x g e = ap (λ y. bind y g) e

pub bind_some : {A B : Type 0} (x : Units A) (g : A → ℕ → Units B) (a : A) (n : ℕ) → x ≡ Some (a, n) → bind x g ≡ g a n
bind_some x g a n e = ap (λ y. bind y g) e

module _ (S : PlainSignature) where
  pub whnf_out : (n : ℕ) (t : Tree) → n ≡ 0 → whnf_of S n t ≡ None
  whnf_out n t e = ap (λ m. whnf_of S m t) e

  pub comparison_out : (n : ℕ) (t u : Tree) → n ≡ 0 → comparison_of S n t u ≡ None
  comparison_out n t u e = ap (λ m. comparison_of S m t u) e

  pub normal_out : (n : ℕ) (t : Tree) → n ≡ 0 → normal_of S n t ≡ None
  normal_out n t e = ap (λ m. normal_of S m t) e

  pub turn_contracts : (n m : ℕ) (t t' : Tree) → n ≡ suc m → contraction t ≡ Some t' → whnf_of S n t ≡ whnf_of S m t'
  turn_contracts n m t t' l e = ap (λ k. whnf_of S k t) l ∙ whnf_contracts S m t t' e

  pub turn_stands : (n m : ℕ) (t : Tree) → n ≡ suc m → contraction t ≡ None → head_symbol t ≡ None → whnf_of S n t ≡ Some (t, m)
  turn_stands n m t l e q = ap (λ k. whnf_of S k t) l ∙ whnf_stands S m t e q

  pub turn_selects : (n m k : ℕ) (t : Tree) → n ≡ suc m → contraction t ≡ None → head_symbol t ≡ Some k
      → whnf_of S n t ≡ bind (selection_of S m (columns S k t) (rows S k t)) (after_selection S t)
  turn_selects n m k t l e q = ap (λ j. whnf_of S j t) l ∙ whnf_selects S m t k e q

  pub both_equal : (n m : ℕ) (t u : Tree) → n ≡ suc m → equal t u ≡ true → comparison_of S n t u ≡ Some (true, m)
  both_equal n m t u l e = ap (λ k. comparison_of S k t u) l ∙ comparison_is S m t u ∙ simp e

  unequal : (n m : ℕ) (t u : Tree) → n ≡ suc m → equal t u ≡ false
      → comparison_of S n t u ≡ bind (whnf_of S m t) (λ t' n1. bind (whnf_of S n1 u) (heads_compared S t'))
  unequal n m t u l e = ap (λ k. comparison_of S k t u) l ∙ comparison_is S m t u ∙ simp e

  by_weak : (n m : ℕ) (t : Tree) → n ≡ suc m → normal_of S n t ≡ bind (whnf_of S m t) (each_normal (normal_of S))
  by_weak n m t l = ap (λ k. normal_of S k t) l ∙ normal_is S m t

  pub first_ends : (n m : ℕ) (t u : Tree) → n ≡ suc m → equal t u ≡ false → whnf_of S m t ≡ None → comparison_of S n t u ≡ None
  first_ends n m t u l e q = unequal n m t u l e ∙ bind_none (whnf_of S m t) (λ t' n1. bind (whnf_of S n1 u) (heads_compared S t')) q

  pub second_ends : (n m n1 : ℕ) (t u t' : Tree) → n ≡ suc m → equal t u ≡ false → whnf_of S m t ≡ Some (t', n1) → whnf_of S n1 u ≡ None → comparison_of S n t u ≡ None
  second_ends n m n1 t u t' l e q r = unequal n m t u l e ∙ bind_some (whnf_of S m t) (λ t' n1. bind (whnf_of S n1 u) (heads_compared S t')) t' n1 q ∙ bind_none (whnf_of S n1 u) (heads_compared S t') r

  pub by_heads : (n m n1 n2 : ℕ) (t u t' u' : Tree) → n ≡ suc m → equal t u ≡ false → whnf_of S m t ≡ Some (t', n1) → whnf_of S n1 u ≡ Some (u', n2)
      → comparison_of S n t u ≡ heads_compared S t' u' n2
  by_heads n m n1 n2 t u t' u' l e q r = unequal n m t u l e ∙ bind_some (whnf_of S m t) (λ t' n1. bind (whnf_of S n1 u) (heads_compared S t')) t' n1 q ∙ bind_some (whnf_of S n1 u) (heads_compared S t') u' n2 r

  pub normal_ends : (n m : ℕ) (t : Tree) → n ≡ suc m → whnf_of S m t ≡ None → normal_of S n t ≡ None
  normal_ends n m t l e = by_weak n m t l ∙ bind_none (whnf_of S m t) (each_normal (normal_of S)) e

  pub normal_goes : (n m j : ℕ) (t v : Tree) → n ≡ suc m → whnf_of S m t ≡ Some (v, j) → normal_of S n t ≡ each_normal (normal_of S) v j
  normal_goes n m j t v l e = by_weak n m t l ∙ bind_some (whnf_of S m t) (each_normal (normal_of S)) v j e
