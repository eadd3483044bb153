-- Bindings whose terms mention rule variables that are bound, and these put into each other.
use Rattle.std.specs.Prelude.{map, eqb, Bool, true, false, ◌||◌, if◌then◌else◌}
use Rattle.std.proofs.Common.{[], ◌∷◌, ℕ, zero, suc, ◌+◌, ◌≡◌, ◌≢◌, ◌<◌, Option, Some, None, refl, ap, ◌∙◌, sym as flip, subst, arith}
use Rattle.std.proofs.lemmas.Bool.{eqb-true, eq-eqb}
use Rattle.dk_model.specs.Trees.{Tree, star, kind, symbol, variable, rule_variable, apply, bare, annotated, product}
use Rattle.dk_model.specs.Captures.{capture_at}
use Rattle.dk_model.specs.Bindings.{Bindings, bound_or, under, under_option, with_binding, bound, mentions_rule_variable}
use Rattle.dk_model.proofs.Unders.{with_here, with_other, mapped_at}
use Rattle.rule_check.proofs.Marks.{any_left, any_right, by_either}
use Rattle.rule_check.specs.Levels.{rounds, option_rounds, resolved, IsFree, IsRanked}

-- ---- lists

-- two changes of each are one where they agree on what is there
pub each_same : (f g : Option Tree → Option Tree) (s : Bindings) → f None ≡ g None → ((k : ℕ) (u : Tree) → capture_at s k ≡ Some u → f (Some u) ≡ g (Some u)) → map f s ≡ map g s
each_same f g [] n h = refl
each_same f g (None ∷ s) n h = ap (λ o. o ∷ map f s) n ∙ ap (λ (os : Bindings). g None ∷ os) (each_same f g s n (λ k u e. h (suc k) u e))
each_same f g (Some t ∷ s) n h = ap (λ o. o ∷ map f s) (h zero t refl) ∙ ap (λ (os : Bindings). g (Some t) ∷ os) (each_same f g s n (λ k u e. h (suc k) u e))

each_then : (f g : Option Tree → Option Tree) (s : Bindings) → map f (map g s) ≡ map (λ o. f (g o)) s
each_then f g [] = refl
each_then f g (o ∷ s) = ap (λ (os : Bindings). f (g o) ∷ os) (each_then f g s)

pub each_with : (r : Bindings) (s : Bindings) (k : ℕ) (u : Tree) → map (under_option r) (with_binding s k u) ≡ with_binding (map (under_option r) s) k (under r u)
each_with r [] zero u = refl
each_with r [] (suc k) u = ap (λ (os : Bindings). None ∷ os) (each_with r [] k u)
each_with r (o ∷ s) zero u = refl
each_with r (o ∷ s) (suc k) u = ap (λ (os : Bindings). under_option r o ∷ os) (each_with r s k u)

pub with_same : (s : Bindings) (k : ℕ) (u : Tree) → capture_at s k ≡ Some u → with_binding s k u ≡ s
with_same [] k u e = cc
with_same (o ∷ s) zero u e = ap (λ (x : Option Tree). x ∷ s) (flip e)
with_same (o ∷ s) (suc k) u e = ap (λ (os : Bindings). o ∷ os) (with_same s k u e)

pub rounds_at : (s r : Bindings) (n k : ℕ) → capture_at (map (option_rounds r n) s) k ≡ option_rounds r n (capture_at s k)
rounds_at [] r n k = refl
rounds_at (o ∷ s) r n zero = refl
rounds_at (o ∷ s) r n (suc k) = rounds_at s r n k

-- ---- terms that are free

pub free_same : (s : Bindings) (t : Tree) → IsFree s t → under s t ≡ t
free_same s star h = refl
free_same s kind h = refl
free_same s (symbol k) h = refl
free_same s (variable k) h = refl
free_same s (rule_variable k) h = rw h refl
free_same s (apply f a) h = rw (free_same s f h.0, free_same s a h.1) refl
free_same s (bare b) h = ap bare (free_same s b h)
free_same s (annotated n b) h = rw (free_same s n h.0, free_same s b h.1) refl
free_same s (product a b) h = rw (free_same s a h.0, free_same s b h.1) refl

pub free_in : (s r : Bindings) → ((k : ℕ) → capture_at s k ≡ None → capture_at r k ≡ None) → (t : Tree) → IsFree s t → IsFree r t
free_in s r d star h = tt
free_in s r d kind h = tt
free_in s r d (symbol k) h = tt
free_in s r d (variable k) h = tt
free_in s r d (rule_variable k) h = d k h
free_in s r d (apply f a) h = (free_in s r d f h.0, free_in s r d a h.1)
free_in s r d (bare b) h = free_in s r d b h
free_in s r d (annotated n b) h = (free_in s r d n h.0, free_in s r d b h.1)
free_in s r d (product a b) h = (free_in s r d a h.0, free_in s r d b h.1)

itself : (k : ℕ) → mentions_rule_variable k (rule_variable k) ≡ true
itself k = eq-eqb k k refl

none_or : (P : Type 0) (o : Option Tree) → (o ≡ None → P) → ((w : Tree) → o ≡ Some w → P) → P
none_or P None f g = f refl
none_or P (Some w) f g = g w refl

-- a term that mentions none that is bound is free
pub free_where : (s : Bindings) (t : Tree) → ((v : ℕ) (w : Tree) → mentions_rule_variable v t ≡ true → capture_at s v ≡ Some w → ⊥) → IsFree s t
free_where s star h = tt
free_where s kind h = tt
free_where s (symbol k) h = tt
free_where s (variable k) h = tt
free_where s (rule_variable k) h = none_or (capture_at s k ≡ None) (capture_at s k) (λ e. e) (λ w e. absurd (h k w (itself k) e))
free_where s (apply f a) h = (free_where s f (λ v w m e. h v w (any_left (mentions_rule_variable v f) (mentions_rule_variable v a) m) e), free_where s a (λ v w m e. h v w (any_right (mentions_rule_variable v f) (mentions_rule_variable v a) m) e))
free_where s (bare b) h = free_where s b h
free_where s (annotated n b) h = (free_where s n (λ v w m e. h v w (any_left (mentions_rule_variable v n) (mentions_rule_variable v b) m) e), free_where s b (λ v w m e. h v w (any_right (mentions_rule_variable v n) (mentions_rule_variable v b) m) e))
free_where s (product a b) h = (free_where s a (λ v w m e. h v w (any_left (mentions_rule_variable v a) (mentions_rule_variable v b) m) e), free_where s b (λ v w m e. h v w (any_right (mentions_rule_variable v a) (mentions_rule_variable v b) m) e))

-- the converse
pub free_mentions : (s : Bindings) (t : Tree) (v : ℕ) (w : Tree) → IsFree s t → mentions_rule_variable v t ≡ true → capture_at s v ≡ Some w → ⊥
free_mentions s star v w h m e = cc
free_mentions s kind v w h m e = cc
free_mentions s (symbol k) v w h m e = cc
free_mentions s (variable k) v w h m e = cc
free_mentions s (rule_variable k) v w h m e = let q : k ≡ v = eqb-true k v m in let i : None ≡ Some w = flip h ∙ ap (capture_at s) q ∙ e in cc
free_mentions s (apply f a) v w h m e = by_either (⊥) (mentions_rule_variable v f) (mentions_rule_variable v a) m (λ x. free_mentions s f v w h.0 x e) (λ x. free_mentions s a v w h.1 x e)
free_mentions s (bare b) v w h m e = free_mentions s b v w h m e
free_mentions s (annotated n b) v w h m e = by_either (⊥) (mentions_rule_variable v n) (mentions_rule_variable v b) m (λ x. free_mentions s n v w h.0 x e) (λ x. free_mentions s b v w h.1 x e)
free_mentions s (product a b) v w h m e = by_either (⊥) (mentions_rule_variable v a) (mentions_rule_variable v b) m (λ x. free_mentions s a v w h.0 x e) (λ x. free_mentions s b v w h.1 x e)

-- ---- what a term under bindings mentions: what it did, unbound, or what is mentioned by what is bound to one that it did

module _ (s : Bindings) (v : ℕ) (P : Type 0) where
  abbrev pub Stays : Tree → Type 0
  Stays t = mentions_rule_variable v t ≡ true → capture_at s v ≡ None → P

  abbrev pub Comes : Tree → Type 0
  Comes t = (k : ℕ) (u : Tree) → mentions_rule_variable k t ≡ true → capture_at s k ≡ Some u → mentions_rule_variable v u ≡ true → P

  at_variable : (k : ℕ) (o : Option Tree) → capture_at s k ≡ o → Stays (rule_variable k) → Comes (rule_variable k) → mentions_rule_variable v (bound_or k o) ≡ true → P
  at_variable k None e f g m = f m (ap (capture_at s) (flip (eqb-true k v m)) ∙ e)
  at_variable k (Some u) e f g m = g k u (itself k) e m

  abbrev pub Mentioned : Tree → Type 0
  Mentioned t = mentions_rule_variable v (under s t) ≡ true → Stays t → Comes t → P

  both_mention : (a b : Tree) → Mentioned a → Mentioned b → (mentions_rule_variable v (under s a) || mentions_rule_variable v (under s b)) ≡ true
      → ((mentions_rule_variable v a || mentions_rule_variable v b) ≡ true → capture_at s v ≡ None → P)
      → ((k : ℕ) (u : Tree) → (mentions_rule_variable k a || mentions_rule_variable k b) ≡ true → capture_at s k ≡ Some u → mentions_rule_variable v u ≡ true → P) → P
  both_mention a b p q m f g = by_either P (mentions_rule_variable v (under s a)) (mentions_rule_variable v (under s b)) m
      (λ x. p x (λ y. f (any_left (mentions_rule_variable v a) (mentions_rule_variable v b) y)) (λ k u y. g k u (any_left (mentions_rule_variable k a) (mentions_rule_variable k b) y)))
      (λ x. q x (λ y. f (any_right (mentions_rule_variable v a) (mentions_rule_variable v b) y)) (λ k u y. g k u (any_right (mentions_rule_variable k a) (mentions_rule_variable k b) y)))

  pub under_mentions : (t : Tree) → Mentioned t
  under_mentions star m f g = cc
  under_mentions kind m f g = cc
  under_mentions (symbol k) m f g = cc
  under_mentions (variable k) m f g = cc
  under_mentions (rule_variable k) m f g = at_variable k (capture_at s k) refl f g m
  under_mentions (apply x a) m f g = both_mention x a (under_mentions x) (under_mentions a) m f g
  under_mentions (bare b) m f g = under_mentions b m f g
  under_mentions (annotated n b) m f g = both_mention n b (under_mentions n) (under_mentions b) m f g
  under_mentions (product a b) m f g = both_mention a b (under_mentions a) (under_mentions b) m f g

-- ---- bindings put into each other

-- where the one binds nothing that the other doesn't
abbrev pub Within : Bindings → Bindings → Type 0
Within s r = (k : ℕ) → capture_at r k ≡ None → capture_at s k ≡ None

under_or : (s r : Bindings) → Within s r → (k : ℕ) (o : Option Tree) → capture_at r k ≡ o → bound_or k (under_option s o) ≡ under s (bound_or k o)
under_or s r w k None e = flip (ap (bound_or k) (w k e))
under_or s r w k (Some u) e = refl

pub under_mapped : (s r : Bindings) → Within s r → (t : Tree) → under (map (under_option s) r) t ≡ under s (under r t)
under_mapped s r w star = refl
under_mapped s r w kind = refl
under_mapped s r w (symbol k) = refl
under_mapped s r w (variable k) = refl
under_mapped s r w (rule_variable k) = ap (bound_or k) (mapped_at r s k) ∙ under_or s r w k (capture_at r k) refl
under_mapped s r w (apply f a) = rw (under_mapped s r w f, under_mapped s r w a) refl
under_mapped s r w (bare b) = ap bare (under_mapped s r w b)
under_mapped s r w (annotated n b) = rw (under_mapped s r w n, under_mapped s r w b) refl
under_mapped s r w (product a b) = rw (under_mapped s r w a, under_mapped s r w b) refl

some_there : (r : Bindings) (n k : ℕ) (o : Option Tree) → option_rounds r n o ≡ None → o ≡ None
some_there r n k None e = refl
some_there r n k (Some t) e = cc

pub resolved_none : (s : Bindings) (n k : ℕ) → capture_at (resolved n s) k ≡ None → capture_at s k ≡ None
resolved_none s n k e = some_there s n k (capture_at s k) (flip (rounds_at s s n k) ∙ e)

resolved_still : (s : Bindings) (n k : ℕ) → capture_at s k ≡ None → capture_at (resolved n s) k ≡ None
resolved_still s n k e = rounds_at s s n k ∙ ap (option_rounds s n) e

resolved_then : (s : Bindings) (n : ℕ) → resolved (suc n) s ≡ map (under_option s) (resolved n s)
resolved_then s n = each_same (option_rounds s (suc n)) (λ o. under_option s (option_rounds s n o)) s refl (λ k u e. refl) ∙ flip (each_then (under_option s) (option_rounds s n) s)

resolved_first : (s : Bindings) → resolved zero s ≡ s
resolved_first s = each_itself s s
  where
    each_itself : (r s : Bindings) → map (option_rounds r zero) s ≡ s
    each_itself r [] = refl
    each_itself r (None ∷ s) = ap (λ (os : Bindings). None ∷ os) (each_itself r s)
    each_itself r (Some t ∷ s) = ap (λ (os : Bindings). Some t ∷ os) (each_itself r s)

-- a term under the bindings that are put into each other
pub under_resolved : (s : Bindings) (n : ℕ) (t : Tree) → under (resolved n s) t ≡ rounds s (suc n) t
under_resolved s zero t = ap (λ r. under r t) (resolved_first s)
under_resolved s (suc n) t = ap (λ r. under r t) (resolved_then s n) ∙ under_mapped s (resolved n s) (λ k e. resolved_none s n k e) t ∙ ap (under s) (under_resolved s n t)

-- ---- ranks

-- a term mentions only such bound rule variables as rank lower
abbrev pub IsLow : (ℕ → ℕ) → Bindings → ℕ → Tree → Type 0
IsLow rank s n t = (v : ℕ) (w : Tree) → mentions_rule_variable v t ≡ true → capture_at s v ≡ Some w → rank v < n

-- all rank lower
abbrev pub AreLow : (ℕ → ℕ) → Bindings → ℕ → Type 0
AreLow rank s n = (v : ℕ) (w : Tree) → capture_at s v ≡ Some w → rank v < n

-- bindings that are put into each other already
abbrev pub IsFixed : Bindings → Bindings → Type 0
IsFixed r s = r ≡ map (under_option r) s

module _ (rank : ℕ → ℕ) (s : Bindings) (ranked : IsRanked rank s) where
  low_under : (n : ℕ) (t : Tree) → IsLow rank s (suc n) t → IsLow rank s n (under s t)
  low_under n t h v w m e = under_mentions s v (rank v < n) t m
      (λ x q. let i : None ≡ Some w = flip q ∙ e in cc)
      (λ k u x q y. let a : rank v < rank k = ranked v k u w q y e in let b : rank k < suc n = h k u x q in omega (arith, a, b))

  low_rounds : (n m : ℕ) (t : Tree) → IsLow rank s (n + m) t → IsLow rank s m (rounds s n t)
  low_rounds zero m t h = λ v w x e. let a : rank v < 0 + m = h v w x e in omega (arith, a)
  low_rounds (suc n) m t h = low_under m (rounds s n t) (low_rounds n (suc m) t (λ v w x e. let a : rank v < suc n + m = h v w x e in omega (arith, a)))

  low_free : (t : Tree) → IsLow rank s zero t → IsFree s t
  low_free t h = free_where s t (λ v w m e. let a : rank v < 0 = h v w m e in omega (arith, a))

  pub rounds_free : (n : ℕ) (t : Tree) → IsLow rank s n t → IsFree s (rounds s n t)
  rounds_free n t h = low_free (rounds s n t) (low_rounds n zero t (λ v w x e. let a : rank v < n = h v w x e in omega (arith, a)))

  module _ (n : ℕ) (low : AreLow rank s (suc n)) where
    -- what is bound is low
    low_there : (k : ℕ) (u : Tree) → capture_at s k ≡ Some u → IsLow rank s n u
    low_there k u e v w m f = let a : rank v < rank k = ranked v k u w e m f in let b : rank k < suc n = low k u e in omega (arith, a, b)

    -- terms under the bindings that are put into each other mention none that is bound
    pub resolved_free : (t : Tree) → IsFree (resolved n s) (under (resolved n s) t)
    resolved_free t = subst (IsFree (resolved n s)) (flip (under_resolved s n t)) (free_in s (resolved n s) (λ k e. resolved_still s n k e) (rounds s (suc n) t) (rounds_free (suc n) t (λ v w m e. low v w e)))

    pub resolved_fixed : IsFixed (resolved n s) s
    resolved_fixed = each_same (option_rounds s n) (under_option (resolved n s)) s refl
        (λ k u e. ap (λ (x : Tree). Some x) (flip (under_resolved s n u ∙ free_same s (rounds s n u) (rounds_free n u (low_there k u e)))))

    -- and are the only ones that are
    pub fixed_resolved : (r : Bindings) → IsFixed r s → r ≡ resolved n s
    fixed_resolved r f = f ∙ each_same (under_option r) (option_rounds s n) s refl
        (λ k u e. ap (λ (x : Tree). Some x) (again n u ∙ free_same r (rounds s n u) (free_in s r within (rounds s n u) (rounds_free n u (low_there k u e)))))
      where
        within : (k : ℕ) → capture_at s k ≡ None → capture_at r k ≡ None
        within k e = ap (λ x. capture_at x k) f ∙ mapped_at s r k ∙ ap (under_option r) e

        again : (m : ℕ) (t : Tree) → under r t ≡ under r (rounds s m t)
        again zero t = refl
        again (suc m) t = again m t ∙ ap (λ x. under x (rounds s m t)) f ∙ under_mapped r s within (rounds s m t)

-- ---- a further binding

module _ (k : ℕ) (u : Tree) where
  pub apart : (j : ℕ) → eqb j k ≡ false → k ≢ j
  apart j e q = let f : true ≡ false = flip (eq-eqb j k (flip q)) ∙ e in cc

  neither_is : (a b : Bool) → (a || b) ≡ false → (a ≡ false) × (b ≡ false)
  neither_is true b e = cc
  neither_is false b e = (refl, e)

  put_here : (j : ℕ) → j ≡ k → under (with_binding [] k u) (rule_variable j) ≡ u
  put_here j e = rw e (rw (with_here [] k u) refl)

  put_other : (j : ℕ) → eqb j k ≡ false → under (with_binding [] k u) (rule_variable j) ≡ rule_variable j
  put_other j e = rw (with_other [] k j u (apart j e)) refl

  -- nothing changes where it doesn't stand
  pub under_without : (t : Tree) → mentions_rule_variable k t ≡ false → under (with_binding [] k u) t ≡ t
  under_without star e = refl
  under_without kind e = refl
  under_without (symbol j) e = refl
  under_without (variable j) e = refl
  under_without (rule_variable j) e = put_other j e
  under_without (apply f a) e = let i : _ = neither_is (mentions_rule_variable k f) (mentions_rule_variable k a) e in rw (under_without f i.0, under_without a i.1) refl
  under_without (bare b) e = ap bare (under_without b e)
  under_without (annotated n b) e = let i : _ = neither_is (mentions_rule_variable k n) (mentions_rule_variable k b) e in rw (under_without n i.0, under_without b i.1) refl
  under_without (product a b) e = let i : _ = neither_is (mentions_rule_variable k a) (mentions_rule_variable k b) e in rw (under_without a i.0, under_without b i.1) refl

  module _ (r : Bindings) (free : capture_at r k ≡ None) where
    bound_other : (j : ℕ) → eqb j k ≡ false → (o : Option Tree) → capture_at r j ≡ o → under (bound r k u) (rule_variable j) ≡ under (with_binding [] k u) (bound_or j o)
    bound_other j e None q = ap (bound_or j) (with_other (map (under_option (with_binding [] k u)) r) k j u (apart j e) ∙ mapped_at r (with_binding [] k u) j ∙ ap (under_option (with_binding [] k u)) q) ∙ flip (put_other j e)
    bound_other j e (Some t) q = ap (bound_or j) (with_other (map (under_option (with_binding [] k u)) r) k j u (apart j e) ∙ mapped_at r (with_binding [] k u) j ∙ ap (under_option (with_binding [] k u)) q)

    bound_variable : (j : ℕ) (b : Bool) → eqb j k ≡ b → under (bound r k u) (rule_variable j) ≡ under (with_binding [] k u) (under r (rule_variable j))
    bound_variable j true e = let q : j ≡ k = eqb-true j k e in
        ap (λ i. under (bound r k u) (rule_variable i)) q ∙ ap (bound_or k) (with_here (map (under_option (with_binding [] k u)) r) k u)
        ∙ flip (ap (λ i. under (with_binding [] k u) (under r (rule_variable i))) q ∙ ap (λ o. under (with_binding [] k u) (bound_or k o)) free ∙ put_here k refl)
    bound_variable j false e = bound_other j e (capture_at r j) refl

    -- a term under bindings with one more
    pub under_bound : (t : Tree) → under (bound r k u) t ≡ under (with_binding [] k u) (under r t)
    under_bound star = refl
    under_bound kind = refl
    under_bound (symbol j) = refl
    under_bound (variable j) = refl
    under_bound (rule_variable j) = bound_variable j (eqb j k) refl
    under_bound (apply f a) = rw (under_bound f, under_bound a) refl
    under_bound (bare b) = ap bare (under_bound b)
    under_bound (annotated n b) = rw (under_bound n, under_bound b) refl
    under_bound (product a b) = rw (under_bound a, under_bound b) refl

    module _ (s : Bindings) (fixed : IsFixed r s) (settled : under r u ≡ u) (without : mentions_rule_variable k u ≡ false) where
      pub bound_fixed : IsFixed (bound r k u) (with_binding s k u)
      bound_fixed =
          ap (λ x. with_binding x k u) (ap (map (under_option (with_binding [] k u))) fixed ∙ each_then (under_option (with_binding [] k u)) (under_option r) s
          ∙ flip (each_same (under_option (bound r k u)) (λ o. under_option (with_binding [] k u) (under_option r o)) s refl (λ j t e. ap (λ (x : Tree). Some x) (under_bound t))))
          ∙ ap (with_binding (map (under_option (bound r k u)) s) k) (flip (under_bound u ∙ ap (under (with_binding [] k u)) settled ∙ under_without u without))
          ∙ flip (each_with (bound r k u) s k u)

  -- the lowest rank for this rule variable
  abbrev pub ranked_first : (ℕ → ℕ) → ℕ → ℕ
  ranked_first rank j = if eqb j k then 0 else rank j

  pub first_here : (rank : ℕ → ℕ) → ranked_first rank k ≡ 0
  first_here rank = ap (λ (b : Bool). if b then 0 else rank k) (eq-eqb k k refl)

  pub first_other : (rank : ℕ → ℕ) (j : ℕ) → eqb j k ≡ false → ranked_first rank j ≡ rank j
  first_other rank j e = ap (λ (b : Bool). if b then 0 else rank j) e

  module _ (s : Bindings) (rank : ℕ → ℕ) (ranked : IsRanked rank s) (free : IsFree s u) (without : mentions_rule_variable k u ≡ false)
      (above : (j : ℕ) (t : Tree) → capture_at s j ≡ Some t → mentions_rule_variable k t ≡ true → 0 < rank j) where
    pub there : (j : ℕ) → eqb j k ≡ false → {o : Option Tree} → capture_at (with_binding s k u) j ≡ o → capture_at s j ≡ o
    there j e q = flip (with_other s k j u (apart j e)) ∙ q

    pub bound_ranked : IsRanked (ranked_first rank) (with_binding s k u)
    bound_ranked v j t w e m f = by_place (eqb j k) (eqb v k) refl refl
      where
        by_place : (a b : Bool) → eqb j k ≡ a → eqb v k ≡ b → ranked_first rank v < ranked_first rank j
        by_place true b p q =
            let i : Some t ≡ Some u = flip e ∙ ap (capture_at (with_binding s k u)) (eqb-true j k p) ∙ with_here s k u in
            let i2 : t ≡ u = cc in
            absurd (none_mentioned b q (flip (ap (mentions_rule_variable v) i2) ∙ m))
          where
            none_mentioned : (b : Bool) → eqb v k ≡ b → mentions_rule_variable v u ≡ true → ⊥
            none_mentioned true q n = let x : true ≡ false = flip n ∙ ap (λ z. mentions_rule_variable z u) (eqb-true v k q) ∙ without in cc
            none_mentioned false q n = free_mentions s u v w free n (there v q f)
        by_place false true p q =
            let a : ranked_first rank v ≡ 0 = ap (ranked_first rank) (eqb-true v k q) ∙ first_here rank in
            let b : ranked_first rank j ≡ rank j = first_other rank j p in
            let c : 0 < rank j = above j t (there j p e) (ap (λ z. mentions_rule_variable z t) (flip (eqb-true v k q)) ∙ m) in
            omega (arith, a, b, c)
        by_place false false p q =
            let a : ranked_first rank v ≡ rank v = first_other rank v q in
            let b : ranked_first rank j ≡ rank j = first_other rank j p in
            let c : rank v < rank j = ranked v j t w (there j p e) m (there v q f) in
            omega (arith, a, b, c)
