-- Bindings in levels: two are joined, one begins, a further binding comes into the last.
use Rattle.std.specs.Prelude.{eqb, length, Bool, true, false, Vec}
use Rattle.std.specs.declared.alloc.Global.{Global}
use Rattle.std.proofs.Common.{List, [], ◌∷◌, ◌++◌, append-nil, option_to_list, ℕ, zero, suc, ◌+◌, ◌≡◌, ◌≢◌, ◌<◌, inl, inr, Option, Some, None, refl, ap, ◌∙◌, sym as flip, subst, arith}
use Rattle.std.proofs.lemmas.Bool.{eqb-true}
use Rattle.dk_model.specs.Trees.{Tree, star, kind, symbol, variable, rule_variable, apply, bare, annotated, product}
use Rattle.dk_model.specs.Bounds.{IsClosedAt}
use Rattle.dk_model.specs.Captures.{capture_at}
use Rattle.dk_model.specs.Bindings.{Bindings, bound_or, under, under_option, with_binding, bound, mentions_rule_variable}
use Rattle.dk_model.proofs.Closed.{closed_further}
use Rattle.dk_model.proofs.Unders.{AreClosed, with_here, with_other, mapped_at}
use Rattle.rule_check.specs.Levels.{rounds, option_rounds, resolved, behind_first, IsFree, with_rounds, put_into, put_into_each, numbers_of, Has, IsAt, IsRanked, AreLevelled, IsPlaced, lowered, IsJoined, IsBeforeLast}
use Rattle.rule_check.proofs.Rounds.{AreLow, IsFixed, apart, bound_fixed, bound_ranked, each_with, first_here, first_other, fixed_resolved, free_in, free_mentions, free_same, free_where, ranked_first, resolved_fixed, resolved_free, resolved_none, rounds_at, rounds_free, under_mapped, under_mentions, under_resolved, with_same}

-- ---- levels

pub at_low : (ls : List (Vec ℕ Global)) (k n : ℕ) → IsAt ls k n → n < length ls
at_low [] k n h = absurd h
at_low (l ∷ ls) k n (inl h) = let e : n ≡ length ls = h.1 in omega (arith, e)
at_low (l ∷ ls) k n (inr h) = let a : n < length ls = at_low ls k n h in omega (arith, a)

length_more : (ls : List (Vec ℕ Global)) (m : Vec ℕ Global) → length (ls ++ m ∷ []) ≡ suc (length ls)
length_more [] m = refl
length_more (l ∷ ls) m = ap suc (length_more ls m)

pub at_more : (ls : List (Vec ℕ Global)) (m : Vec ℕ Global) (k n : ℕ) → IsAt ls k n → IsAt (ls ++ m ∷ []) k (suc n)
at_more [] m k n h = absurd h
at_more (l ∷ ls) m k n (inl h) = inl (h.0, ap suc h.1 ∙ flip (length_more ls m))
at_more (l ∷ ls) m k n (inr h) = inr (at_more ls m k n h)

at_last : (ls : List (Vec ℕ Global)) (m : Vec ℕ Global) (k : ℕ) → Has m.items k → IsAt (ls ++ m ∷ []) k 0
at_last [] m k h = inl (h, refl)
at_last (l ∷ ls) m k h = inr (at_last ls m k h)

of_last : (ls : List (Vec ℕ Global)) (m : Vec ℕ Global) (k n : ℕ) → n ≡ 0 → IsAt (ls ++ m ∷ []) k n → Has m.items k
of_last [] m k n z (inl h) = h.0
of_last [] m k n z (inr h) = absurd h
of_last (l ∷ ls) m k n z (inl h) = let a : n ≡ length (ls ++ m ∷ []) = h.1 in let b : length (ls ++ m ∷ []) ≡ suc (length ls) = length_more ls m in absurd (omega (arith, a, b, z))
of_last (l ∷ ls) m k n z (inr h) = of_last ls m k n z h

of_more : (ls : List (Vec ℕ Global)) (m : Vec ℕ Global) (k n i : ℕ) → n ≡ suc i → IsAt (ls ++ m ∷ []) k n → IsAt ls k i
of_more [] m k n i z (inl h) = let a : n ≡ 0 = h.1 in absurd (omega (arith, a, z))
of_more [] m k n i z (inr h) = absurd h
of_more (l ∷ ls) m k n i z (inl h) = let a : n ≡ length (ls ++ m ∷ []) = h.1 in let b : length (ls ++ m ∷ []) ≡ suc (length ls) = length_more ls m in inl (h.0, omega (arith, a, b, z))
of_more (l ∷ ls) m k n i z (inr h) = inr (of_more ls m k n i z h)

at_grown : (ls : List (Vec ℕ Global)) (m p : Vec ℕ Global) (k n : ℕ) → ((j : ℕ) → Has m.items j → Has p.items j) → IsAt (ls ++ m ∷ []) k n → IsAt (ls ++ p ∷ []) k n
at_grown [] m p k n g (inl h) = inl (g k h.0, h.1)
at_grown [] m p k n g (inr h) = absurd h
at_grown (l ∷ ls) m p k n g (inl h) = inl (h.0, h.1 ∙ length_more ls m ∙ flip (length_more ls p))
at_grown (l ∷ ls) m p k n g (inr h) = inr (at_grown ls m p k n g h)

-- ---- bindings put into one of them

module _ (s : Bindings) (k : ℕ) (u : Tree) (e : capture_at s k ≡ Some u) where
  -- nothing is bound that wasn't
  into_none : (j : ℕ) (b : Bool) → eqb j k ≡ b → capture_at s j ≡ None → capture_at (with_binding s k (under s u)) j ≡ None
  into_none j true p q = let i : None ≡ Some u = flip q ∙ ap (capture_at s) (eqb-true j k p) ∙ e in cc
  into_none j false p q = with_other s k j (under s u) (apart k (under s u) j p) ∙ q

  into_bound : (j : ℕ) (w : Tree) (b : Bool) → eqb j k ≡ b → capture_at (with_binding s k (under s u)) j ≡ Some w → (x : Tree) × (capture_at s j ≡ Some x)
  into_bound j w true p q = (u, ap (capture_at s) (eqb-true j k p) ∙ e)
  into_bound j w false p q = (w, flip (with_other s k j (under s u) (apart k (under s u) j p)) ∙ q)

  -- what is bound is so still, or is what it was with the bindings put into it
  into_at : (P : Tree → Type 0) (j : ℕ) (w : Tree) (b : Bool) → eqb j k ≡ b → capture_at (with_binding s k (under s u)) j ≡ Some w → (capture_at s j ≡ Some w → P w) → (j ≡ k → P (under s u)) → P w
  into_at P j w true p q f g =
      let i : Some (under s u) ≡ Some w = flip (with_here s k (under s u)) ∙ ap (capture_at (with_binding s k (under s u))) (flip (eqb-true j k p)) ∙ q in
      let x : under s u ≡ w = cc in subst P x (g (eqb-true j k p))
  into_at P j w false p q f g = f (flip (with_other s k j (under s u) (apart k (under s u) j p)) ∙ q)

  module _ (r : Bindings) (fixed : IsFixed r s) where
    into_within : (j : ℕ) → capture_at s j ≡ None → capture_at r j ≡ None
    into_within j q = ap (λ x. capture_at x j) fixed ∙ mapped_at s r j ∙ ap (under_option r) q

    into_again : under r (under s u) ≡ under r u
    into_again = flip (under_mapped r s into_within u) ∙ ap (λ x. under x u) (flip fixed)

    into_fixed : IsFixed r (with_binding s k (under s u))
    into_fixed =
        flip (each_with r s k (under s u) ∙ ap (λ x. with_binding x k (under r (under s u))) (flip fixed) ∙ ap (with_binding r k) into_again
        ∙ with_same r k (under r u) (ap (λ x. capture_at x k) fixed ∙ mapped_at s r k ∙ ap (under_option r) e))

  into_ranked : (rank : ℕ → ℕ) → IsRanked rank s → IsRanked rank (with_binding s k (under s u))
  into_ranked rank h v j t w q m f =
      let i = into_bound v w (eqb v k) refl f in
      into_at (λ x. mentions_rule_variable v x ≡ true → rank v < rank j) j t (eqb j k) refl q (λ x y. h v j t i.0 x y i.1)
      (λ x y. under_mentions s v (rank v < rank j) u y
      (λ z n. let a : None ≡ Some i.0 = flip n ∙ i.1 in cc)
      (λ l p z n y. let a : rank l < rank k = h l k u p e z n in let b : rank v < rank l = h v l p i.0 n y i.1 in let c : rank j ≡ rank k = ap rank x in omega (arith, a, b, c))) m

  into_closed : ((j : ℕ) (t : Tree) → capture_at s j ≡ Some t → IsClosedAt 0 t) → IsClosedAt 0 (under s u) → (j : ℕ) (t : Tree) → capture_at (with_binding s k (under s u)) j ≡ Some t → IsClosedAt 0 t
  into_closed c d j t q = into_at (IsClosedAt 0) j t (eqb j k) refl q (λ x. c j t x) (λ x. d)

  into_covered : (f : ℕ → Bool) → ((v j : ℕ) (t : Tree) → capture_at s j ≡ Some t → mentions_rule_variable v t ≡ true → f v ≡ true)
      → (v j : ℕ) (t : Tree) → capture_at (with_binding s k (under s u)) j ≡ Some t → mentions_rule_variable v t ≡ true → f v ≡ true
  into_covered f c v j t q m = into_at (λ x. mentions_rule_variable v x ≡ true → f v ≡ true) j t (eqb j k) refl q (λ x y. c v j t x y)
      (λ x y. under_mentions s v (f v ≡ true) u y (λ z n. c v k u e z) (λ l p z n i. c v l p n i)) m

  into_low : (rank : ℕ → ℕ) → IsRanked rank s → rank k < 2 → IsFree (with_binding s k (under s u)) (under s u)
  into_low rank h l = free_in s (with_binding s k (under s u)) (λ j q. into_none j (eqb j k) refl q) (under s u)
      (rounds_free rank s h 1 u (λ v w m f. let a : rank v < rank k = h v k u w e m f in omega (arith, a, l)))

  into_free : (t : Tree) → IsFree s t → IsFree (with_binding s k (under s u)) t
  into_free t h = free_in s (with_binding s k (under s u)) (λ j q. into_none j (eqb j k) refl q) t h

module _ (s : Bindings) (closed : AreClosed s) where
  or_closed : (c k : ℕ) (o : Option Tree) → capture_at s k ≡ o → IsClosedAt c (bound_or k o)
  or_closed c k None e = tt
  or_closed c k (Some u) e = closed_further 0 c u (omega arith) (closed k u e)

  pub under_closed : (c : ℕ) (t : Tree) → IsClosedAt c t → IsClosedAt c (under s t)
  under_closed c star h = tt
  under_closed c kind h = tt
  under_closed c (symbol k) h = tt
  under_closed c (variable k) h = h
  under_closed c (rule_variable k) h = or_closed c k (capture_at s k) refl
  under_closed c (apply f a) h = (under_closed c f h.0, under_closed c a h.1)
  under_closed c (bare b) h = under_closed (c + 1) b h
  under_closed c (annotated n b) h = (under_closed c n h.0, under_closed (c + 1) b h.1)
  under_closed c (product a b) h = (under_closed c a h.0, under_closed (c + 1) b h.1)

rounds_closed : (s : Bindings) → AreClosed s → (n : ℕ) (t : Tree) → IsClosedAt 0 t → IsClosedAt 0 (rounds s n t)
rounds_closed s h zero t c = c
rounds_closed s h (suc n) t c = under_closed s h 0 (rounds s n t) (rounds_closed s h n t c)

option_closed : (s : Bindings) → AreClosed s → (n k : ℕ) (o : Option Tree) (u : Tree) → capture_at s k ≡ o → option_rounds s n o ≡ Some u → IsClosedAt 0 u
option_closed s h n k None u e q = cc
option_closed s h n k (Some t) u e q = let x : rounds s n t ≡ u = cc in subst (IsClosedAt 0) x (rounds_closed s h n t (h k t e))

-- what is bound to the rule variable, if it is, mentions none that is bound
abbrev pub IsDone : Bindings → ℕ → Type 0
IsDone s j = (t : Tree) → capture_at s j ≡ Some t → IsFree s t

pub put_closed : (s : Bindings) (k : ℕ) (o : Option Tree) → capture_at s k ≡ o → AreClosed s → AreClosed (with_rounds s k o)
put_closed s k None e h = h
put_closed s k (Some u) e h = into_closed s k u e h (under_closed s h 0 u (h k u e))

-- bindings with ranks that are put into each other in some bindings, and whose rule variables are among these
pub record Stands (r : Bindings) (rank : ℕ → ℕ) (f : ℕ → Bool) (s : Bindings) : Type 0 where
  pub fixed : IsFixed r s
  pub ranked : IsRanked rank s
  pub closed : (j : ℕ) (t : Tree) → capture_at s j ≡ Some t → IsClosedAt 0 t
  pub covered : (v j : ℕ) (t : Tree) → capture_at s j ≡ Some t → mentions_rule_variable v t ≡ true → f v ≡ true

module _ (r : Bindings) (rank : ℕ → ℕ) (f : ℕ → Bool) where
  put_stands : (s : Bindings) (k : ℕ) (o : Option Tree) → capture_at s k ≡ o → Stands r rank f s → Stands r rank f (with_rounds s k o)
  put_stands s k None e h = h
  put_stands s k (Some u) e h = record {
    fixed = into_fixed s k u e r h.fixed;
    ranked = into_ranked s k u e rank h.ranked;
    closed = into_closed s k u e h.closed (under_closed s h.closed 0 u (h.closed k u e));
    covered = into_covered s k u e f h.covered;
  }

  put_bound : (s : Bindings) (k : ℕ) (o : Option Tree) → capture_at s k ≡ o → (j : ℕ) (w : Tree) → capture_at (with_rounds s k o) j ≡ Some w → (x : Tree) × (capture_at s j ≡ Some x)
  put_bound s k None e j w q = (w, q)
  put_bound s k (Some u) e j w q = into_bound s k u e j w (eqb j k) refl q

  put_done : (s : Bindings) (k : ℕ) (o : Option Tree) → capture_at s k ≡ o → Stands r rank f s → rank k < 2 → IsDone (with_rounds s k o) k
  put_done s k None e h l t q = let i : None ≡ Some t = flip e ∙ q in cc
  put_done s k (Some u) e h l t q = into_at s k u e (IsFree (with_binding s k (under s u))) k t (eqb k k) refl q (λ x. along x) (λ x. into_low s k u e rank h.ranked l)
    where
      along : capture_at s k ≡ Some t → IsFree (with_binding s k (under s u)) t
      along x = let i : Some (under s u) ≡ Some t = flip (with_here s k (under s u)) ∙ q in let y : under s u ≡ t = cc in subst (IsFree (with_binding s k (under s u))) y (into_low s k u e rank h.ranked l)

  still_done : (s : Bindings) (k : ℕ) (o : Option Tree) → capture_at s k ≡ o → Stands r rank f s → (j : ℕ) → IsDone s j → IsDone (with_rounds s k o) j
  still_done s k None e h j d t q = d t q
  still_done s k (Some u) e h j d t q = into_at s k u e (IsFree (with_binding s k (under s u))) j t (eqb j k) refl q (λ x. into_free s k u e t (d t x))
      (λ x. let y : IsFree s u = d u (ap (capture_at s) x ∙ e) in subst (IsFree (with_binding s k (under s u))) (flip (free_same s u y)) (into_free s k u e u y))

  pub each_stands : (s : Bindings) (ks : List ℕ) → Stands r rank f s → Stands r rank f (put_into_each s ks)
  each_stands s [] h = h
  each_stands s (k ∷ ks) h = each_stands (put_into s k) ks (put_stands s k (capture_at s k) refl h)

  pub each_bound : (s : Bindings) (ks : List ℕ) (j : ℕ) (w : Tree) → capture_at (put_into_each s ks) j ≡ Some w → (x : Tree) × (capture_at s j ≡ Some x)
  each_bound s [] j w q = (w, q)
  each_bound s (k ∷ ks) j w q = let i = each_bound (put_into s k) ks j w q in put_bound s k (capture_at s k) refl j i.0 i.1

  each_still : (s : Bindings) (ks : List ℕ) (j : ℕ) → Stands r rank f s → IsDone s j → IsDone (put_into_each s ks) j
  each_still s [] j h d = d
  each_still s (k ∷ ks) j h d = each_still (put_into s k) ks j (put_stands s k (capture_at s k) refl h) (still_done s k (capture_at s k) refl h j d)

  -- what is bound to one of those is done where it ranks low
  pub each_done : (s : Bindings) (ks : List ℕ) (j : ℕ) → Stands r rank f s → rank j < 2 → Has ks j → IsDone (put_into_each s ks) j
  each_done s [] j h l i = absurd i
  each_done s (k ∷ ks) j h l (inl i) = each_still (put_into s k) ks j (put_stands s k (capture_at s k) refl h)
      (subst (IsDone (put_into s k)) i (put_done s k (capture_at s k) refl h (subst (λ x. rank x < 2) (flip i) l)))
  each_done s (k ∷ ks) j h l (inr i) = each_done (put_into s k) ks j (put_stands s k (capture_at s k) refl h) l i

-- ---- the last two levels are joined

module _ (rank : ℕ → ℕ) (s : Bindings) (ranked : IsRanked rank s) (done : (j : ℕ) (t : Tree) → capture_at s j ≡ Some t → rank j ≡ 1 → IsDone s j) where
  lowered_less : (a b : ℕ) → a < b → b ≢ 1 → lowered a < lowered b
  lowered_less zero zero l n = absurd (omega arith)
  lowered_less zero (suc zero) l n = absurd (n refl)
  lowered_less zero (suc (suc b)) l n = omega arith
  lowered_less (suc a) zero l n = absurd (omega arith)
  lowered_less (suc a) (suc b) l n = omega arith

  pub joined_ranked : IsRanked (λ j. lowered (rank j)) s
  joined_ranked v k u w e m f = lowered_less (rank v) (rank k) (ranked v k u w e m f) (λ q. free_mentions s u v w (done k u e q u e) m f)

has_left : (ks js : List ℕ) (k : ℕ) → Has ks k → Has (ks ++ js) k
has_left [] js k h = absurd h
has_left (j ∷ ks) js k (inl h) = inl h
has_left (j ∷ ks) js k (inr h) = inr (has_left ks js k h)

has_right : (ks js : List ℕ) (k : ℕ) → Has js k → Has (ks ++ js) k
has_right [] js k h = h
has_right (j ∷ ks) js k h = inr (has_right ks js k h)

joined_at : (ls : List (Vec ℕ Global)) (l m p : Vec ℕ Global) (k n : ℕ) → p.items ≡ l.items ++ m.items → IsAt ((ls ++ l ∷ []) ++ m ∷ []) k n → IsAt (ls ++ p ∷ []) k (lowered n)
joined_at ls l m p k zero e h = at_last ls p k (subst (λ ks. Has ks k) (flip e) (has_right l.items m.items k (of_last (ls ++ l ∷ []) m k zero refl h)))
joined_at ls l m p k (suc n) e h = at_grown ls l p k n (λ j i. subst (λ ks. Has ks j) (flip e) (has_left l.items m.items j i)) (of_more (ls ++ l ∷ []) m k (suc n) n refl h)

-- the last two levels are joined, or there is only one
pub is_joined : (old mid front new : List (Vec ℕ Global)) (m p : Vec ℕ Global) (level : Option (Vec ℕ Global)) → old ≡ mid ++ m ∷ [] → mid ≡ front ++ option_to_list level → (level ≡ None → length front ≡ 0) → p.items ≡ numbers_of level ++ m.items
    → new ≡ front ++ p ∷ [] → IsJoined old new
is_joined old mid front new m p None e f z g h =
    let i : front ≡ [] = nothing front (z refl) in
    let o : old ≡ m ∷ [] = e ∙ ap (λ (ls : List (Vec ℕ Global)). ls ++ m ∷ []) (f ∙ append-nil front ∙ i) in
    let n : new ≡ p ∷ [] = h ∙ ap (λ (ls : List (Vec ℕ Global)). ls ++ p ∷ []) i in
    record {
      kept = λ j i x. subst (λ ms. IsAt ms j (lowered i)) (flip n) (alone j i (subst (λ ls. IsAt ls j i) o x));
      fewer = λ l. let a : length old ≡ 1 = ap length o in absurd (omega (arith, a, l));
    }
  where
    nothing : (ls : List (Vec ℕ Global)) → length ls ≡ 0 → ls ≡ []
    nothing [] l = refl
    nothing (l ∷ ls) e = absurd (omega (arith, e))

    alone : (j i : ℕ) → IsAt (m ∷ []) j i → IsAt (p ∷ []) j (lowered i)
    alone j zero (inl x) = inl (subst (λ ks. Has ks j) (flip g) x.0, refl)
    alone j (suc i) (inl x) = let a : suc i ≡ 0 = x.1 in absurd (omega (arith, a))
    alone j i (inr x) = absurd x
is_joined old mid front new m p (Some l) e f z g h =
    let o : old ≡ (front ++ l ∷ []) ++ m ∷ [] = e ∙ ap (λ (ls : List (Vec ℕ Global)). ls ++ m ∷ []) f in
    record {
      kept = λ j n x. subst (λ ms. IsAt ms j (lowered n)) (flip h) (joined_at front l m p j n g (subst (λ ls. IsAt ls j n) o x));
      fewer = λ x.
          let a : length old ≡ suc (suc (length front)) = ap length o ∙ length_more (front ++ l ∷ []) m ∙ ap suc (length_more front l) in
          let b : length new ≡ suc (length front) = ap length h ∙ length_more front p in omega (arith, a, b);
    }

pub is_before_last : (ls front further : List (Vec ℕ Global)) (l m : Vec ℕ Global) → ls ≡ front ++ m ∷ [] → front ≡ further ++ l ∷ [] → IsBeforeLast ls l.items
is_before_last ls front further l m e f =
    let o : ls ≡ (further ++ l ∷ []) ++ m ∷ [] = e ∙ ap (λ (x : List (Vec ℕ Global)). x ++ m ∷ []) f in
    record {
      there = λ j x. of_last further l j zero refl (of_more (further ++ l ∷ []) m j 1 zero refl (subst (λ y. IsAt y j 1) o x));
      two = let a : length ls ≡ suc (suc (length further)) = ap length o ∙ length_more (further ++ l ∷ []) m ∙ ap suc (length_more further l) in omega (arith, a);
    }

-- a number is put into the last level, or into the first one
pub is_placed : (old front new : List (Vec ℕ Global)) (p : Vec ℕ Global) (last : Option (Vec ℕ Global)) (k : ℕ) → old ≡ front ++ option_to_list last → (last ≡ None → length old ≡ 0) → p.items ≡ numbers_of last ++ k ∷ [] → new ≡ front ++ p ∷ [] → IsPlaced old k new
is_placed old front new p None k e z f h = record {
  kept = λ j n x. absurd (nowhere old (z refl) j n x);
  placed = subst (λ ms. IsAt ms k 0) (flip h) (at_last front p k (subst (λ ks. Has ks k) (flip f) (inl refl)));
}
  where
    nowhere : (ls : List (Vec ℕ Global)) → length ls ≡ 0 → (j n : ℕ) → IsAt ls j n → ⊥
    nowhere [] q j n x = x
    nowhere (l ∷ ls) q j n x = absurd (omega (arith, q))
is_placed old front new p (Some l) k e z f h = record {
  kept = λ j n x. subst (λ ms. IsAt ms j n) (flip h) (at_grown front l p j n (λ i y. subst (λ ks. Has ks i) (flip f) (has_left l.items (k ∷ []) i y)) (subst (λ ms. IsAt ms j n) e x));
  placed = subst (λ ms. IsAt ms k 0) (flip h) (at_last front p k (subst (λ ks. Has ks k) (flip f) (has_right l.items (k ∷ []) k (inl refl))));
}

-- ---- bindings in levels

low_levels : (rank : ℕ → ℕ) (ls : List (Vec ℕ Global)) (s : Bindings) → ((k : ℕ) (u : Tree) → capture_at s k ≡ Some u → IsAt ls k (rank k)) → AreLow rank s (suc (behind_first ls))
low_levels rank [] s h v w e = absurd (h v w e)
low_levels rank (l ∷ ls) s h v w e = at_low (l ∷ ls) v (rank v) (h v w e)

module _ {f : ℕ → Bool} {ls : List (Vec ℕ Global)} {s : Bindings} (w : AreLevelled f ls s) where
  low_all : AreLow w.rank s (suc (behind_first ls))
  low_all = low_levels w.rank ls s w.levelled

  -- a term under the bindings has them put into it as often as there are levels
  pub levels_under : (t : Tree) → rounds s (length ls) t ≡ under (resolved (behind_first ls) s) t
  levels_under t = by_levels ls refl
    where
      by_levels : (ms : List (Vec ℕ Global)) → ls ≡ ms → rounds s (length ls) t ≡ under (resolved (behind_first ls) s) t
      by_levels [] e = ap (λ x. rounds s (length x) t) e ∙ flip (free_same s t (free_where s t (λ v x m q. absurd (subst (λ y. IsAt y v (w.rank v)) e (w.levelled v x q)))))
          ∙ flip (ap (λ x. under (resolved (behind_first x) s) t) e ∙ under_resolved s zero t)
      by_levels (m ∷ ms) e = ap (λ x. rounds s (length x) t) e ∙ flip (ap (λ x. under (resolved (behind_first x) s) t) e ∙ under_resolved s (length ms) t)

  -- it mentions no rule variable that is bound
  pub levels_free : (t : Tree) → IsFree (resolved (behind_first ls) s) (under (resolved (behind_first ls) s) t)
  levels_free t = resolved_free w.rank s w.ranked (behind_first ls) low_all t

  pub levels_closed : AreClosed (resolved (behind_first ls) s)
  levels_closed k u e = option_closed s w.closed (behind_first ls) k (capture_at s k) u refl (flip (rounds_at s s (behind_first ls) k) ∙ e)

  levels_fixed : IsFixed (resolved (behind_first ls) s) s
  levels_fixed = resolved_fixed w.rank s w.ranked (behind_first ls) low_all

  pub levels_cover : (g : ℕ → Bool) → ((j : ℕ) → f j ≡ true → g j ≡ true) → AreLevelled g ls s
  levels_cover g h = record { rank = w.rank; ranked = w.ranked; levelled = w.levelled; closed = w.closed; covered = λ j k u e m. h j (w.covered j k u e m) }

  -- ---- the last two levels are joined

  module _ (js : List ℕ) (ms : List (Vec ℕ Global)) (last : IsBeforeLast ls js) (joined : IsJoined ls ms) where
    levels_stand : Stands (resolved (behind_first ls) s) w.rank f s
    levels_stand = record { fixed = levels_fixed; ranked = w.ranked; closed = w.closed; covered = w.covered }

    put_stand : Stands (resolved (behind_first ls) s) w.rank f (put_into_each s js)
    put_stand = each_stands (resolved (behind_first ls) s) w.rank f s js levels_stand

    put_there : (j : ℕ) (u : Tree) → capture_at (put_into_each s js) j ≡ Some u → IsAt ls j (w.rank j)
    put_there j u e = let i = each_bound (resolved (behind_first ls) s) w.rank f s js j u e in w.levelled j i.0 i.1

    put_ranked : IsRanked (λ j. lowered (w.rank j)) (put_into_each s js)
    put_ranked = joined_ranked w.rank (put_into_each s js) put_stand.ranked
        (λ j t e q. let l : w.rank j < 2 = omega (arith, q) in each_done (resolved (behind_first ls) s) w.rank f s js j levels_stand l (last.there j (subst (IsAt ls j) q (put_there j t e))))

    pub levels_joined : AreLevelled f ms (put_into_each s js)
    levels_joined = record {
      rank = λ j. lowered (w.rank j);
      ranked = put_ranked;
      levelled = λ k u e. joined.kept k (w.rank k) (put_there k u e);
      closed = put_stand.closed;
      covered = put_stand.covered;
    }

    pub joined_same : resolved (behind_first ms) (put_into_each s js) ≡ resolved (behind_first ls) s
    joined_same = flip (fixed_resolved (λ j. lowered (w.rank j)) (put_into_each s js) put_ranked (behind_first ms)
        (low_levels (λ j. lowered (w.rank j)) ms (put_into_each s js) (λ k u e. joined.kept k (w.rank k) (put_there k u e))) (resolved (behind_first ls) s) put_stand.fixed)

  -- ---- a level begins

  module _ (m : Vec ℕ Global) where
    pub begun_ranked : IsRanked (λ j. suc (w.rank j)) s
    begun_ranked v k u x e n q = let a : w.rank v < w.rank k = w.ranked v k u x e n q in omega (arith, a)

    pub levels_begun : AreLevelled f (ls ++ m ∷ []) s
    levels_begun = record {
      rank = λ j. suc (w.rank j);
      ranked = begun_ranked;
      levelled = λ k u e. at_more ls m k (w.rank k) (w.levelled k u e);
      closed = w.closed;
      covered = w.covered;
    }

    pub begun_same : resolved (behind_first (ls ++ m ∷ [])) s ≡ resolved (behind_first ls) s
    begun_same = flip (fixed_resolved (λ j. suc (w.rank j)) s begun_ranked (behind_first (ls ++ m ∷ []))
        (low_levels (λ j. suc (w.rank j)) (ls ++ m ∷ []) s (λ k u e. at_more ls m k (w.rank k) (w.levelled k u e))) (resolved (behind_first ls) s) levels_fixed)

  -- ---- a further binding

  module _ (k : ℕ) (u : Tree) (ms : List (Vec ℕ Global)) (g : ℕ → Bool) (placed : IsPlaced ls k ms) (unbound : capture_at (resolved (behind_first ls) s) k ≡ None) (free : IsFree (resolved (behind_first ls) s) u)
      (closed : IsClosedAt 0 u) (without : mentions_rule_variable k u ≡ false)
      (above : (j : ℕ) (t : Tree) → capture_at s j ≡ Some t → mentions_rule_variable k t ≡ true → 0 < w.rank j)
      (more : (j : ℕ) → mentions_rule_variable j u ≡ true → g j ≡ true) (kept : (j : ℕ) → f j ≡ true → g j ≡ true) where
    further_ranked : IsRanked (ranked_first k u w.rank) (with_binding s k u)
    further_ranked = bound_ranked k u s w.rank w.ranked (free_in (resolved (behind_first ls) s) s (λ j e. resolved_none s (behind_first ls) j e) u free) without above

    -- what is bound is the term, or was bound before
    further_at : (P : ℕ → Tree → Type 0) → P k u → ((j : ℕ) (t : Tree) → eqb j k ≡ false → capture_at s j ≡ Some t → P j t) → (j : ℕ) (t : Tree) (b : Bool) → eqb j k ≡ b → capture_at (with_binding s k u) j ≡ Some t → P j t
    further_at P p h j t true q e =
        let x : j ≡ k = eqb-true j k q in
        let i : Some u ≡ Some t = flip (with_here s k u) ∙ ap (capture_at (with_binding s k u)) (flip x) ∙ e in
        let y : u ≡ t = cc in subst (λ z. P z t) (flip x) (subst (P k) y p)
    further_at P p h j t false q e = h j t q (flip (with_other s k j u (apart k u j q)) ∙ e)

    further_levelled : (j : ℕ) (t : Tree) → capture_at (with_binding s k u) j ≡ Some t → IsAt ms j (ranked_first k u w.rank j)
    further_levelled j t e = further_at (λ i x. IsAt ms i (ranked_first k u w.rank i)) (subst (IsAt ms k) (flip (first_here k u w.rank)) placed.placed)
        (λ i x q p. subst (IsAt ms i) (flip (first_other k u w.rank i q)) (placed.kept i (w.rank i) (w.levelled i x p))) j t (eqb j k) refl e

    pub levels_further : AreLevelled g ms (with_binding s k u)
    levels_further = record {
      rank = ranked_first k u w.rank;
      ranked = further_ranked;
      levelled = further_levelled;
      closed = λ j t e. further_at (λ i x. IsClosedAt 0 x) closed (λ i x q p. w.closed i x p) j t (eqb j k) refl e;
      covered = λ v j t e m. further_at (λ i x. mentions_rule_variable v x ≡ true → g v ≡ true) (more v) (λ i x q p n. kept v (w.covered v i x p n)) j t (eqb j k) refl e m;
    }

    pub further_same : resolved (behind_first ms) (with_binding s k u) ≡ bound (resolved (behind_first ls) s) k u
    further_same = flip (fixed_resolved (ranked_first k u w.rank) (with_binding s k u) further_ranked (behind_first ms) (low_levels (ranked_first k u w.rank) ms (with_binding s k u) further_levelled)
        (bound (resolved (behind_first ls) s) k u) (bound_fixed k u (resolved (behind_first ls) s) unbound s levels_fixed (free_same (resolved (behind_first ls) s) u free) without))

-- nothing is bound
pub nothing_levelled : (f : ℕ → Bool) (ls : List (Vec ℕ Global)) → AreLevelled f ls []
nothing_levelled f ls = record {
  rank = λ j. zero;
  ranked = λ v k u w e m q. cc;
  levelled = λ k u e. cc;
  closed = λ k u e. cc;
  covered = λ j k u e m. cc;
}
