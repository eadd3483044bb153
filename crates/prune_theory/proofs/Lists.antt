-- Lists, options and answers that are alike.
use Rattle.std.proofs.Common.{List, ◌++◌, take, drop, map, length, replicate, slice_get, slice_set, ℕ, zero, suc, ◌≡◌, Bool, true, false, Option, Some, None, refl, ap, sym, subst, true≢false, if◌then◌else◌}
use Rattle.dk_model.specs.Units.{Units, bind}
use Rattle.prune_theory.specs.Alike.{Each, none_left, one_more, Maybe, neither, both, InUnits, both_end, both_give}

module _ {A B : Type 0} {R : A → B → Type 0} where
  pub each_length : {xs : List A} {ys : List B} → Each R xs ys → length xs ≡ length ys
  each_length none_left = refl
  each_length (one_more r e) = ap suc (each_length e)

  pub each_get : {xs : List A} {ys : List B} → Each R xs ys → (i : ℕ) → Maybe R (slice_get xs i) (slice_get ys i)
  each_get none_left i = neither
  each_get (one_more r e) zero = both r
  each_get (one_more r e) (suc i) = each_get e i

  pub each_append : {xs zs : List A} {ys ws : List B} → Each R xs ys → Each R zs ws → Each R (xs ++ zs) (ys ++ ws)
  each_append none_left d = d
  each_append (one_more r e) d = one_more r (each_append e d)

  pub each_take : (i : ℕ) {xs : List A} {ys : List B} → Each R xs ys → Each R (take i xs) (take i ys)
  each_take zero none_left = none_left
  each_take (suc i) none_left = none_left
  each_take zero (one_more r e) = none_left
  each_take (suc i) (one_more r e) = one_more r (each_take i e)

  pub each_drop : (i : ℕ) {xs : List A} {ys : List B} → Each R xs ys → Each R (drop i xs) (drop i ys)
  each_drop zero none_left = none_left
  each_drop (suc i) none_left = none_left
  each_drop zero (one_more r e) = one_more r e
  each_drop (suc i) (one_more r e) = each_drop i e

  pub each_replicate : (n : ℕ) (a : A) (b : B) → R a b → Each R (replicate n a) (replicate n b)
  each_replicate zero a b r = none_left
  each_replicate (suc n) a b r = one_more r (each_replicate n a b r)

  pub each_set : (i : ℕ) (a : A) (b : B) {xs : List A} {ys : List B} → Each R xs ys → R a b → Each R (slice_set xs i a) (slice_set ys i b)
  each_set zero a b none_left r = none_left
  each_set (suc i) a b none_left r = none_left
  each_set zero a b (one_more q e) r = one_more r e
  each_set (suc i) a b (one_more q e) r = one_more q (each_set i a b e r)

pub each_map : {A B C D : Type 0} {R : A → B → Type 0} {T : C → D → Type 0} (f : A → C) (g : B → D) {xs : List A} {ys : List B}
    → ((a : A) (b : B) → R a b → T (f a) (g b)) → Each R xs ys → Each T (map f xs) (map g ys)
each_map f g k none_left = none_left
each_map f g k (one_more {a} {b} r e) = one_more (k a b r) (each_map f g k e)

pub replicated : {A B : Type 0} {R : A → B → Type 0} (n m : ℕ) (a : A) (b : B) → n ≡ m → R a b → Each R (replicate n a) (replicate m b)
replicated {R} n m a b e r = subst (λ k. Each R (replicate n a) (replicate k b)) e (each_replicate n a b r)

pub bind_alike : {A B C D : Type 0} {R : A → B → Type 0} {T : C → D → Type 0} {x : Units A} {y : Units B} {g : A → ℕ → Units C} {h : B → ℕ → Units D}
    → InUnits R x y → ((a : A) (b : B) (n : ℕ) → R a b → InUnits T (g a n) (h b n)) → InUnits T (bind x g) (bind y h)
bind_alike both_end k = both_end
bind_alike (both_give {a} {b} {n} r) k = k a b n r

pub if_alike : {A B : Type 0} (R : A → B → Type 0) (x x' : A) (y y' : B) (b c : Bool) → b ≡ c → R x y → R x' y' → R (if b then x else x') (if c then y else y')
if_alike R x x' y y' true true e p q = p
if_alike R x x' y y' false false e p q = q
if_alike R x x' y y' true false e p q = absurd (true≢false e)
if_alike R x x' y y' false true e p q = absurd (true≢false (sym e))

pub option_alike : {A B C D : Type 0} {R : A → B → Type 0} (T : C → D → Type 0) {o : Option A} {o' : Option B} (x : C) (x' : D) (g : A → C) (g' : B → D) → Maybe R o o'
    → T x x' → ((a : A) (b : B) → R a b → T (g a) (g' b)) → T (elim o as (λ _. C) [ None ↦ x | Some a ↦ g a ]) (elim o' as (λ _. D) [ None ↦ x' | Some b ↦ g' b ])
option_alike T x x' g g' neither p k = p
option_alike T x x' g g' (both {a} {b} r) p k = k a b r
