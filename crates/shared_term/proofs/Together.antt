-- Several terms in the place of variables at once are as many, one by one.
use Rattle.std.proofs.Common.{◌≡◌, ℕ, suc, ◌+◌, ◌-◌, ◌<◌, ◌≤◌, nat_lt, eqb, List, [], ◌∷◌, ◌++◌, length, get_or, Option, Some, None, Bool, true, false, not, ◌&&◌, ◌||◌, ◌⊎◌, inl, inr, refl, ap, sym, ◌∙◌, arith, if◌then◌else◌}
use Rattle.std.proofs.lemmas.Bool.Decides.{nat_tests}
use Rattle.std.proofs.lemmas.List.{length-append}
use Rattle.dk_model.specs.Trees.{Tree, star, kind, symbol, variable, rule_variable, apply, bare, annotated, product}
use Rattle.dk_model.specs.Substitution.{shift, substitute, substituted_variable}
use Rattle.dk_model.specs.Captures.{mentions_others}
use Rattle.dk_model.specs.Bounds.{IsClosedAt}
use Rattle.shared_term.specs.Changes.{from_last, substitute_all, all_substituted_variable}

-- what stands so many before the last one

if_true : {A : Type 0} (b : Bool) (x y : A) → b ≡ true → (if b then x else y) ≡ x
if_true true x y e = refl
if_true false x y e = cc

if_false : {A : Type 0} (b : Bool) (x y : A) → b ≡ false → (if b then x else y) ≡ y
if_false true x y e = cc
if_false false x y e = refl

same_test : (m n : ℕ) → m ≡ n → eqb m n ≡ true
same_test m n e = grind (arith, nat_tests)

other_test : (m n : ℕ) → (m ≡ n → ⊥) → eqb m n ≡ false
other_test m n e = grind (arith, nat_tests)

pub from_last_missing : {T : Type 0} (xs : List T) (k : ℕ) → length xs ≤ k → from_last xs k ≡ None
from_last_missing [] k l = refl
from_last_missing (x ∷ xs) k l = if_false (eqb k (length xs)) (Some x) (from_last xs k) (other_test k (length xs) (λ e. omega (arith, l, e))) ∙ from_last_missing xs k (omega (arith, l))

pub from_last_found : {T : Type 0} (xs : List T) (k : ℕ) (d : T) → k < length xs → Some (get_or xs (length xs - 1 - k) d) ≡ from_last xs k
from_last_found [] k d l = absurd (omega (arith, l))
from_last_found {T} (x ∷ xs) k d l = by (eqb k (length xs)) refl (from_last_found xs k d)
  where
    by : (b : Bool) → eqb k (length xs) ≡ b → (k < length xs → Some (get_or xs (length xs - 1 - k) d) ≡ from_last xs k) → Some (get_or (x ∷ xs) (suc (length xs) - 1 - k) d) ≡ (if b then Some x else from_last xs k)
    by true e rest = let p : suc (length xs) - 1 - k ≡ 0 = grind (arith, nat_tests) in ap (λ i. Some (get_or (x ∷ xs) i d)) p
    by false e rest =
        let p : suc (length xs) - 1 - k ≡ suc (length xs - 1 - k) = grind (arith, nat_tests) in
        let q : k < length xs = grind (arith, nat_tests) in
        ap (λ i. Some (get_or (x ∷ xs) i d)) p ∙ rest q

from_last_last : {T : Type 0} (xs : List T) (x : T) → from_last (xs ++ x ∷ []) 0 ≡ Some x
from_last_last [] x = refl
from_last_last (y ∷ xs) x =
    let p : length (xs ++ x ∷ []) ≡ length xs + 1 = length-append xs (x ∷ []) in
    if_false (eqb 0 (length (xs ++ x ∷ []))) (Some y) (from_last (xs ++ x ∷ []) 0) (other_test 0 (length (xs ++ x ∷ [])) (λ e. omega (arith, p, e))) ∙ from_last_last xs x

from_last_before : {T : Type 0} (xs : List T) (x : T) (k : ℕ) → from_last (xs ++ x ∷ []) (k + 1) ≡ from_last xs k
from_last_before [] x k = if_false (eqb (k + 1) 0) (Some x) None (other_test (k + 1) 0 (λ e. omega (arith, e)))
from_last_before {T} (y ∷ xs) x k = by (eqb k (length xs)) refl (from_last_before xs x k)
  where
    p : length (xs ++ x ∷ []) ≡ length xs + 1
    p = length-append xs (x ∷ [])

    by : (b : Bool) → eqb k (length xs) ≡ b → from_last (xs ++ x ∷ []) (k + 1) ≡ from_last xs k
        → (if eqb (k + 1) (length (xs ++ x ∷ [])) then Some y else from_last (xs ++ x ∷ []) (k + 1)) ≡ (if b then Some y else from_last xs k)
    by true e rest = let q : k ≡ length xs = grind (arith, nat_tests) in if_true _ (Some y) (from_last (xs ++ x ∷ []) (k + 1)) (same_test _ _ (omega (arith, p, q)))
    by false e rest =
        let q : k ≡ length xs → ⊥ = grind (arith, nat_tests) in
        if_false _ (Some y) (from_last (xs ++ x ∷ []) (k + 1)) (other_test _ _ (λ h. q (omega (arith, p, h)))) ∙ rest

-- a term that mentions none of the variables, and no terms

pub all_below : (d : ℕ) (us : List Tree) (k : ℕ) → k < d → all_substituted_variable d us k ≡ variable k
all_below d us k l = if_true (nat_lt k d) (variable k) _ (grind (arith, nat_tests))

pub all_closed : (d : ℕ) (us : List Tree) (t : Tree) → IsClosedAt d t → substitute_all d us t ≡ t
all_closed d us star h = refl
all_closed d us kind h = refl
all_closed d us (symbol k) h = refl
all_closed d us (variable k) h = all_below d us k h
all_closed d us (rule_variable k) h = refl
all_closed d us (apply f a) h = λ i. apply (all_closed d us f h.0 i) (all_closed d us a h.1 i)
all_closed d us (bare b) h = ap bare (all_closed (d + 1) us b h)
all_closed d us (annotated n b) h = λ i. annotated (all_closed d us n h.0 i) (all_closed (d + 1) us b h.1 i)
all_closed d us (product a b) h = λ i. product (all_closed d us a h.0 i) (all_closed (d + 1) us b h.1 i)

none_at : (d k : ℕ) → all_substituted_variable d [] k ≡ variable k
none_at d k = by (nat_lt k d)
  where
    by : (b : Bool) → (if b then variable k else variable (k - 0)) ≡ variable k
    by true = refl
    by false = ap variable (omega arith)

pub all_none : (d : ℕ) (t : Tree) → substitute_all d [] t ≡ t
all_none d star = refl
all_none d kind = refl
all_none d (symbol k) = refl
all_none d (variable k) = none_at d k
all_none d (rule_variable k) = refl
all_none d (apply f a) = λ i. apply (all_none d f i) (all_none d a i)
all_none d (bare b) = ap bare (all_none (d + 1) b)
all_none d (annotated n b) = λ i. annotated (all_none d n i) (all_none (d + 1) b i)
all_none d (product a b) = λ i. product (all_none d a i) (all_none (d + 1) b i)

-- a term that was shifted over the variable that another one takes the place of

lowered_variable : (c d e : ℕ) (u : Tree) (k : ℕ) → e ≡ c + d → (b : Bool) → nat_lt k c ≡ b
    → substituted_variable e u (if b then k else (k + (d + 1))) ≡ variable (if b then k else (k + d))
lowered_variable c d e u k q true l = if_true (nat_lt k e) (variable k) _ (grind (arith, nat_tests))
lowered_variable c d e u k q false l =
    if_false (nat_lt (k + (d + 1)) e) (variable (k + (d + 1))) _ (grind (arith, nat_tests))
    ∙ if_false (eqb (k + (d + 1)) e) (shift 0 e u) _ (other_test _ _ (λ h. grind (arith, nat_tests)))
    ∙ ap variable (omega arith)

lowered : (c d e : ℕ) (u t : Tree) → e ≡ c + d → substitute e u (shift c (d + 1) t) ≡ shift c d t
lowered c d e u star q = refl
lowered c d e u kind q = refl
lowered c d e u (symbol k) q = refl
lowered c d e u (variable k) q = lowered_variable c d e u k q (nat_lt k c) refl
lowered c d e u (rule_variable k) q = refl
lowered c d e u (apply f a) q = λ i. apply (lowered c d e u f q i) (lowered c d e u a q i)
lowered c d e u (bare b) q = ap bare (lowered (c + 1) d (e + 1) u b (omega (arith, q)))
lowered c d e u (annotated n b) q = λ i. annotated (lowered c d e u n q i) (lowered (c + 1) d (e + 1) u b (omega (arith, q)) i)
lowered c d e u (product a b) q = λ i. product (lowered c d e u a q i) (lowered (c + 1) d (e + 1) u b (omega (arith, q)) i)

-- one more term

abbrev pub found_at : ℕ → ℕ → Option Tree → Tree
found_at d n o = elim o as (λ _. Tree) [ None ↦ variable n | Some u ↦ shift 0 d u ]

pub all_above : (d : ℕ) (us : List Tree) (k : ℕ) → d ≤ k → all_substituted_variable d us k ≡ found_at d (k - length us) (from_last us (k - d))
all_above d us k l = if_false (nat_lt k d) (variable k) _ (grind (arith, nat_tests))

pub none_missing : {T : Type 0} (xs : List T) (k : ℕ) → from_last xs k ≡ None → length xs ≤ k
none_missing [] k e = omega arith
none_missing {T} (x ∷ xs) k e = by (eqb k (length xs)) refl e (none_missing xs k)
  where
    by : (b : Bool) → eqb k (length xs) ≡ b → (if b then Some x else from_last xs k) ≡ None → (from_last xs k ≡ None → length xs ≤ k) → suc (length xs) ≤ k
    by true q f rest = cc
    by false q f rest = let h : length xs ≤ k = rest f in grind (arith, nat_tests)

above_found : (d : ℕ) (x : Tree) (m n : ℕ) (o : Option Tree) → (o ≡ None → (d < n) × (m ≡ n - 1)) → found_at d m o ≡ substitute d x (found_at (d + 1) n o)
above_found d x m n None h =
    let l = (h refl).0 in
    ap variable (h refl).1 ∙ sym (if_false (nat_lt n d) (variable n) _ (grind (arith, nat_tests)) ∙ if_false (eqb n d) (shift 0 d x) _ (grind (arith, nat_tests)))
above_found d x m n (Some u) h = sym (lowered 0 d d x u (omega arith))

pushed_above : (d : ℕ) (us : List Tree) (x : Tree) (k : ℕ) → d < k → all_substituted_variable d (us ++ x ∷ []) k ≡ substitute d x (all_substituted_variable (d + 1) us k)
pushed_above d us x k l =
    let p : length (us ++ x ∷ []) ≡ length us + 1 = length-append us (x ∷ []) in
    let j : k - d ≡ (k - (d + 1)) + 1 = omega (arith, l) in
    all_above d (us ++ x ∷ []) k (omega (arith, l))
    ∙ ap (found_at d (k - length (us ++ x ∷ []))) (ap (from_last (us ++ x ∷ [])) j ∙ from_last_before us x (k - (d + 1)))
    ∙ above_found d x (k - length (us ++ x ∷ [])) (k - length us) (from_last us (k - (d + 1)))
    (λ e. let h : length us ≤ k - (d + 1) = none_missing us (k - (d + 1)) e in (omega (arith, h, l), omega (arith, h, l, p)))
    ∙ ap (substitute d x) (sym (all_above (d + 1) us k (omega (arith, l))))

pushed_at : (d : ℕ) (us : List Tree) (x : Tree) (k : ℕ) → k ≡ d → all_substituted_variable d (us ++ x ∷ []) k ≡ substitute d x (all_substituted_variable (d + 1) us k)
pushed_at d us x k e =
    let j : k - d ≡ 0 = omega (arith, e) in
    all_above d (us ++ x ∷ []) k (omega (arith, e))
    ∙ ap (found_at d (k - length (us ++ x ∷ []))) (ap (from_last (us ++ x ∷ [])) j ∙ from_last_last us x)
    ∙ sym (ap (substitute d x) (all_below (d + 1) us k (omega (arith, e)))
    ∙ if_false (nat_lt k d) (variable k) _ (grind (arith, nat_tests)) ∙ if_true (eqb k d) (shift 0 d x) _ (same_test k d e))

pushed_below : (d : ℕ) (us : List Tree) (x : Tree) (k : ℕ) → k < d → all_substituted_variable d (us ++ x ∷ []) k ≡ substitute d x (all_substituted_variable (d + 1) us k)
pushed_below d us x k l =
    all_below d (us ++ x ∷ []) k l ∙ sym (ap (substitute d x) (all_below (d + 1) us k (omega (arith, l))) ∙ if_true (nat_lt k d) (variable k) _ (grind (arith, nat_tests)))

abbrev Ordered : ℕ → ℕ → Type 0
Ordered k d = (k < d) ⊎ ((k ≡ d) ⊎ (d < k))

ordered : (k d : ℕ) → Ordered k d
ordered k d = grind arith

pushed_variable : (d : ℕ) (us : List Tree) (x : Tree) (k : ℕ) → Ordered k d → all_substituted_variable d (us ++ x ∷ []) k ≡ substitute d x (all_substituted_variable (d + 1) us k)
pushed_variable d us x k (inl l) = pushed_below d us x k l
pushed_variable d us x k (inr (inl e)) = pushed_at d us x k e
pushed_variable d us x k (inr (inr l)) = pushed_above d us x k l

-- the last one is put in after the others
pub all_pushed : (d : ℕ) (us : List Tree) (x t : Tree) → substitute_all d (us ++ x ∷ []) t ≡ substitute d x (substitute_all (d + 1) us t)
all_pushed d us x star = refl
all_pushed d us x kind = refl
all_pushed d us x (symbol k) = refl
all_pushed d us x (variable k) = pushed_variable d us x k (ordered k d)
all_pushed d us x (rule_variable k) = refl
all_pushed d us x (apply f a) = λ i. apply (all_pushed d us x f i) (all_pushed d us x a i)
all_pushed d us x (bare b) = ap bare (all_pushed (d + 1) us x b)
all_pushed d us x (annotated n b) = λ i. annotated (all_pushed d us x n i) (all_pushed (d + 1) us x b i)
all_pushed d us x (product a b) = λ i. product (all_pushed d us x a i) (all_pushed (d + 1) us x b i)

-- what takes the place of a variable that isn't mentioned is of no account

left : (a b : Bool) → a || b ≡ false → a ≡ false
left true b e = e
left false b e = refl

right : (a b : Bool) → a || b ≡ false → b ≡ false
right true b e = cc
right false b e = e

not_at : (d k : ℕ) → ((not (nat_lt k d) && nat_lt (k - d) 1) && not false) ≡ false → (k < d) ⊎ (d < k)
not_at d k e = grind (arith, nat_tests)

unmentioned_variable : (d : ℕ) (us : List Tree) (x y : Tree) (k : ℕ) → (k < d) ⊎ (d < k) → all_substituted_variable d (us ++ x ∷ []) k ≡ all_substituted_variable d (us ++ y ∷ []) k
unmentioned_variable d us x y k (inl l) = all_below d (us ++ x ∷ []) k l ∙ sym (all_below d (us ++ y ∷ []) k l)
unmentioned_variable d us x y k (inr l) =
    let j : k - d ≡ (k - (d + 1)) + 1 = omega (arith, l) in
    let m : k - length (us ++ x ∷ []) ≡ k - length (us ++ y ∷ []) = ap (λ n. k - n) (length-append us (x ∷ []) ∙ sym (length-append us (y ∷ []))) in
    all_above d (us ++ x ∷ []) k (omega (arith, l))
    ∙ ap (found_at d (k - length (us ++ x ∷ []))) (ap (from_last (us ++ x ∷ [])) j ∙ from_last_before us x (k - (d + 1)) ∙ sym (from_last_before us y (k - (d + 1))) ∙ sym (ap (from_last (us ++ y ∷ [])) j))
    ∙ ap (λ n. found_at d n (from_last (us ++ y ∷ []) (k - d))) m
    ∙ sym (all_above d (us ++ y ∷ []) k (omega (arith, l)))

pub all_unmentioned : (d : ℕ) (us : List Tree) (x y t : Tree) → mentions_others d 1 [] t ≡ false → substitute_all d (us ++ x ∷ []) t ≡ substitute_all d (us ++ y ∷ []) t
all_unmentioned d us x y star e = refl
all_unmentioned d us x y kind e = refl
all_unmentioned d us x y (symbol k) e = refl
all_unmentioned d us x y (variable k) e = unmentioned_variable d us x y k (not_at d k e)
all_unmentioned d us x y (rule_variable k) e = refl
all_unmentioned d us x y (apply f a) e = λ i. apply (all_unmentioned d us x y f (left _ _ e) i) (all_unmentioned d us x y a (right _ _ e) i)
all_unmentioned d us x y (bare b) e = ap bare (all_unmentioned (d + 1) us x y b e)
all_unmentioned d us x y (annotated n b) e = λ i. annotated (all_unmentioned d us x y n (left _ _ e) i) (all_unmentioned (d + 1) us x y b (right _ _ e) i)
all_unmentioned d us x y (product a b) e = λ i. product (all_unmentioned d us x y a (left _ _ e) i) (all_unmentioned (d + 1) us x y b (right _ _ e) i)
