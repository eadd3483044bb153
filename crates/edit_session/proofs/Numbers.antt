-- The numbers of ascending places.
use Rattle.std.proofs.Common.{List, [], ◌∷◌, length, Contains, ℕ, zero, suc, ◌≡◌, ◌<◌, ◌≤◌, ◌+◌, ◌||◌, eqb, Bool, true, false, refl, ap, sym, subst, ◌∙◌, true≢false, arith, if◌then◌else◌, ◌⊎◌, inl, inr}
use Rattle.std.proofs.lemmas.Bool.{eqb-true, eq-eqb, ne_eqb}
use Rattle.dk_model.specs.Captures.{is_in}
use Rattle.prune_theory.specs.Renumbering.{kept_from, rank}
use Rattle.prune_theory.specs.Mentions.{IsAscending}
use Rattle.edit_session.specs.Answers.{is_among, renumbered}

-- ---- membership

first_in : (x : ℕ) (xs : List ℕ) → Contains (x ∷ xs) x
first_in x xs = (0, omega arith, refl)

later_in : (x : ℕ) (xs : List ℕ) (k : ℕ) → Contains xs k → Contains (x ∷ xs) k
later_in x xs k c = (suc c.0, let h : c.0 < length xs = c.1 in omega arith, c.2)

or_by : (a b : Bool) → (a || b) ≡ true → (a ≡ true) ⊎ (b ≡ true)
or_by true b e = inl refl
or_by false b e = inr e

-- what the test finds stands there
pub in_contains : (k : ℕ) (xs : List ℕ) → is_in k xs ≡ true → Contains xs k
in_contains k [] e = absurd cc
in_contains k (x ∷ xs) e = by (λ p. in_contains k xs p) (or_by (eqb k x) (is_in k xs) e)
  where
    by : (is_in k xs ≡ true → Contains xs k) → (eqb k x ≡ true) ⊎ (is_in k xs ≡ true) → Contains (x ∷ xs) k
    by rest (inl p) = subst (λ z. Contains (z ∷ xs) k) (eqb-true k x p) (first_in k xs)
    by rest (inr p) = later_in x xs k (rest p)

-- all are at least the number
abbrev pub AreFrom : ℕ → List ℕ → Type 0
AreFrom n xs = (k : ℕ) → is_in k xs ≡ true → n ≤ k

or_left : (a b : Bool) → a ≡ true → (a || b) ≡ true
or_left true b e = refl
or_left false b e = absurd cc

or_right : (a b : Bool) → b ≡ true → (a || b) ≡ true
or_right true b e = refl
or_right false b e = e

-- and it finds what stands there
pub contains_in : (k : ℕ) (xs : List ℕ) → Contains xs k → is_in k xs ≡ true
contains_in k [] (p, l, e) = absurd (omega (arith, l))
contains_in k (x ∷ xs) (zero, l, e) = or_left (eqb k x) (is_in k xs) (eq-eqb k x (sym e))
contains_in k (x ∷ xs) (suc p, l, e) = or_right (eqb k x) (is_in k xs) (contains_in k xs (p, omega (arith, l), e))

head_from : (n x : ℕ) (xs : List ℕ) → AreFrom n (x ∷ xs) → n ≤ x
head_from n x xs h = h x (or_left (eqb x x) (is_in x xs) (eq-eqb x x refl))

tail_from : (n x : ℕ) (xs : List ℕ) → AreFrom n (x ∷ xs) → AreFrom n xs
tail_from n x xs h k e = h k (or_right (eqb k x) (is_in k xs) e)

pub above_head : (x : ℕ) (xs : List ℕ) → IsAscending (x ∷ xs) → AreFrom (suc x) xs
above_head x xs a k e = let l : x < k = a.0 k (in_contains k xs e) in omega arith

-- ---- the index of a place among ascending ones

abbrev pub index : List ℕ → ℕ → ℕ
index [] k = 0
index (x ∷ xs) k = if eqb k x then 0 else suc (index xs k)

-- the test agrees with the list from a number on
abbrev pub Agrees : (ℕ → Bool) → ℕ → List ℕ → Type 0
Agrees keep n xs = (k : ℕ) → n ≤ k → keep k ≡ is_in k xs

pub not_head : (k x : ℕ) (xs : List ℕ) → ¬ (k ≡ x) → is_in k (x ∷ xs) ≡ is_in k xs
not_head k x xs h = ap (λ b. b || is_in k xs) (ne_eqb k x h)

-- the number itself stands first, if at all
pub is_head : (n : ℕ) (xs : List ℕ) → IsAscending xs → AreFrom n xs → is_in n xs ≡ true → (ys : List ℕ) × (xs ≡ n ∷ ys)
is_head n [] a f e = absurd cc
is_head n (x ∷ xs) a f e = by (or_by (eqb n x) (is_in n xs) e)
  where
    by : (eqb n x ≡ true) ⊎ (is_in n xs ≡ true) → (ys : List ℕ) × (x ∷ xs ≡ n ∷ ys)
    by (inl p) = (xs, ap (λ z. z ∷ xs) (sym (eqb-true n x p)))
    by (inr p) = absurd (let l : suc x ≤ n = above_head x xs a n p in let m : n ≤ x = head_from n x xs f in omega arith)

pub from_next : (n : ℕ) (xs : List ℕ) → AreFrom n xs → is_in n xs ≡ false → AreFrom (suc n) xs
from_next n xs f e k h = by (eqb k n) refl
  where
    by : (b : Bool) → eqb k n ≡ b → suc n ≤ k
    by true q = absurd (true≢false (sym h ∙ ap (λ z. is_in z xs) (eqb-true k n q) ∙ e))
    by false q = let l : n ≤ k = f k h in let m : ¬ (k ≡ n) = (λ p. true≢false (sym (eq-eqb k n p) ∙ q)) in omega arith

pub index_of : (keep : ℕ → Bool) (n i : ℕ) (xs : List ℕ) → Agrees keep n xs → IsAscending xs → AreFrom n xs → keep (n + i) ≡ true → kept_from keep n i ≡ index xs (n + i)
index_of keep n zero xs g a f e = by (is_head n xs a f (sym (g n (omega arith)) ∙ subst (λ z. keep z ≡ true) (let q : n + 0 ≡ n = omega arith in q) e))
  where
    by : (ys : List ℕ) × (xs ≡ n ∷ ys) → 0 ≡ index xs (n + 0)
    by h = sym (ap (λ zs. index zs (n + 0)) h.1 ∙ ap (λ b. if b then 0 else suc (index h.0 (n + 0))) (eq-eqb (n + 0) n (omega arith)))
index_of keep n (suc i) xs g a f e = by (λ ys. index_of keep (suc n) i ys) (is_in n xs) refl
  where
    moved : n + suc i ≡ suc n + i
    moved = omega arith

    by : ((ys : List ℕ) → Agrees keep (suc n) ys → IsAscending ys → AreFrom (suc n) ys → keep (suc n + i) ≡ true → kept_from keep (suc n) i ≡ index ys (suc n + i)) → (b : Bool) → is_in n xs ≡ b → (if keep n then suc (kept_from keep (suc n) i) else kept_from keep (suc n) i) ≡ index xs (n + suc i)
    by again true q = within (is_head n xs a f q)
      where
        within : (ys : List ℕ) × (xs ≡ n ∷ ys) → (if keep n then suc (kept_from keep (suc n) i) else kept_from keep (suc n) i) ≡ index xs (n + suc i)
        within h = let a' : IsAscending (n ∷ h.0) = subst IsAscending h.1 a in
            ap (λ b. if b then suc (kept_from keep (suc n) i) else kept_from keep (suc n) i) (g n (omega arith) ∙ q)
            ∙ ap suc (again h.0 (λ k l. g k (omega arith) ∙ ap (is_in k) h.1 ∙ not_head k n h.0 (λ p. let z : k ≡ n = p in omega arith)) a'.1 (above_head n h.0 a') (subst (λ z. keep z ≡ true) moved e))
            ∙ sym (ap (λ zs. index zs (n + suc i)) h.1 ∙ ap (λ b. if b then 0 else suc (index h.0 (n + suc i))) (ne_eqb (n + suc i) n (omega arith)) ∙ ap (λ z. suc (index h.0 z)) moved)
    by again false q = ap (λ b. if b then suc (kept_from keep (suc n) i) else kept_from keep (suc n) i) (g n (omega arith) ∙ q)
        ∙ again xs (λ k l. g k (omega arith)) a (from_next n xs f q) (subst (λ z. keep z ≡ true) moved e) ∙ ap (index xs) (sym moved)

-- the number of a place is that of the other list at the same index
renumbered_at : (ps qs : List ℕ) (a b : ℕ) → is_in a ps ≡ true → is_in b qs ≡ true → index ps a ≡ index qs b → renumbered ps qs a ≡ b
renumbered_at [] qs a b p q e = absurd cc
renumbered_at (x ∷ ps) [] a b p q e = absurd cc
renumbered_at (x ∷ ps) (y ∷ qs) a b p q e = by (renumbered_at ps qs a b) (eqb a x) (eqb b y) refl refl (or_by (eqb a x) (is_in a ps) p) (or_by (eqb b y) (is_in b qs) q) e
  where
    by : (is_in a ps ≡ true → is_in b qs ≡ true → index ps a ≡ index qs b → renumbered ps qs a ≡ b) → (s t : Bool) → eqb a x ≡ s → eqb b y ≡ t → (s ≡ true) ⊎ (is_in a ps ≡ true) → (t ≡ true) ⊎ (is_in b qs ≡ true)
        → (if s then 0 else suc (index ps a)) ≡ (if t then 0 else suc (index qs b)) → (if s then y else renumbered ps qs a) ≡ b
    by again true true f g u v h = sym (eqb-true b y g)
    by again true false f g u v h = absurd cc
    by again false true f g u v h = absurd cc
    by again false false f g (inl u) v h = absurd cc
    by again false false f g (inr u) (inl v) h = absurd cc
    by again false false f g (inr u) (inr v) h = again u v (let r : index ps a ≡ index qs b = cc in r)

pub renumbers : (ps qs : List ℕ) → IsAscending ps → IsAscending qs → (a b : ℕ) → is_among ps a ≡ true → is_among qs b ≡ true → rank (is_among ps) a ≡ rank (is_among qs) b → renumbered ps qs a ≡ b
renumbers ps qs u v a b p q e = renumbered_at ps qs a b p q (sym (from_none ps a u p) ∙ e ∙ from_none qs b v q)
  where
    from_none : (xs : List ℕ) (k : ℕ) → IsAscending xs → is_among xs k ≡ true → rank (is_among xs) k ≡ index xs k
    from_none xs k a h = let z : 0 + k ≡ k = omega arith in
        index_of (is_among xs) 0 k xs (λ j l. refl) a (λ j l. omega arith) (subst (λ j. is_among xs j ≡ true) (sym z) h) ∙ ap (index xs) z
