-- Lists, sums over them, and what a history has of one maker.
use Rattle.std.proofs.Common.{◌≡◌, ◌≢◌, ◌⊎◌, ℕ, zero, suc, ◌+◌, ◌%◌, ◌^◌, ◌≤◌, Bool, true, false, cond, eqb, List, [], ◌∷◌, ◌++◌, length, set, sym, refl, ap, ◌∙◌, ⊎_elim, inl, inr, arith, Some, append_assoc, append-nil, ne_eqb}
use mathlib.Core.Option.{some, some-injective, some-ne-none}
use native.Mathlib.Decide.{ℕ_discrete}
use lib.ListN.{get_elem?}
use Rattle.std.specs.List.{All, count_by}
use Rattle.std.proofs.lemmas.List.Elements.{filter-append, All-nil, All-cons}
use Rattle.std.proofs.lemmas.List.Sums.{sum_by-append}
use Rattle.std.proofs.Math.Seq.{drop-append_seam}
use Rattle.ticket_slot.specs.Views.{StartsWith, behind, calls_by}
use Rattle.ticket_slot.specs.Rule.{total}

pub total_set : {A : Type 0} (f : A → ℕ) (vs : List A) (i : ℕ) (v w : A) → get_elem? vs i ≡ some v → total f (set vs i w) + f v ≡ total f vs + f w
total_set f [] i v w e = absurd (some-ne-none v (sym e))
total_set f (x ∷ xs) zero v w e = let t = ap f (some-injective x v e) in omega (arith, t)
total_set f (x ∷ xs) (suc i) v w e = let t = total_set f xs i v w e in omega (arith, t)

pub total_below : {A : Type 0} (f : A → ℕ) → ((x : A) → f x ≤ 1) → (vs : List A) → total f vs ≤ length vs
total_below f b [] = omega arith
total_below f b (x ∷ xs) = let t = total_below f b xs in let u = b x in omega (arith, t, u)

pub total_snoc : {A : Type 0} (f : A → ℕ) (vs : List A) (u : A) → total f (vs ++ u ∷ []) ≡ total f vs + f u
total_snoc f [] u = omega arith
total_snoc f (x ∷ xs) u = let t = total_snoc f xs u in omega (arith, t)

one_of : {A : Type 0} (f : A → ℕ) (vs : List A) (j : ℕ) (w : A) → get_elem? vs j ≡ some w → f w ≤ total f vs
one_of f [] j w e = absurd (some-ne-none w (sym e))
one_of f (x ∷ xs) zero w e = let t = ap f (some-injective x w e) in omega (arith, t)
one_of f (x ∷ xs) (suc j) w e = let t = one_of f xs j w e in omega (arith, t)

pub two_of : {A : Type 0} (f : A → ℕ) (vs : List A) (i j : ℕ) (v w : A) → i ≢ j → get_elem? vs i ≡ some v → get_elem? vs j ≡ some w → f v + f w ≤ total f vs
two_of f [] i j v w ne d e = absurd (some-ne-none v (sym d))
two_of f (x ∷ xs) zero zero v w ne d e = absurd (ne refl)
two_of f (x ∷ xs) zero (suc j) v w ne d e = let t = one_of f xs j w e in let u = ap f (some-injective x v d) in omega (arith, t, u)
two_of f (x ∷ xs) (suc i) zero v w ne d e = let t = one_of f xs i v d in let u = ap f (some-injective x w e) in omega (arith, t, u)
two_of f (x ∷ xs) (suc i) (suc j) v w ne d e = let t = two_of f xs i j v w (λ i. ne (ap suc i)) d e in omega (arith, t)

pub at_end : {A : Type 0} (l : List A) (a b : A) (j : ℕ) → get_elem? (l ++ a ∷ []) j ≡ some b → (get_elem? l j ≡ some b) ⊎ ((j ≡ length l) × (a ≡ b))
at_end [] a b zero e = inr (refl, some-injective a b e)
at_end [] a b (suc j) e = absurd (some-ne-none b (sym e))
at_end (x ∷ xs) a b zero e = inl e
at_end (x ∷ xs) a b (suc j) e = ⊎_elim inl (λ t. inr (ap suc t.0, t.1)) (at_end xs a b j e)

pub inside : {A : Type 0} (vs : List A) (i : ℕ) (v : A) → get_elem? vs i ≡ some v → suc i ≤ length vs
inside [] i v e = absurd (some-ne-none v (sym e))
inside (x ∷ xs) zero v e = omega arith
inside (x ∷ xs) (suc i) v e = let t = inside xs i v e in omega (arith, t)

pub there_is : {A : Type 0} (vs : List A) (i : ℕ) → suc i ≤ length vs → (v : A) × (get_elem? vs i ≡ some v)
there_is [] i h = absurd (omega arith)
there_is (x ∷ xs) zero h = (x, refl)
there_is (x ∷ xs) (suc i) h = there_is xs i (omega arith)

-- where a test counts none, no element passes it
pub none_pass : {A : Type 0} (p : A → Bool) (xs : List A) → count_by p xs ≡ 0 → All (λ x. p x ≡ false) xs
none_pass p [] e = All-nil (λ x. p x ≡ false)
none_pass p (x ∷ xs) e = let s : count_by p (x ∷ xs) ≡ cond (p x) 1 0 + count_by p xs = (let t = sum_by-append (λ x. cond (p x) 1 0) (x ∷ []) xs in omega (arith, t)) in
    let c : ◌≡◌ {A = ℕ} (cond (p x) 1 0) 0 = omega (arith, s, e) in All-cons (λ x. p x ≡ false) x xs (no (p x) c) (none_pass p xs (omega (arith, s, e)))
  where
    no : (b : Bool) → ◌≡◌ {A = ℕ} (cond b 1 0) 0 → b ≡ false
    no true h = absurd (omega (arith, h))
    no false h = refl

pub count_cons : {A : Type 0} (p : A → Bool) (x : A) (xs : List A) → count_by p (x ∷ xs) ≡ cond (p x) 1 0 + count_by p xs
count_cons p x xs = let t = sum_by-append (λ x. cond (p x) 1 0) (x ∷ []) xs in omega (arith, t)

pick : {A B : Type 0} → Dec A → B → B → B
pick (yes _) x y = x
pick (no _) x y = y

pub put : (ℕ → ℕ) → ℕ → ℕ → ℕ → ℕ
put f i c j = pick (ℕ_discrete j i) c (f j)

pub put_here : (f : ℕ → ℕ) (i c : ℕ) → put f i c i ≡ c
unfolding put pick
put_here f i c = go (ℕ_discrete i i)
  where
    go : (d : Dec (i ≡ i)) → pick d c (f i) ≡ c
    go (yes _) = refl
    go (no n) = absurd (n refl)

pub put_else : (f : ℕ → ℕ) (i c j : ℕ) → j ≢ i → put f i c j ≡ f j
unfolding put pick
put_else f i c j other = go (ℕ_discrete j i)
  where
    go : (d : Dec (j ≡ i)) → pick d c (f j) ≡ f j
    go (yes e) = absurd (other e)
    go (no _) = refl

pub one_more : (x n : ℕ) → x ≡ n % 2 ^ 64 → (x + 1) % 2 ^ 64 ≡ (n + 1) % 2 ^ 64
one_more x n e = omega (arith, e)

pub some_same : (t u : ℕ) → Some t ≡ Some u → t ≡ u
some_same t u e = cc

pub grown : {A : Type 0} (log seen : List A) → StartsWith log seen → (es : List A) → es ≡ log → StartsWith es seen
grown log seen t es e = (t.0, e ∙ t.1)

pub whole : {A : Type 0} (log es : List A) → es ≡ log → StartsWith log es
whole log es e = ([], sym e ∙ sym (append-nil es))

pub starts_more : {A : Type 0} (log seen more : List A) → StartsWith log seen → StartsWith (log ++ more) seen
starts_more log seen more t = (t.0 ++ more, ap (λ l. l ++ more) t.1 ∙ append_assoc seen t.0 more)

pub calls_more : {E : Type 0} (by n : ℕ) (e : E) (log : List (ℕ × E)) → by ≢ n → calls_by by (log ++ (n, e) ∷ []) ≡ calls_by by log
calls_more {E} by n e log other = filter-append (λ (x : ℕ × E). eqb x.0 by) log ((n, e) ∷ []) ∙ (ap (λ (b : Bool). calls_by by log ++ cond b ((n, e) ∷ []) []) (ne_eqb n by (λ i. other (sym i))) ∙ append-nil (calls_by by log))

-- what one more event leaves behind the history before it: with this a caller of `add` sees `mine` grow by just that event
pub behind_snoc : {A : Type 0} (seen : List A) (x : A) → behind seen (seen ++ x ∷ []) ≡ x ∷ []
behind_snoc seen x = drop-append_seam seen (x ∷ [])

-- one's own event stands behind one's others
pub calls_own : {E : Type 0} (n : ℕ) (e : E) (log seen mine : List (ℕ × E)) → mine ≡ calls_by n log → seen ≡ log → mine ++ behind seen (log ++ (n, e) ∷ []) ≡ calls_by n (log ++ (n, e) ∷ [])
calls_own {E} n e log seen mine own s = (λ i. own i ++ part i) ∙ sym (filter-append (λ (x : ℕ × E). eqb x.0 n) log ((n, e) ∷ []) ∙ ap (λ (b : Bool). calls_by n log ++ cond b ((n, e) ∷ []) []) (same n))
  where
    part : behind seen (log ++ (n, e) ∷ []) ≡ (n, e) ∷ []
    part = ap (λ k. behind k (log ++ (n, e) ∷ [])) s ∙ behind_snoc log (n, e)

    same : (n : ℕ) → eqb n n ≡ true
    same n = grind arith
