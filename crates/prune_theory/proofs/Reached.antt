-- Places that are marked and wait.
use Rattle.std.proofs.Common.{List, [], ◌∷◌, ◌++◌, length, replicate, slice_get, slice_set, slice_index_or, Contains, ℕ, zero, suc, ◌≡◌, ◌<◌, ◌≤◌, ◌+◌, Bool, true, false, Some, refl, ap, sym, subst, ◌∙◌, arith, ◌⊎◌, inl, inr}
use Rattle.std.proofs.lemmas.List.Elements.{Contains-append_left, Contains-append_right, Contains-append_cases}
use Rattle.std.proofs.lemmas.Option.{slice_get_within}
use Rattle.prune_theory.specs.Reaching.{IsMarked, unmarked, weight, Reaches, AllBelow, Leads}

-- ---- elements

pub none_in : {C : Type 0} (i : ℕ) → Contains [] i → C
none_in {C} i c = by c.0 c.1
  where
    by : (k : ℕ) → k < 0 → C
    by k l = absurd (omega arith)

pub one_in : (x : ℕ) → Contains (x ∷ []) x
one_in x = (0, omega arith, refl)

pub only_in : (x i : ℕ) → Contains (x ∷ []) i → i ≡ x
only_in x i c = by c.0 c.1 c.2
  where
    by : (k : ℕ) → k < 1 → slice_index_or (x ∷ []) k i ≡ i → i ≡ x
    by zero l e = sym e
    by (suc k) l e = absurd (omega arith)

pub is_in : (x i : ℕ) → i ≡ x → Contains (x ∷ []) i
is_in x i e = subst (λ z. Contains (z ∷ []) i) e (one_in i)

pub longer : {A : Type 0} (xs : List A) (x : A) → length (xs ++ x ∷ []) ≡ suc (length xs)
longer [] x = refl
longer (y ∷ xs) x = ap suc (longer xs x)

-- ---- marks

marked_here : (x : ℕ) (m : List Bool) → x < length m → IsMarked (slice_set m x true) x
marked_here zero [] l = absurd (omega arith)
marked_here (suc x) [] l = absurd (omega arith)
marked_here zero (b ∷ m) l = refl
marked_here (suc x) (b ∷ m) l = marked_here x m (omega arith)

marked_there : (x i : ℕ) (m : List Bool) → IsMarked m i → IsMarked (slice_set m x true) i
marked_there zero i [] h = absurd cc
marked_there (suc x) i [] h = absurd cc
marked_there zero zero (b ∷ m) h = refl
marked_there zero (suc i) (b ∷ m) h = h
marked_there (suc x) zero (b ∷ m) h = h
marked_there (suc x) (suc i) (b ∷ m) h = marked_there x i m h

marked_only : (x i : ℕ) (m : List Bool) → IsMarked (slice_set m x true) i → IsMarked m i ⊎ (i ≡ x)
marked_only zero i [] h = absurd cc
marked_only (suc x) i [] h = absurd cc
marked_only zero zero (b ∷ m) h = inr refl
marked_only zero (suc i) (b ∷ m) h = inl h
marked_only (suc x) zero (b ∷ m) h = inl h
marked_only (suc x) (suc i) (b ∷ m) h = up (marked_only x i m h)
  where
    up : IsMarked m i ⊎ (i ≡ x) → IsMarked m i ⊎ (suc i ≡ suc x)
    up (inl q) = inl q
    up (inr q) = inr (ap suc q)

set_count : (x : ℕ) (m : List Bool) → length (slice_set m x true) ≡ length m
set_count zero [] = refl
set_count (suc x) [] = refl
set_count zero (b ∷ m) = refl
set_count (suc x) (b ∷ m) = ap suc (set_count x m)

set_less : (x : ℕ) (m : List Bool) → slice_get m x ≡ Some false → suc (unmarked (slice_set m x true)) ≡ unmarked m
set_less zero [] e = absurd cc
set_less (suc x) [] e = absurd cc
set_less zero (true ∷ m) e = absurd cc
set_less zero (false ∷ m) e = refl
set_less (suc x) (true ∷ m) e = set_less x m e
set_less (suc x) (false ∷ m) e = ap suc (set_less x m e)

pub not_marked : {C : Type 0} (n i : ℕ) → IsMarked (replicate n false) i → C
not_marked zero i h = absurd cc
not_marked (suc n) zero h = absurd cc
not_marked (suc n) (suc i) h = not_marked n i h

-- ---- reaching

pub reaches_none : (m : List Bool) (w : List ℕ) → Reaches m w m w []
reaches_none m w = record {
  count = refl;
  kept = λ i h. h;
  reached = λ i c. none_in i c;
  only = λ i h. inl h;
  waits = λ i c. c;
  waiting = λ i c. inl c;
  new = λ i h. inl h;
  lighter = omega arith;
}

pub reaches_seen : (m : List Bool) (w : List ℕ) (x : ℕ) → slice_get m x ≡ Some true → Reaches m w m w (x ∷ [])
reaches_seen m w x h = record {
  count = refl;
  kept = λ i q. q;
  reached = λ i c. subst (IsMarked m) (sym (only_in x i c)) h;
  only = λ i q. inl q;
  waits = λ i c. c;
  waiting = λ i c. inl c;
  new = λ i q. inl q;
  lighter = omega arith;
}

pub reaches_new : (m : List Bool) (w : List ℕ) (x : ℕ) → slice_get m x ≡ Some false → Reaches m w (slice_set m x true) (w ++ x ∷ []) (x ∷ [])
reaches_new m w x e = record {
  count = set_count x m;
  kept = λ i q. marked_there x i m q;
  reached = λ i c. subst (IsMarked (slice_set m x true)) (sym (only_in x i c)) (marked_here x m (slice_get_within m x false e));
  only = λ i q. asked i (marked_only x i m q);
  waits = λ i c. Contains-append_left w (x ∷ []) i c;
  waiting = λ i c. Contains-append_cases w (x ∷ []) i c;
  new = λ i q. behind i (marked_only x i m q);
  lighter = (let l : length (w ++ x ∷ []) ≡ suc (length w) = longer w x in let s : suc (unmarked (slice_set m x true)) ≡ unmarked m = set_less x m e in omega arith);
}
  where
    asked : (i : ℕ) → IsMarked m i ⊎ (i ≡ x) → IsMarked m i ⊎ Contains (x ∷ []) i
    asked i (inl q) = inl q
    asked i (inr q) = inr (is_in x i q)

    behind : (i : ℕ) → IsMarked m i ⊎ (i ≡ x) → IsMarked m i ⊎ Contains (w ++ x ∷ []) i
    behind i (inl q) = inl q
    behind i (inr q) = inr (Contains-append_right w (x ∷ []) i (is_in x i q))

pub reaches_new_is : (m : List Bool) (w : List ℕ) (x : ℕ) (m' : List Bool) (w' : List ℕ) → slice_get m x ≡ Some false → m' ≡ slice_set m x true → w' ≡ w ++ x ∷ [] → Reaches m w m' w' (x ∷ [])
reaches_new_is m w x m' w' e p q = subst (λ z. Reaches m w z w' (x ∷ [])) (sym p) (subst (λ z. Reaches m w (slice_set m x true) z (x ∷ [])) (sym q) (reaches_new m w x e))

pub reaches_more : {m : List Bool} {w : List ℕ} {m1 : List Bool} {w1 : List ℕ} {m2 : List Bool} {w2 : List ℕ} (xs ys : List ℕ) → Reaches m w m1 w1 xs → Reaches m1 w1 m2 w2 ys → Reaches m w m2 w2 (xs ++ ys)
reaches_more {m} {w} {m1} {w1} {m2} {w2} xs ys a b = record {
  count = b.count ∙ a.count;
  kept = λ i h. b.kept i (a.kept i h);
  reached = λ i c. reached i (Contains-append_cases xs ys i c);
  only = λ i h. only i (b.only i h);
  waits = λ i c. b.waits i (a.waits i c);
  waiting = λ i c. waiting i (b.waiting i c);
  new = λ i h. new i (b.new i h);
  lighter = (let p : weight m1 w1 ≤ weight m w = a.lighter in let q : weight m2 w2 ≤ weight m1 w1 = b.lighter in omega arith);
}
  where
    reached : (i : ℕ) → Contains xs i ⊎ Contains ys i → IsMarked m2 i
    reached i (inl c) = b.kept i (a.reached i c)
    reached i (inr c) = b.reached i c

    first : (i : ℕ) → IsMarked m i ⊎ Contains xs i → IsMarked m i ⊎ Contains (xs ++ ys) i
    first i (inl h) = inl h
    first i (inr c) = inr (Contains-append_left xs ys i c)

    only : (i : ℕ) → IsMarked m1 i ⊎ Contains ys i → IsMarked m i ⊎ Contains (xs ++ ys) i
    only i (inl h) = first i (a.only i h)
    only i (inr c) = inr (Contains-append_right xs ys i c)

    before : (i : ℕ) → Contains w i ⊎ Contains xs i → Contains w i ⊎ Contains (xs ++ ys) i
    before i (inl h) = inl h
    before i (inr c) = inr (Contains-append_left xs ys i c)

    waiting : (i : ℕ) → Contains w1 i ⊎ Contains ys i → Contains w i ⊎ Contains (xs ++ ys) i
    waiting i (inl h) = before i (a.waiting i h)
    waiting i (inr c) = inr (Contains-append_right xs ys i c)

    still : (i : ℕ) → IsMarked m i ⊎ Contains w1 i → IsMarked m i ⊎ Contains w2 i
    still i (inl h) = inl h
    still i (inr c) = inr (b.waits i c)

    new : (i : ℕ) → IsMarked m1 i ⊎ Contains w2 i → IsMarked m i ⊎ Contains w2 i
    new i (inl h) = still i (a.new i h)
    new i (inr c) = inr c

-- ---- one after the other

pub below_rest : (n m : ℕ) (x : ℕ) (xs : List ℕ) → m ≡ n → AllBelow n (x ∷ xs) → AllBelow m xs
below_rest n m x xs e h = record { each = λ i c. subst (λ z. i < z) (sym e) (h.each i (Contains-append_right (x ∷ []) xs i c)) }

pub below_first : (n : ℕ) (x : ℕ) (xs : List ℕ) → AllBelow n (x ∷ xs) → x < n
below_first n x xs h = h.each x (Contains-append_left (x ∷ []) xs x (one_in x))

pub leads_all : (m : List Bool) (w : List ℕ) (xs : List ℕ) → Leads m w xs m w xs
leads_all m w xs = record { leads = λ m' w' r. r }

pub leads_more : (m : List Bool) (w : List ℕ) (x : ℕ) (xs : List ℕ) (m1 : List Bool) (w1 : List ℕ) (m0 : List Bool) (w0 : List ℕ) (ys : List ℕ) → Leads m w (x ∷ xs) m0 w0 ys → Reaches m w m1 w1 (x ∷ [])
    → Leads m1 w1 xs m0 w0 ys
leads_more m w x xs m1 w1 m0 w0 ys h a = record { leads = λ m' w' r. h.leads m' w' (reaches_more (x ∷ []) xs a r) }

pub leads_end : (m : List Bool) (w : List ℕ) (xs : List ℕ) (m0 : List Bool) (w0 : List ℕ) (ys : List ℕ) → xs ≡ [] → Leads m w xs m0 w0 ys → Reaches m0 w0 m w ys
leads_end m w xs m0 w0 ys e h = (subst (λ z. Leads m w z m0 w0 ys) e h).leads m w (reaches_none m w)

pub same_count : (m : List Bool) (w : List ℕ) (m1 : List Bool) (w1 : List ℕ) (xs : List ℕ) → Reaches m w m1 w1 xs → length m1 ≡ length m
same_count m w m1 w1 xs r = r.count

pub one_list_more : (n : ℕ) → replicate n [] ++ [] ∷ [] ≡ replicate (n + 1) (let e : List ℕ = [] in e)
one_list_more n = by n ∙ ap (λ k. replicate k []) (let q : suc n ≡ n + 1 = omega arith in q)
  where
    by : (n : ℕ) → replicate n (let e : List ℕ = [] in e) ++ [] ∷ [] ≡ replicate (suc n) []
    by zero = refl
    by (suc n) = ap (λ (l : List (List ℕ)). [] ∷ l) (by n)

pub one_mark_more : (n : ℕ) → replicate n false ++ false ∷ [] ≡ replicate (n + 1) false
one_mark_more n = by n ∙ ap (λ k. replicate k false) (let q : suc n ≡ n + 1 = omega arith in q)
  where
    by : (n : ℕ) → replicate n false ++ false ∷ [] ≡ replicate (suc n) false
    by zero = refl
    by (suc n) = ap (λ (l : List Bool). false ∷ l) (by n)

pub none_of : {A : Type 0} (xs : List A) → length xs ≡ 0 → xs ≡ []
none_of [] e = refl
none_of (x ∷ xs) e = absurd cc
