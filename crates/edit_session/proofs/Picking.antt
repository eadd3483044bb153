-- The texts at ascending places are those that are picked by them.
use Rattle.std.proofs.Common.{ℕ, zero, suc, ◌≡◌, ◌<◌, ◌≤◌, ◌+◌, Bool, true, false, Some, List, [], ◌∷◌, ◌++◌, Contains, get_or, length, slice_get, take, refl, ap, sym, subst, ◌∙◌, arith, ◌⊎◌, inl, inr, if◌then◌else◌}
use Rattle.std.proofs.lemmas.List.Elements.{Contains-append_left, Contains-append_right, Contains-append_cases}
use Rattle.dk_model.specs.Captures.{is_in}
use Rattle.prune_theory.specs.Mentions.{IsAscending}
use Rattle.prune_theory.specs.Renumbering.{picked}
use Rattle.prune_theory.proofs.Reached.{none_in, one_in, only_in}
use Rattle.edit_session.specs.Answers.{is_among}
use Rattle.edit_session.specs.Grounds.{texts_at}
use Rattle.edit_session.proofs.Numbers.{AreFrom, above_head, contains_in, from_next, is_head, not_head}

-- ---- the last place

-- the others are below it, and all up to it are among the others or it
ascending_before : (ps : List ℕ) (k : ℕ) → IsAscending (ps ++ k ∷ []) → IsAscending ps
ascending_before [] k a = tt
ascending_before (p ∷ ps) k a = ((λ y c. a.0 y (Contains-append_left ps (k ∷ []) y c)), ascending_before ps k a.1)

last_above : (ps : List ℕ) (k : ℕ) → IsAscending (ps ++ k ∷ []) → (y : ℕ) → Contains ps y → y < k
last_above [] k a y c = none_in y c
last_above (p ∷ ps) k a y c = by (λ h. last_above ps k a.1 y h) (Contains-append_cases (p ∷ []) ps y c)
  where
    by : (Contains ps y → y < k) → Contains (p ∷ []) y ⊎ Contains ps y → y < k
    by again (inl h) = subst (λ z. z < k) (sym (only_in p y h)) (a.0 k (Contains-append_right ps (k ∷ []) k (one_in k)))
    by again (inr h) = again h

in_more : (ps : List ℕ) (k j : ℕ) → ¬ (j ≡ k) → is_in j (ps ++ k ∷ []) ≡ is_in j ps
in_more [] k j n = not_head j k [] n
in_more (p ∷ ps) k j n = by (ap (λ b. b) (in_more ps k j n))
  where
    by : is_in j (ps ++ k ∷ []) ≡ is_in j ps → is_in j ((p ∷ ps) ++ k ∷ []) ≡ is_in j (p ∷ ps)
    by e = in_both j p (ps ++ k ∷ []) ps e
      where
        in_both : (j p : ℕ) (xs ys : List ℕ) → is_in j xs ≡ is_in j ys → is_in j (p ∷ xs) ≡ is_in j (p ∷ ys)
        in_both j p xs ys e = cc

in_last : (ps : List ℕ) (k : ℕ) → is_in k (ps ++ k ∷ []) ≡ true
in_last ps k = contains_in k (ps ++ k ∷ []) (Contains-append_right ps (k ∷ []) k (one_in k))

-- ---- what is picked

-- the test agrees with the places from `n` to `m`
abbrev Within : (ℕ → Bool) → ℕ → ℕ → List ℕ → Type 0
Within keep n m ps = (j : ℕ) → n ≤ j → j < m → keep j ≡ is_in j ps

record IsPartFrom (all : List (List ℕ)) (n : ℕ) (xs : List (List ℕ)) : Type 0 where
  pub same : (i : ℕ) → i < length xs → get_or all (n + i) [] ≡ get_or xs i []

part_rest : (all : List (List ℕ)) (n : ℕ) (x : List ℕ) (xs : List (List ℕ)) → IsPartFrom all n (x ∷ xs) → IsPartFrom all (suc n) xs
part_rest all n x xs h = record { same = λ i l. ap (λ z. get_or all z []) (let q : suc n + i ≡ n + suc i = omega arith in q) ∙ h.same (suc i) (omega (arith, l)) }

picks_from : (all : List (List ℕ)) (keep : ℕ → Bool) (n : ℕ) (xs : List (List ℕ)) (ps : List ℕ) → IsPartFrom all n xs → Within keep n (n + length xs) ps → IsAscending ps → AreFrom n ps
    → ((y : ℕ) → Contains ps y → y < n + length xs) → picked keep n xs ≡ texts_at all ps
picks_from all keep n [] [] part w a f below = refl
picks_from all keep n [] (p ∷ ps) part w a f below = absurd (let l : p < n + 0 = below p (Contains-append_left (p ∷ []) ps p (one_in p)) in let m : n ≤ p = f p (contains_in p (p ∷ ps) (Contains-append_left (p ∷ []) ps p (one_in p))) in omega (arith, l, m))
picks_from all keep n (x ∷ xs) ps part w a f below = by (λ qs. picks_from all keep (suc n) xs qs (part_rest all n x xs part)) (is_in n ps) refl
  where
    here : keep n ≡ is_in n ps
    here = w n (omega arith) (omega arith)

    first : get_or all n [] ≡ x
    first = ap (λ z. get_or all z []) (let q : n ≡ n + 0 = omega arith in q) ∙ part.same 0 (omega arith)

    kept : ((qs : List ℕ) → Within keep (suc n) (suc n + length xs) qs → IsAscending qs → AreFrom (suc n) qs → ((y : ℕ) → Contains qs y → y < suc n + length xs) → picked keep (suc n) xs ≡ texts_at all qs)
        → (qs : List ℕ) → ps ≡ n ∷ qs → picked keep (suc n) xs ≡ texts_at all qs
    kept again qs e = let a' : IsAscending (n ∷ qs) = subst IsAscending e a in
        again qs (λ j l m. w j (omega (arith, l)) (omega (arith, m)) ∙ ap (is_in j) e ∙ not_head j n qs (λ p. let z : j ≡ n = p in absurd (omega (arith, z, l)))) a'.1 (above_head n qs a')
        (λ y c. let b : y < n + length (x ∷ xs) = below y (subst (λ (z : List ℕ). Contains z y) (sym e) (Contains-append_right (n ∷ []) qs y c)) in omega (arith, b))

    by : ((qs : List ℕ) → Within keep (suc n) (suc n + length xs) qs → IsAscending qs → AreFrom (suc n) qs → ((y : ℕ) → Contains qs y → y < suc n + length xs) → picked keep (suc n) xs ≡ texts_at all qs)
        → (b : Bool) → is_in n ps ≡ b → (if keep n then x ∷ picked keep (suc n) xs else picked keep (suc n) xs) ≡ texts_at all ps
    by again true q = let h : (qs : List ℕ) × (ps ≡ n ∷ qs) = is_head n ps a f q in
        ap (λ b. if b then x ∷ picked keep (suc n) xs else picked keep (suc n) xs) (here ∙ q)
        ∙ (λ i. sym first i ∷ kept again h.0 h.1 i) ∙ sym (ap (texts_at all) h.1)
    by again false q = ap (λ b. if b then x ∷ picked keep (suc n) xs else picked keep (suc n) xs) (here ∙ q)
        ∙ again ps (λ j l m. w j (omega (arith, l)) (omega (arith, m))) a (from_next n ps f q)
        (λ y c. let b : y < n + length (x ∷ xs) = below y c in omega (arith, b))

front_part : (all : List (List ℕ)) (k : ℕ) → IsPartFrom all 0 (take k all)
front_part all k = record { same = λ i l. ap (λ z. get_or all z []) (let q : 0 + i ≡ i = omega arith in q) ∙ sym (by all k i l) }
  where
    by : (all : List (List ℕ)) (k i : ℕ) → i < length (take k all) → get_or (take k all) i [] ≡ get_or all i []
    by all zero i l = absurd (omega (arith, l))
    by [] (suc k) i l = absurd (omega (arith, l))
    by (x ∷ all) (suc k) zero l = refl
    by (x ∷ all) (suc k) (suc i) l = by all k i (omega (arith, l))

pub take_length : {A : Type 0} (k : ℕ) (xs : List A) → k ≤ length xs → length (take k xs) ≡ k
take_length zero xs l = refl
take_length (suc k) [] l = absurd (omega (arith, l))
take_length (suc k) (x ∷ xs) l = ap suc (take_length k xs (omega (arith, l)))

pub take_one_more : {A : Type 0} (k : ℕ) (xs : List A) (x : A) → slice_get xs k ≡ Some x → take (k + 1) xs ≡ take k xs ++ x ∷ []
take_one_more zero [] x e = absurd cc
take_one_more zero (y ∷ xs) x e = let q : y ≡ x = cc in ap (λ (z : _). z ∷ []) q
take_one_more (suc k) [] x e = absurd cc
take_one_more (suc k) (y ∷ xs) x e = ap (λ n. take n (y ∷ xs)) (let q : suc k + 1 ≡ suc (k + 1) = omega arith in q) ∙ ap (λ (l : List _). y ∷ l) (take_one_more k xs x e)

picked_last : {A : Type 0} (keep : ℕ → Bool) (n : ℕ) (xs : List A) (x : A) → keep (n + length xs) ≡ true → picked keep n (xs ++ x ∷ []) ≡ picked keep n xs ++ x ∷ []
picked_last keep n [] x e = ap (λ b. if b then x ∷ [] else []) (ap keep (let q : n ≡ n + 0 = omega arith in q) ∙ e)
picked_last keep n (y ∷ xs) x e = by (keep n) (picked_last keep (suc n) xs x (ap keep (let q : suc n + length xs ≡ n + length (y ∷ xs) = omega arith in q) ∙ e))
  where
    by : (b : Bool) → picked keep (suc n) (xs ++ x ∷ []) ≡ picked keep (suc n) xs ++ x ∷ [] → (if b then y ∷ picked keep (suc n) (xs ++ x ∷ []) else picked keep (suc n) (xs ++ x ∷ []))
        ≡ (if b then y ∷ picked keep (suc n) xs else picked keep (suc n) xs) ++ x ∷ []
    by true r = ap (λ (l : List _). y ∷ l) r
    by false r = r

-- the texts before the place `k` at all places but the last, which is `k`
pub grounds_picked : (texts : List (List ℕ)) (k : ℕ) (ps : List ℕ) → k ≤ length texts → IsAscending (ps ++ k ∷ []) → picked (is_among (ps ++ k ∷ [])) 0 (take k texts) ≡ texts_at texts ps
grounds_picked texts k ps l a = let n : length (take k texts) ≡ k = take_length k texts l in
    picks_from texts (is_among (ps ++ k ∷ [])) 0 (take k texts) ps (front_part texts k)
    (λ j p q. in_more ps k j (λ e. let z : j ≡ k = e in absurd (omega (arith, z, q, n)))) (ascending_before ps k a) (λ j e. omega arith)
    (λ y c. let b : y < k = last_above ps k a y c in omega (arith, b, n))

-- and with its own
pub list_picked : (texts : List (List ℕ)) (k : ℕ) (text : List ℕ) (ps : List ℕ) → slice_get texts k ≡ Some text → k ≤ length texts → IsAscending (ps ++ k ∷ [])
    → texts_at texts ps ++ text ∷ [] ≡ picked (is_among (ps ++ k ∷ [])) 0 (take (k + 1) texts)
list_picked texts k text ps e l a = ap (λ (z : List (List ℕ)). z ++ text ∷ []) (sym (grounds_picked texts k ps l a))
    ∙ sym (ap (picked (is_among (ps ++ k ∷ [])) 0) (take_one_more k texts text e)
    ∙ picked_last (is_among (ps ++ k ∷ [])) 0 (take k texts) text (ap (is_among (ps ++ k ∷ [])) (let n : length (take k texts) ≡ k = take_length k texts l in let q : 0 + length (take k texts) ≡ k = omega (arith, n) in q) ∙ in_last ps k))

-- the greatest of ascending places is the last
pub last_is : (ps : List ℕ) (own k : ℕ) → IsAscending (ps ++ own ∷ []) → Contains (ps ++ own ∷ []) k → ((i : ℕ) → Contains (ps ++ own ∷ []) i → i ≤ k) → own ≡ k
last_is ps own k a c below = by (Contains-append_cases ps (own ∷ []) k c)
  where
    at_most : own ≤ k
    at_most = below own (Contains-append_right ps (own ∷ []) own (one_in own))

    by : Contains ps k ⊎ Contains (own ∷ []) k → own ≡ k
    by (inl h) = let l : k < own = last_above ps own a k h in absurd (omega (arith, l, at_most))
    by (inr h) = sym (only_in own k h)
