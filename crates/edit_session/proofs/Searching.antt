-- Places that are reached from one command.
use Rattle.std.proofs.Common.{ℕ, zero, suc, ◌≡◌, ◌<◌, ◌≤◌, ◌+◌, Bool, true, false, Some, None, List, [], ◌∷◌, ◌++◌, length, get_or, slice_get, slice_set, slice_index_or, All, Contains, refl, ap, sym, subst, ◌∙◌, arith, ◌⊎◌, inl, inr, if◌then◌else◌, append_assoc}
use Rattle.std.specs.Prelude.{IfOk, OnErr, OnOk, Result, Ok, Err, nat_lt}
use Rattle.std.specs.List.Sorted.{IsPermutation}
use Rattle.std.proofs.lemmas.Bool.{ltb-false}
use Rattle.std.proofs.lemmas.List.Elements.{All-get_or, All-set, Contains-append_cases, Contains-append_left, Contains-append_right}
use Rattle.std.proofs.lemmas.List.Sorted.{Contains-permutation, IsPermutation-sym}
use Rattle.std.proofs.lemmas.Option.{slice_get_within, get_or_from_slice_get}
use Rattle.prune_theory.specs.Mentions.{IsAscending}
use Rattle.prune_theory.proofs.Reached.{is_in, none_in, one_in, only_in}
use Rattle.edit_session.specs.Resting.{AreMarked, AreReached, AreReachedFrom, AreUpTo, IsDone, IsSearched, Leads, LeadsOn, ascend_from, by_list, by_rule, own_place}

-- ---- lists at places

pub list_there : (lists : List (List ℕ)) (p : ℕ) (list : List ℕ) → slice_get lists p ≡ Some list → list ≡ get_or lists p []
list_there lists p list e = sym (get_or_from_slice_get lists p list [] e)

pub list_missing : (lists : List (List ℕ)) (p : ℕ) → slice_get lists p ≡ None → [] ≡ get_or lists p []
list_missing [] p e = refl
list_missing (x ∷ lists) zero e = absurd cc
list_missing (x ∷ lists) (suc p) e = list_missing lists p e

-- ---- one place

set_get : (marks : List ℕ) (p mark i : ℕ) → slice_get (slice_set marks p mark) i ≡ Some mark → slice_get marks i ≡ Some mark ⊎ (i ≡ p)
set_get [] zero mark i h = absurd cc
set_get [] (suc p) mark i h = absurd cc
set_get (m ∷ ms) zero mark zero h = inr refl
set_get (m ∷ ms) zero mark (suc i) h = inl h
set_get (m ∷ ms) (suc p) mark zero h = inl h
set_get (m ∷ ms) (suc p) mark (suc i) h = up (set_get ms p mark i h)
  where
    up : slice_get ms i ≡ Some mark ⊎ (i ≡ p) → slice_get ms i ≡ Some mark ⊎ (suc i ≡ suc p)
    up (inl q) = inl q
    up (inr q) = inr (ap suc q)

set_length : (marks : List ℕ) (p mark : ℕ) → length (slice_set marks p mark) ≡ length marks
set_length [] zero mark = refl
set_length [] (suc p) mark = refl
set_length (m ∷ ms) zero mark = refl
set_length (m ∷ ms) (suc p) mark = ap suc (set_length ms p mark)

end_of : (xs : List ℕ) → xs ≡ xs ++ []
end_of [] = refl
end_of (x ∷ xs) = ap (λ (ys : List ℕ). x ∷ ys) (end_of xs)

pub reached_none : (mark : ℕ) (m r : List ℕ) → AreReachedFrom mark m r m r []
reached_none mark m r = record {
  grown = ([], end_of r);
  only = λ i h. inl h;
  there = λ h i c. none_in i c;
  marked = λ h. h;
  count = refl;
  bound = λ h. h;
}

pub reached_seen : (mark : ℕ) (m r : List ℕ) (p : ℕ) → slice_get m p ≡ Some mark → AreReachedFrom mark m r m r (p ∷ [])
reached_seen mark m r p e = record {
  grown = ([], end_of r);
  only = λ i h. inl h;
  there = λ h i c. subst (Contains r) (sym (only_in p i c)) (h p e);
  marked = λ h. h;
  count = refl;
  bound = λ h. h;
}

pub reached_seen_at : (mark : ℕ) (m r : List ℕ) (p d : ℕ) → p < length m → get_or m p d ≡ mark → AreReachedFrom mark m r m r (p ∷ [])
reached_seen_at mark m r p d l e = reached_seen mark m r p (there m p l ∙ ap Some e)
  where
    there : (m : List ℕ) (p : ℕ) → p < length m → slice_get m p ≡ Some (get_or m p d)
    there [] p l = absurd (omega (arith, l))
    there (x ∷ m) zero l = refl
    there (x ∷ m) (suc p) l = there m p (omega (arith, l))

pub reached_new : (mark : ℕ) (m r : List ℕ) (p : ℕ) → p < length m → AreReachedFrom mark m r (slice_set m p mark) (r ++ p ∷ []) (p ∷ [])
reached_new mark m r p l = record {
  grown = (p ∷ [], refl);
  only = λ i h. Contains-append_cases r (p ∷ []) i h;
  there = λ h i c. Contains-append_right r (p ∷ []) i c;
  marked = λ h i e. by h i (set_get m p mark i e);
  count = set_length m p mark;
  bound = λ h. All-set (λ n. n ≤ mark) m p mark (omega arith) h;
}
  where
    by : AreMarked mark m r → (i : ℕ) → slice_get m i ≡ Some mark ⊎ (i ≡ p) → Contains (r ++ p ∷ []) i
    by h i (inl e) = Contains-append_left r (p ∷ []) i (h i e)
    by h i (inr e) = Contains-append_right r (p ∷ []) i (is_in p i e)

pub reached_new_is : (mark : ℕ) (m r m' r' : List ℕ) (p : ℕ) → p < length m → m' ≡ slice_set m p mark → r' ≡ r ++ p ∷ [] → AreReachedFrom mark m r m' r' (p ∷ [])
reached_new_is mark m r m' r' p l e f = subst (λ z. AreReachedFrom mark m r z r' (p ∷ [])) (sym e) (subst (λ z. AreReachedFrom mark m r (slice_set m p mark) z (p ∷ [])) (sym f) (reached_new mark m r p l))

-- ---- one after the other

pub reached_more : (mark : ℕ) {m r m1 r1 m2 r2 : List ℕ} (xs ys : List ℕ) → AreReachedFrom mark m r m1 r1 xs → AreReachedFrom mark m1 r1 m2 r2 ys → AreReachedFrom mark m r m2 r2 (xs ++ ys)
reached_more mark {m} {r} {m1} {r1} {m2} {r2} xs ys a b = record {
  grown = (a.grown.0 ++ b.grown.0, b.grown.1 ∙ ap (λ (z : List ℕ). z ++ b.grown.0) a.grown.1 ∙ append_assoc r a.grown.0 b.grown.0);
  only = λ i h. only i (b.only i h);
  there = λ h i c. there h i (Contains-append_cases xs ys i c);
  marked = λ h. b.marked (a.marked h);
  count = b.count ∙ a.count;
  bound = λ h. b.bound (a.bound h);
}
  where
    first : (i : ℕ) → Contains r i ⊎ Contains xs i → Contains r i ⊎ Contains (xs ++ ys) i
    first i (inl h) = inl h
    first i (inr h) = inr (Contains-append_left xs ys i h)

    only : (i : ℕ) → Contains r1 i ⊎ Contains ys i → Contains r i ⊎ Contains (xs ++ ys) i
    only i (inl h) = first i (a.only i h)
    only i (inr h) = inr (Contains-append_right xs ys i h)

    there : AreMarked mark m r → (i : ℕ) → Contains xs i ⊎ Contains ys i → Contains r2 i
    there h i (inl c) = subst (λ (z : List ℕ). Contains z i) (sym b.grown.1) (Contains-append_left r1 b.grown.0 i (a.there h i c))
    there h i (inr c) = b.there (a.marked h) i c

pub leads_all : (mark : ℕ) (m r xs : List ℕ) → LeadsOn mark m r xs m r xs
leads_all mark m r xs = record { leads = λ m' r' h. h }

pub leads_more : (mark : ℕ) (m r : List ℕ) (x : ℕ) (xs m1 r1 m0 r0 ys : List ℕ) → LeadsOn mark m r (x ∷ xs) m0 r0 ys → AreReachedFrom mark m r m1 r1 (x ∷ []) → LeadsOn mark m1 r1 xs m0 r0 ys
leads_more mark m r x xs m1 r1 m0 r0 ys h a = record { leads = λ m' r' b. h.leads m' r' (reached_more mark (x ∷ []) xs a b) }

pub leads_end : (mark : ℕ) (m r xs m0 r0 ys : List ℕ) → xs ≡ [] → LeadsOn mark m r xs m0 r0 ys → AreReachedFrom mark m0 r0 m r ys
leads_end mark m r xs m0 r0 ys e h = (subst (λ z. LeadsOn mark m r z m0 r0 ys) e h).leads m r (reached_none mark m r)

-- ---- the search

pub unmarked : (mark : ℕ) (m : List ℕ) → All (λ n. n < mark) m → AreMarked mark m []
unmarked mark m h i e = absurd (let l : get_or m i mark < mark = All-get_or (λ n. n < mark) m i mark (slice_get_within m i mark e) h in
    let q : get_or m i mark ≡ mark = get_or_from_slice_get m i mark mark e in omega (arith, l, q))

pub up_to : (mark : ℕ) (m : List ℕ) → All (λ n. n < mark) m → AreUpTo mark m
up_to mark m h = λ k d l. let q : slice_index_or m k d < mark = h k d l in omega (arith, q)

module _ (mentions rules : List (List ℕ)) (k mark : ℕ) where
  pub search_begun : (m m' r' : List ℕ) → All (λ n. n < mark) m → AreReachedFrom mark m [] m' r' (k ∷ []) → IsSearched mentions rules k mark m' r' 0
  search_begun m m' r' below a = record {
    own = a.there (unmarked mark m below) k (one_in k);
    only = λ i h. only i (a.only i h);
    done = λ p l q. absurd (omega (arith, l));
    marked = a.marked (unmarked mark m below);
    bound = a.bound (up_to mark m below);
  }
    where
      only : (i : ℕ) → Contains [] i ⊎ Contains (k ∷ []) i → Leads mentions rules k i
      only i (inl h) = none_in i h
      only i (inr h) = subst (Leads mentions rules k) (sym (only_in k i h)) own_place

  still_done : (r more : List ℕ) (p : ℕ) → IsDone mentions rules r p → IsDone mentions rules (r ++ more) p
  still_done r more p d = record { mentioned = λ j h. Contains-append_left r more j (d.mentioned j h); ruled = λ j h. Contains-append_left r more j (d.ruled j h) }

  front_get : (r more : List ℕ) (p : ℕ) → p < length r → get_or (r ++ more) p 0 ≡ get_or r p 0
  front_get [] more p l = absurd (omega (arith, l))
  front_get (x ∷ r) more zero l = refl
  front_get (x ∷ r) more (suc p) l = front_get r more p (omega (arith, l))

  search_turn : (m r m1 m2 more : List ℕ) (seen : ℕ) → seen < length r → IsSearched mentions rules k mark m r seen
      → AreReachedFrom mark m r m2 (r ++ more) (get_or mentions (get_or r seen 0) [] ++ get_or rules (get_or r seen 0) []) → IsSearched mentions rules k mark m2 (r ++ more) (seen + 1)
  search_turn m r m1 m2 more seen l s a = record {
    own = Contains-append_left r more k s.own;
    only = λ i h. only i (a.only i h);
    done = done;
    marked = a.marked s.marked;
    bound = a.bound s.bound;
  }
    where
      place : ℕ
      place = get_or r seen 0

      there : Contains r place
      there = (seen, l, same r seen l)
        where
          same : (r : List ℕ) (p : ℕ) → p < length r → slice_index_or r p (get_or r p 0) ≡ get_or r p 0
          same [] p l = absurd (omega (arith, l))
          same (x ∷ r) zero l = refl
          same (x ∷ r) (suc p) l = same r p (omega (arith, l))

      asked : (i : ℕ) → Contains (get_or mentions place []) i ⊎ Contains (get_or rules place []) i → Leads mentions rules k i
      asked i (inl h) = by_list (s.only place there) h
      asked i (inr h) = by_rule (s.only place there) h

      only : (i : ℕ) → Contains r i ⊎ Contains (get_or mentions place [] ++ get_or rules place []) i → Leads mentions rules k i
      only i (inl h) = s.only i h
      only i (inr h) = asked i (Contains-append_cases (get_or mentions place []) (get_or rules place []) i h)

      last : IsDone mentions rules (r ++ more) place
      last = record {
        mentioned = λ j h. a.there s.marked j (Contains-append_left (get_or mentions place []) (get_or rules place []) j h);
        ruled = λ j h. a.there s.marked j (Contains-append_right (get_or mentions place []) (get_or rules place []) j h);
      }

      by : (p : ℕ) → (p < seen) ⊎ (p ≡ seen) → p < length r → IsDone mentions rules (r ++ more) (get_or r p 0)
      by p (inl q) within = still_done r more (get_or r p 0) (s.done p q within)
      by p (inr q) within = subst (λ z. IsDone mentions rules (r ++ more) (get_or r z 0)) (sym q) last

      done : (p : ℕ) → p < seen + 1 → p < length (r ++ more) → IsDone mentions rules (r ++ more) (get_or (r ++ more) p 0)
      done p q w = let within : p < length r = omega (arith, l, q) in subst (IsDone mentions rules (r ++ more)) (sym (front_get r more p within)) (by p (split p seen q) within)
        where
          split : (p n : ℕ) → p < n + 1 → (p < n) ⊎ (p ≡ n)
          split zero zero q = inr refl
          split zero (suc n) q = inl (omega arith)
          split (suc p) zero q = absurd (omega (arith, q))
          split (suc p) (suc n) q = up (split p n (omega (arith, q)))
            where
              up : (p < n) ⊎ (p ≡ n) → (suc p < suc n) ⊎ (suc p ≡ suc n)
              up (inl z) = inl (omega (arith, z))
              up (inr z) = inr (ap suc z)

  -- all that is reached was looked at
  pub search_ended : (m r : List ℕ) (seen : ℕ) → length r ≤ seen → IsSearched mentions rules k mark m r seen → AreReached mentions rules k r
  search_ended m r seen l s = record { all = λ i h. all h; only = s.only }
    where
      at : (i : ℕ) → Contains r i → IsDone mentions rules r i
      at i (p, q, e) = subst (IsDone mentions rules r) (default r p i q ∙ e) (s.done p (omega (arith, q, l)) q)
        where
          default : (r : List ℕ) (p i : ℕ) → p < length r → get_or r p 0 ≡ slice_index_or r p i
          default [] p i l = absurd (omega (arith, l))
          default (x ∷ r) zero i l = refl
          default (x ∷ r) (suc p) i l = default r p i (omega (arith, l))

      all : {i : ℕ} → Leads mentions rules k i → Contains r i
      all own_place = s.own
      all (by_list {i} {j} h c) = (at i (all h)).mentioned j c
      all (by_rule {i} {j} h c) = (at i (all h)).ruled j c

  -- one place is looked at, in two goes
  pub search_goes_on : (m r m1 r1 m2 r2 xs ys : List ℕ) (seen place : ℕ) → slice_get r seen ≡ Some place → xs ≡ get_or mentions place [] → ys ≡ get_or rules place [] → IsSearched mentions rules k mark m r seen
      → AreReachedFrom mark m r m1 r1 xs → AreReachedFrom mark m1 r1 m2 r2 ys → IsSearched mentions rules k mark m2 r2 (seen + 1)
  search_goes_on m r m1 r1 m2 r2 xs ys seen place at e f s a b =
      let whole : AreReachedFrom mark m r m2 r2 (xs ++ ys) = reached_more mark xs ys a b in
      let is : get_or r seen 0 ≡ place = get_or_from_slice_get r seen place 0 at in
      let lists : xs ++ ys ≡ get_or mentions (get_or r seen 0) [] ++ get_or rules (get_or r seen 0) [] = (λ i. e i ++ f i) ∙ ap (λ p. get_or mentions p [] ++ get_or rules p []) (sym is) in
      let grown : AreReachedFrom mark m r m2 (r ++ whole.grown.0) (get_or mentions (get_or r seen 0) [] ++ get_or rules (get_or r seen 0) []) =
      subst (λ z. AreReachedFrom mark m r m2 z (get_or mentions (get_or r seen 0) [] ++ get_or rules (get_or r seen 0) [])) whole.grown.1 (subst (AreReachedFrom mark m r m2 r2) lists whole) in
      subst (λ z. IsSearched mentions rules k mark m2 z (seen + 1)) (sym whole.grown.1) (search_turn m r m1 m2 whole.grown.0 seen (slice_get_within r seen place at) s grown)

-- ---- in their order

above : (n : ℕ) (ys : List ℕ) → ascend_from n ys ≡ true → (y : ℕ) → Contains ys y → n ≤ y
above n [] e y c = none_in y c
above n (z ∷ zs) e y c = step (λ f h. above (z + 1) zs f y h) (nat_lt z n) refl e (Contains-append_cases (z ∷ []) zs y c)
  where
    step : (ascend_from (z + 1) zs ≡ true → Contains zs y → z + 1 ≤ y) → (b : Bool) → nat_lt z n ≡ b → (if b then false else ascend_from (z + 1) zs) ≡ true → Contains (z ∷ []) y ⊎ Contains zs y → n ≤ y
    step again true q e c = absurd cc
    step again false q e (inl h) = let r : y ≡ z = only_in z y h in let l : n ≤ z = ltb-false z n q in omega (arith, r, l)
    step again false q e (inr h) = let r : z + 1 ≤ y = again e h in let l : n ≤ z = ltb-false z n q in omega (arith, r, l)

pub ascends : (least : ℕ) (xs : List ℕ) → ascend_from least xs ≡ true → IsAscending xs
ascends least [] e = tt
ascends least (x ∷ xs) e = by (λ f. ascends (x + 1) xs f) (nat_lt x least) e
  where
    by : (ascend_from (x + 1) xs ≡ true → IsAscending xs) → (b : Bool) → (if b then false else ascend_from (x + 1) xs) ≡ true → IsAscending (x ∷ xs)
    by again true e = absurd cc
    by again false e = ((λ y c. let r : x + 1 ≤ y = above (x + 1) xs e y c in omega (arith, r)), again e)

pub same_reached : (mentions rules : List (List ℕ)) (k : ℕ) (xs ys : List ℕ) → ((i : ℕ) → Contains xs i → Contains ys i) → ((i : ℕ) → Contains ys i → Contains xs i) → AreReached mentions rules k xs → AreReached mentions rules k ys
same_reached mentions rules k xs ys f g h = record { all = λ i l. f i (h.all i l); only = λ i c. h.only i (g i c) }

pub permuted_in : (xs ys : List ℕ) → IsPermutation xs ys → (i : ℕ) → Contains xs i → Contains ys i
permuted_in xs ys p i c = Contains-permutation xs ys i p c

pub permuted_back : (xs ys : List ℕ) → IsPermutation xs ys → (i : ℕ) → Contains ys i → Contains xs i
permuted_back xs ys p i c = Contains-permutation ys xs i (IsPermutation-sym xs ys p) c

pub ordered : {V E : Type 0} (mentions rules : List (List ℕ)) (k : ℕ) (r : List ℕ) (P : Type 0) (result : Result V E) (items : V → List ℕ) → (P → AreReached mentions rules k r) → IfOk result (λ v. (i : ℕ) → Contains r i → Contains (items v) i)
    → IfOk result (λ v. (i : ℕ) → Contains (items v) i → Contains r i) → IfOk result (λ v. P → AreReached mentions rules k (items v))
ordered mentions rules k r P (Ok v) items h f g = λ p. same_reached mentions rules k r (items v) f g (h p)
ordered mentions rules k r P (Err e) items h f g = tt

pub given_ok : {V E : Type 0} (T : Type 0) (result : Result V E) → T → OnOk result T
given_ok T (Ok v) t = t
given_ok T (Err e) t = tt

pub given_err : {V E : Type 0} (T : Type 0) (result : Result V E) → T → OnErr result T
given_err T (Ok v) t = tt
given_err T (Err e) t = t
