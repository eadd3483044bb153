-- From one place that is looked at to the next, and what is marked at the end.
use Rattle.std.proofs.Common.{List, [], ◌∷◌, ◌++◌, length, replicate, get_or, slice_get, Contains, ℕ, zero, suc, ◌≡◌, ◌<◌, ◌≤◌, ◌+◌, Bool, true, false, Some, refl, ap, sym, subst, ◌∙◌, arith, ◌⊎◌, inl, inr, if◌then◌else◌}
use Rattle.std.proofs.lemmas.List.Elements.{Contains-append_left, Contains-append_right, Contains-append_cases}
use Rattle.std.proofs.lemmas.Option.{slice_get_within, get_or_from_slice_get}
use Rattle.dk_model.specs.PlainCommands.{PlainCommand}
use Rattle.prune_theory.specs.Mentions.{symbols_of, heads_of, Rests, itself, by_mention, by_head, IsAscending, MentionBefore}
use Rattle.prune_theory.specs.Reaching.{IsMarked, weight, places_from, Reaches, AllBelow, HasRule, IsIndex, IsDone, IsUnderWay}
use Rattle.prune_theory.proofs.Closure.{rests_least}
use Rattle.prune_theory.proofs.Reached.{none_in, one_in, only_in, is_in, longer, not_marked, reaches_more}

pub defaults : (index : List (List ℕ)) (p : ℕ) (a b : List ℕ) → p < length index → get_or index p a ≡ get_or index p b
defaults [] p a b l = absurd (omega arith)
defaults (x ∷ xs) zero a b l = refl
defaults (x ∷ xs) (suc p) a b l = defaults xs p a b (omega arith)

module _ (commands : List PlainCommand) (k : ℕ) (index : List (List ℕ)) where
  -- ---- the begin

  unmarked_count : (n : ℕ) → length (replicate n false) ≡ n
  unmarked_count zero = refl
  unmarked_count (suc n) = ap suc (unmarked_count n)

  pub begun : (m : List Bool) (w : List ℕ) → Reaches (replicate (k + 1) false) [] m w (k ∷ []) → IsUnderWay commands k index m w
  begun m w r = record {
    count = r.count ∙ unmarked_count (k + 1);
    last = r.reached k (one_in k);
    sound = λ i h. sound i (r.only i h);
    waiting = λ i c. waiting i (r.waiting i c);
    closed = λ i h. closed i (r.new i h);
  }
    where
      sound : (i : ℕ) → IsMarked (replicate (k + 1) false) i ⊎ Contains (k ∷ []) i → Rests commands k i
      sound i (inl h) = not_marked (k + 1) i h
      sound i (inr c) = subst (Rests commands k) (sym (only_in k i c)) itself

      waiting : (i : ℕ) → Contains [] i ⊎ Contains (k ∷ []) i → IsMarked m i
      waiting i (inl c) = none_in i c
      waiting i (inr c) = r.reached i c

      closed : (i : ℕ) → IsMarked (replicate (k + 1) false) i ⊎ Contains w i → Contains w i ⊎ IsDone commands index m i
      closed i (inl h) = not_marked (k + 1) i h
      closed i (inr c) = inl c

  -- ---- a turn

  module _ (is : IsIndex commands k index) where
    -- the place that is looked at is marked
    pub looked_at : (m : List Bool) (w : List ℕ) (p : ℕ) → IsUnderWay commands k index m (w ++ p ∷ []) → IsMarked m p
    looked_at m w p u = u.waiting p (Contains-append_right w (p ∷ []) p (one_in p))

    pub place_within : (m : List Bool) (w : List ℕ) (p : ℕ) → IsUnderWay commands k index m (w ++ p ∷ []) → p < k + 1
    place_within m w p u = subst (λ z. p < z) u.count (slice_get_within m p true (looked_at m w p u))

    pub mentions_within : MentionBefore commands → (m : List Bool) (w : List ℕ) (p : ℕ) (c : PlainCommand) → IsUnderWay commands k index m (w ++ p ∷ []) → slice_get commands p ≡ Some c
        → AllBelow (length m) (symbols_of c)
    mentions_within before m w p c u e = record { each = λ j h. let a : j < p = before p j c e h in let b : p < length m = slice_get_within m p true (looked_at m w p u) in omega arith }

    pub rules_within : (m : List Bool) (p : ℕ) → length m ≡ k + 1 → AllBelow (length m) (get_or index p [])
    rules_within m p e = record { each = λ j h. let r : HasRule commands k p j = is.rules p j h in let b : j < k = r.before in omega arith }

    pub turn : (m : List Bool) (w : List ℕ) (m1 : List Bool) (w1 : List ℕ) (m2 : List Bool) (w2 : List ℕ) (p : ℕ) (c : PlainCommand) → IsUnderWay commands k index m (w ++ p ∷ []) → slice_get commands p ≡ Some c
        → Reaches m w m1 w1 (symbols_of c) → Reaches m1 w1 m2 w2 (get_or index p []) → IsUnderWay commands k index m2 w2
    turn m w m1 w1 m2 w2 p c u e first second = let whole : Reaches m w m2 w2 (symbols_of c ++ get_or index p []) = reaches_more (symbols_of c) (get_or index p []) first second in by whole
      where
        marked : IsMarked m p
        marked = looked_at m w p u

        by : Reaches m w m2 w2 (symbols_of c ++ get_or index p []) → IsUnderWay commands k index m2 w2
        by whole = record {
          count = whole.count ∙ u.count;
          last = whole.kept k u.last;
          sound = λ i h. sound i (whole.only i h);
          waiting = λ i h. waiting i (whole.waiting i h);
          closed = λ i h. closed i (whole.new i h);
        }
          where
            asked : (i : ℕ) → Contains (symbols_of c) i ⊎ Contains (get_or index p []) i → Rests commands k i
            asked i (inl h) = by_mention c (u.sound p marked) e h
            asked i (inr h) = let r : HasRule commands k p i = is.rules p i h in by_head r.command (u.sound p marked) r.before r.is r.heads

            sound : (i : ℕ) → IsMarked m i ⊎ Contains (symbols_of c ++ get_or index p []) i → Rests commands k i
            sound i (inl h) = u.sound i h
            sound i (inr h) = asked i (Contains-append_cases (symbols_of c) (get_or index p []) i h)

            waiting : (i : ℕ) → Contains w i ⊎ Contains (symbols_of c ++ get_or index p []) i → IsMarked m2 i
            waiting i (inl h) = whole.kept i (u.waiting i (Contains-append_left w (p ∷ []) i h))
            waiting i (inr h) = whole.reached i h

            done : IsDone commands index m2 p
            done = record {
              mentions = λ d j f h. whole.reached j (Contains-append_left (symbols_of c) (get_or index p []) j (subst (λ z. Contains (symbols_of z) j) (let q : d ≡ c = (let g : Some d ≡ Some c = sym f ∙ e in cc) in q) h));
              rules = λ j h. whole.reached j (Contains-append_right (symbols_of c) (get_or index p []) j h);
            }

            still : (i : ℕ) → IsDone commands index m i → IsDone commands index m2 i
            still i d = record { mentions = λ f j g h. whole.kept j (d.mentions f j g h); rules = λ j h. whole.kept j (d.rules j h) }

            looked : (i : ℕ) → Contains w i ⊎ Contains (p ∷ []) i → Contains w2 i ⊎ IsDone commands index m2 i
            looked i (inl h) = inl (whole.waits i h)
            looked i (inr h) = inr (subst (IsDone commands index m2) (sym (only_in p i h)) done)

            old : (i : ℕ) → Contains (w ++ p ∷ []) i ⊎ IsDone commands index m i → Contains w2 i ⊎ IsDone commands index m2 i
            old i (inl h) = looked i (Contains-append_cases w (p ∷ []) i h)
            old i (inr d) = inr (still i d)

            closed : (i : ℕ) → IsMarked m i ⊎ Contains w2 i → Contains w2 i ⊎ IsDone commands index m2 i
            closed i (inl h) = old i (u.closed i h)
            closed i (inr h) = inl h

    pub lighter_turn : (m : List Bool) (w : List ℕ) (m1 : List Bool) (w1 : List ℕ) (m2 : List Bool) (w2 : List ℕ) (p : ℕ) (xs ys : List ℕ) → Reaches m w m1 w1 xs → Reaches m1 w1 m2 w2 ys
        → weight m2 w2 < weight m (w ++ p ∷ [])
    lighter_turn m w m1 w1 m2 w2 p xs ys first second = let l : length (w ++ p ∷ []) ≡ suc (length w) = longer w p in let a : weight m1 w1 ≤ weight m w = first.lighter in
        let b : weight m2 w2 ≤ weight m1 w1 = second.lighter in omega arith

    -- ---- the end

    marked_at : (m : List Bool) (i : ℕ) → get_or m i false ≡ true → IsMarked m i
    marked_at [] i e = absurd cc
    marked_at (b ∷ m) zero e = ap Some e
    marked_at (b ∷ m) (suc i) e = marked_at m i e

    done_at : (m : List Bool) (i : ℕ) → IsUnderWay commands k index m [] → IsMarked m i → IsDone commands index m i
    done_at m i u h = by (u.closed i h)
      where
        by : Contains [] i ⊎ IsDone commands index m i → IsDone commands index m i
        by (inl c) = none_in i c
        by (inr d) = d

    pub finished : (m : List Bool) (i : ℕ) → IsUnderWay commands k index m [] → Rests commands k i → IsMarked m i
    finished m i u r = marked_at m i (rests_least commands k (λ j. get_or m j false) (record {
      mentions = λ a b c e s h. get_or_from_slice_get m b true false ((done_at m a u (marked_at m a e)).mentions c b s h);
      rules = λ a b c e l s h. get_or_from_slice_get m b true false ((done_at m a u (marked_at m a e)).rules b (is.all a b (subst (λ z. a < z) u.count (slice_get_within m a true (marked_at m a e)))
          (record { command = c; before = l; is = s; heads = h })));
    }) (get_or_from_slice_get m k true false u.last) r)

-- ---- the marked places

pub places_have : (n : ℕ) (m : List Bool) (i : ℕ) → IsMarked m i → Contains (places_from n m) (n + i)
places_have n [] i h = absurd cc
places_have n (true ∷ m) zero h = subst (λ z. Contains (n ∷ places_from (suc n) m) z) (let q : n ≡ n + 0 = omega arith in q) (Contains-append_left (n ∷ []) (places_from (suc n) m) n (one_in n))
places_have n (false ∷ m) zero h = absurd cc
places_have n (true ∷ m) (suc i) h = Contains-append_right (n ∷ []) (places_from (suc n) m) (n + suc i) (subst (λ z. Contains (places_from (suc n) m) z) (let q : suc n + i ≡ n + suc i = omega arith in q) (places_have (suc n) m i h))
places_have n (false ∷ m) (suc i) h = subst (λ z. Contains (places_from (suc n) m) z) (let q : suc n + i ≡ n + suc i = omega arith in q) (places_have (suc n) m i h)

pub record IsPlace (n : ℕ) (m : List Bool) (x : ℕ) : Type 0 where
  pub place : ℕ
  pub number : x ≡ n + place
  pub marked : IsMarked m place

pub places_only : (n : ℕ) (m : List Bool) (x : ℕ) → Contains (places_from n m) x → IsPlace n m x
places_only n [] x c = none_in x c
places_only n (true ∷ m) x c = by (places_only (suc n) m x) (Contains-append_cases (n ∷ []) (places_from (suc n) m) x c)
  where
    by : (Contains (places_from (suc n) m) x → IsPlace (suc n) m x) → Contains (n ∷ []) x ⊎ Contains (places_from (suc n) m) x → IsPlace n (true ∷ m) x
    by again (inl d) = record { place = 0; number = only_in n x d ∙ (let q : n ≡ n + 0 = omega arith in q); marked = refl }
    by again (inr d) = let r : IsPlace (suc n) m x = again d in record { place = suc r.place; number = r.number ∙ (let q : suc n + r.place ≡ n + suc r.place = omega arith in q); marked = r.marked }
places_only n (false ∷ m) x c = let r : IsPlace (suc n) m x = places_only (suc n) m x c in
    record { place = suc r.place; number = r.number ∙ (let q : suc n + r.place ≡ n + suc r.place = omega arith in q); marked = r.marked }

pub places_ascend : (n : ℕ) (m : List Bool) → IsAscending (places_from n m)
places_ascend n [] = tt
places_ascend n (true ∷ m) = (λ y c. let r : IsPlace (suc n) m y = places_only (suc n) m y c in let e : y ≡ suc n + r.place = r.number in omega arith, places_ascend (suc n) m)
places_ascend n (false ∷ m) = places_ascend (suc n) m

-- ---- the same, as the code has them

module _ (commands : List PlainCommand) (k : ℕ) (index : List (List ℕ)) where
  pub begun_as : (m0 : List Bool) (w0 : List ℕ) (m : List Bool) (w : List ℕ) → m0 ≡ replicate (k + 1) false → w0 ≡ [] → Reaches m0 w0 m w (k ∷ []) → IsUnderWay commands k index m w
  begun_as m0 w0 m w e f r = begun commands k index m w (subst (λ z. Reaches (replicate (k + 1) false) z m w (k ∷ [])) f (subst (λ z. Reaches z w0 m w (k ∷ [])) e r))

  module _ (m : List Bool) (all w : List ℕ) (p : ℕ) (u : IsUnderWay commands k index m all) (e : all ≡ w ++ p ∷ []) where
    here : IsUnderWay commands k index m (w ++ p ∷ [])
    here = subst (IsUnderWay commands k index m) e u

    pub place_bound : (n : ℕ) → k < n → p < n
    place_bound n l = let b : p < k + 1 = subst (λ z. p < z) u.count (slice_get_within m p true (here.waiting p (Contains-append_right w (p ∷ []) p (one_in p)))) in omega arith

    pub place_in_index : IsIndex commands k index → p < length index
    place_in_index is = subst (λ z. p < z) (sym is.count) (place_within commands k index is m w p here)

    pub mentions_below : IsIndex commands k index → MentionBefore commands → (c : PlainCommand) (xs : List ℕ) → slice_get commands p ≡ Some c → xs ≡ symbols_of c → AllBelow (length m) xs
    mentions_below is before c xs g q = subst (AllBelow (length m)) (sym q) (mentions_within commands k index is before m w p c here g)

    pub turn_as : IsIndex commands k index → (c : PlainCommand) (xs ys : List ℕ) (m1 : List Bool) (w1 : List ℕ) (m2 : List Bool) (w2 : List ℕ) → slice_get commands p ≡ Some c → xs ≡ symbols_of c
        → ys ≡ get_or index p ys → Reaches m w m1 w1 xs → Reaches m1 w1 m2 w2 ys → IsUnderWay commands k index m2 w2
    turn_as is c xs ys m1 w1 m2 w2 g q r first second = turn commands k index is m w m1 w1 m2 w2 p c here g (subst (Reaches m w m1 w1) q first)
        (subst (Reaches m1 w1 m2 w2) (r ∙ defaults index p ys [] (place_in_index is)) second)

    pub rules_below : IsIndex commands k index → (m1 : List Bool) (w1 xs ys : List ℕ) → Reaches m w m1 w1 xs → ys ≡ get_or index p ys → AllBelow (length m1) ys
    rules_below is m1 w1 xs ys first r = subst (AllBelow (length m1)) (sym (r ∙ defaults index p ys [] (place_in_index is))) (rules_within commands k index is m1 p (first.count ∙ u.count))

    pub lighter_as : IsIndex commands k index → (xs ys : List ℕ) (m1 : List Bool) (w1 : List ℕ) (m2 : List Bool) (w2 : List ℕ) → Reaches m w m1 w1 xs → Reaches m1 w1 m2 w2 ys → weight m2 w2 < weight m all
    lighter_as is xs ys m1 w1 m2 w2 first second = subst (λ z. weight m2 w2 < weight m z) (sym e) (lighter_turn commands k index is m w m1 w1 m2 w2 p xs ys first second)

  module _ (m : List Bool) (w xs : List ℕ) (u : IsUnderWay commands k index m w) (e : w ≡ []) (q : xs ≡ places_from 0 m) where
    pub all_rest : IsIndex commands k index → (i : ℕ) → Rests commands k i → Contains xs i
    all_rest is i r = subst (λ (l : List ℕ). Contains l i) (sym q) (subst (λ z. Contains (places_from 0 m) z) (let z : 0 + i ≡ i = omega arith in z)
        (places_have 0 m i (finished commands k index is m i (subst (IsUnderWay commands k index m) e u) r)))

    pub only_rest : (i : ℕ) → Contains xs i → Rests commands k i
    only_rest i c = let r : IsPlace 0 m i = places_only 0 m i (subst (λ (l : List ℕ). Contains l i) q c) in subst (Rests commands k) (sym (r.number ∙ (let z : 0 + r.place ≡ r.place = omega arith in z))) (u.sound r.place r.marked)

    pub rest_ascending : IsAscending xs
    rest_ascending = subst IsAscending (sym q) (places_ascend 0 m)
