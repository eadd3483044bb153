-- Blocks in a row: where a place stands, how many there are, and one more.
use Rattle.std.proofs.Common.{◌≡◌, ℕ, ◌+◌, ◌-◌, ◌*◌, ◌^◌, ◌/◌, ◌%◌, ◌<◌, ◌≤◌, zero, suc, List, [], ◌∷◌, ◌++◌, length, take, get_or, slice_get, Option, Some, None, refl, sym, ◌∙◌, ap, subst, arith, length-append, append-nil, append_assoc}
use Rattle.std.specs.List.{flat_map}
use Rattle.std.proofs.lemmas.Grind.{flat_map-append}
use Rattle.std.proofs.lemmas.Option.{slice_get_past, slice_get_read}
use Rattle.std.proofs.lemmas.List.{length-take-le}
use Rattle.std.proofs.lemmas.Nat.{div-add-mod', mod_below}
use Rattle.std.proofs.Math.Nat.{lt_of_mul-lt-mul_right}
use Rattle.signature_log.specs.Blocks.{AreFilled, IsBranch}

-- the place in a list, or in what follows it
pub slice_get_left : {X : Type 0} (xs ys : List X) (i : ℕ) → i < length xs → slice_get (xs ++ ys) i ≡ slice_get xs i
slice_get_left [] ys i h = absurd (omega (arith, h))
slice_get_left (x ∷ xs) ys zero h = refl
slice_get_left (x ∷ xs) ys (suc i) h = slice_get_left xs ys i (omega (arith, h))

pub slice_get_right : {X : Type 0} (xs ys : List X) (i j : ℕ) → i ≡ length xs + j → slice_get (xs ++ ys) i ≡ slice_get ys j
slice_get_right [] ys i j e = let same : i ≡ j = omega (arith, e) in ap (slice_get ys) same
slice_get_right (x ∷ xs) ys zero j e = absurd (omega (arith, e))
slice_get_right (x ∷ xs) ys (suc i) j e = slice_get_right xs ys i j (omega (arith, e))

one_more : (q most r : ℕ) → suc q * most + r ≡ most + (q * most + r)
one_more q most r = omega arith

none_before : (most r : ℕ) → zero * most + r ≡ r
none_before most r = omega arith

module _ {B A : Type 0} (places : B → List A) (sound : B → Type 0) (most : ℕ) where
  -- the place in a block, where there is a block
  at_block : Option B → ℕ → Option A
  at_block None r = None
  at_block (Some b) r = slice_get (places b) r

  get_at : (bs : List B) (q r i : ℕ) → r < most → i ≡ q * most + r → AreFilled places sound most bs → slice_get (flat_map places bs) i ≡ at_block (slice_get bs q) r
  unfolding at_block
  get_at [] q r i h e f = refl
  get_at (b ∷ []) zero r i h e f = ap (λ xs. slice_get xs i) (append-nil (places b)) ∙ ap (slice_get (places b)) (e ∙ none_before most r)
  get_at (b ∷ []) (suc q) r i h e f =
      let full : length (places b) ≤ most = f.1.0.1 in
      let at : i ≡ most + (q * most + r) = e ∙ one_more q most r in
      slice_get_past (places b ++ []) i (omega (arith, full, at, length-append (places b) []))
  get_at (b ∷ c ∷ bs) zero r i h e f =
      let full : length (places b) ≡ most = f.1.0 in
      let at : i ≡ r = e ∙ none_before most r in
      slice_get_left (places b) _ i (omega (arith, full, at, h)) ∙ ap (slice_get (places b)) at
  get_at (b ∷ c ∷ bs) (suc q) r i h e f =
      let full : length (places b) ≡ most = f.1.0 in
      let at : i ≡ most + (q * most + r) = e ∙ one_more q most r in
      slice_get_right (places b) (flat_map places (c ∷ bs)) i (q * most + r) (omega (arith, full, at)) ∙ get_at (c ∷ bs) q r (q * most + r) h refl f.1.1

  pub get_some : (bs : List B) (i m : ℕ) (b : B) → m ≡ most → 0 < most → AreFilled places sound most bs → i / m < length bs → b ≡ get_or bs (i / m) b → slice_get (flat_map places bs) i ≡ slice_get (places b) (i % m)
  unfolding at_block
  get_some bs i m b e h f less is =
      subst (λ k. i / k < length bs → b ≡ get_or bs (i / k) b → slice_get (flat_map places bs) i ≡ slice_get (places b) (i % k)) (sym e)
      (λ l s. get_at bs (i / most) (i % most) i (mod_below i most h) (sym (div-add-mod' i most)) f ∙ ap (λ o. at_block o (i % most)) (slice_get_read bs (length bs) (i / most) b refl l s))
      less is

  pub get_none : (bs : List B) (i m : ℕ) → m ≡ most → 0 < most → AreFilled places sound most bs → length bs ≤ i / m → slice_get (flat_map places bs) i ≡ None
  unfolding at_block
  get_none bs i m e h f past =
      let far : length bs ≤ i / most = subst (λ k. length bs ≤ i / k) e past in
      get_at bs (i / most) (i % most) i (mod_below i most h) (sym (div-add-mod' i most)) f ∙ ap (λ o. at_block o (i % most)) (slice_get_past bs (i / most) far)

  pub count : (bs : List B) (n : ℕ) (b : B) → n + 1 ≡ length bs → b ≡ get_or bs n b → AreFilled places sound most bs → length (flat_map places bs) ≡ n * most + length (places b)
  count [] n b e is f = absurd (omega (arith, e))
  count (x ∷ []) zero b e is f = length-append (places x) [] ∙ let same : length (places x) ≡ length (places b) = ap (λ y. length (places y)) (sym is) in omega (arith, same)
  count (x ∷ []) (suc n) b e is f = absurd (omega (arith, e))
  count (x ∷ y ∷ bs) zero b e is f = absurd (omega (arith, e))
  count (x ∷ y ∷ bs) (suc n) b e is f =
      let full : length (places x) ≡ most = f.1.0 in
      let rest : length (flat_map places (y ∷ bs)) ≡ n * most + length (places b) = count (y ∷ bs) n b (omega (arith, e)) is f.1.1 in
      length-append (places x) (flat_map places (y ∷ bs)) ∙ (omega (arith, full, rest) ∙ sym (one_more n most (length (places b))))

  -- the last block with one place more
  pub grown_places : (bs : List B) (n : ℕ) (b c : B) (x : A) → n + 1 ≡ length bs → b ≡ get_or bs n b → places c ≡ places b ++ x ∷ [] → flat_map places (take n bs ++ c ∷ []) ≡ flat_map places bs ++ x ∷ []
  grown_places [] n b c x e is more = absurd (omega (arith, e))
  grown_places (y ∷ []) zero b c x e is more = append-nil (places c) ∙ (more ∙ ap (λ (z : B). places z ++ x ∷ []) is) ∙ ap (λ xs. xs ++ x ∷ []) (sym (append-nil (places y)))
  grown_places (y ∷ []) (suc n) b c x e is more = absurd (omega (arith, e))
  grown_places (y ∷ z ∷ bs) zero b c x e is more = absurd (omega (arith, e))
  grown_places (y ∷ z ∷ bs) (suc n) b c x e is more =
      ap (λ xs. places y ++ xs) (grown_places (z ∷ bs) n b c x (omega (arith, e)) is more) ∙ sym (append_assoc (places y) (flat_map places (z ∷ bs)) (x ∷ []))

  one_longer : (xs ys : List A) (x : A) → ys ≡ xs ++ x ∷ [] → length ys ≡ length xs + 1
  one_longer xs ys x e = ap length e ∙ length-append xs (x ∷ [])

  pub grown_filled : (bs : List B) (n : ℕ) (b c : B) (x : A) → n + 1 ≡ length bs → b ≡ get_or bs n b → places c ≡ places b ++ x ∷ [] → length (places b) < most → sound c → AreFilled places sound most bs → AreFilled places sound most (take n bs ++ c ∷ [])
  grown_filled [] n b c x e is more less s f = absurd (omega (arith, e))
  grown_filled (y ∷ []) zero b c x e is more less s f = let longer = one_longer (places b) (places c) x more in (s, ((omega (arith, longer), omega (arith, longer, less)), tt))
  grown_filled (y ∷ []) (suc n) b c x e is more less s f = absurd (omega (arith, e))
  grown_filled (y ∷ z ∷ bs) zero b c x e is more less s f = absurd (omega (arith, e))
  grown_filled (y ∷ z ∷ []) (suc zero) b c x e is more less s f = (f.0, (f.1.0, grown_filled (z ∷ []) zero b c x refl is more less s f.1.1))
  grown_filled (y ∷ z ∷ []) (suc (suc n)) b c x e is more less s f = absurd (omega (arith, e))
  grown_filled (y ∷ z ∷ w ∷ bs) (suc zero) b c x e is more less s f = absurd (omega (arith, e))
  grown_filled (y ∷ z ∷ w ∷ bs) (suc (suc n)) b c x e is more less s f = (f.0, (f.1.0, grown_filled (z ∷ w ∷ bs) (suc n) b c x (omega (arith, e)) is more less s f.1.1))

  -- a further block
  pub added_places : (bs : List B) (c : B) (x : A) → places c ≡ x ∷ [] → flat_map places (bs ++ c ∷ []) ≡ flat_map places bs ++ x ∷ []
  added_places bs c x e = flat_map-append places bs (c ∷ []) ∙ ap (λ xs. flat_map places bs ++ xs) (append-nil (places c) ∙ e)

  pub first_filled : (c : B) (x : A) → places c ≡ x ∷ [] → 0 < most → sound c → AreFilled places sound most (c ∷ [])
  first_filled c x e h s = let one : length (places c) ≡ 1 = ap length e in (s, ((omega (arith, one), omega (arith, one, h)), tt))

  pub added_filled : (bs : List B) (n : ℕ) (b c : B) (x : A) → n + 1 ≡ length bs → b ≡ get_or bs n b → length (places b) ≡ most → places c ≡ x ∷ [] → 0 < most → sound c → AreFilled places sound most bs → AreFilled places sound most (bs ++ c ∷ [])
  added_filled [] n b c x e is full one h s f = absurd (omega (arith, e))
  added_filled (y ∷ []) zero b c x e is full one h s f = (f.0, (subst (λ z. length (places z) ≡ most) is full, first_filled c x one h s))
  added_filled (y ∷ []) (suc n) b c x e is full one h s f = absurd (omega (arith, e))
  added_filled (y ∷ z ∷ bs) zero b c x e is full one h s f = absurd (omega (arith, e))
  added_filled (y ∷ z ∷ bs) (suc n) b c x e is full one h s f = (f.0, (f.1.0, added_filled (z ∷ bs) n b c x (omega (arith, e)) is full one h s f.1.1))

  pub sound_in : (bs : List B) (n : ℕ) (b : B) → n < length bs → b ≡ get_or bs n b → AreFilled places sound most bs → sound b
  sound_in [] n b e is f = absurd (omega (arith, e))
  sound_in (x ∷ bs) zero b e is f = subst sound (sym is) f.0
  sound_in (x ∷ bs) (suc n) b e is f = sound_in bs n b (omega (arith, e)) is f.1.1

  pub at_most : (bs : List B) (n : ℕ) (b : B) → n + 1 ≡ length bs → b ≡ get_or bs n b → AreFilled places sound most bs → length (places b) ≤ most
  at_most [] n b e is f = absurd (omega (arith, e))
  at_most (x ∷ []) zero b e is f = subst (λ y. length (places y) ≤ most) (sym is) f.1.0.1
  at_most (x ∷ []) (suc n) b e is f = absurd (omega (arith, e))
  at_most (x ∷ y ∷ bs) zero b e is f = absurd (omega (arith, e))
  at_most (x ∷ y ∷ bs) (suc n) b e is f = at_most (y ∷ bs) n b (omega (arith, e)) is f.1.1

  -- where there is room for a place there is room for a block
  pub room : (bs : List B) (n : ℕ) (b : B) → n + 1 ≡ length bs → b ≡ get_or bs n b → length (places b) ≡ most → AreFilled places sound most bs → length (flat_map places bs) < 32 * most → length bs < 32
  room bs n b e is full f h =
      let all : length (flat_map places bs) ≡ n * most + length (places b) = count bs n b e is f in
      let less : (n + 1) * most < 32 * most = omega (arith, all, full, h) in
      let few : n + 1 < 32 = lt_of_mul-lt-mul_right most less in
      omega (arith, few, e)

  pub grown : (bs new : List B) (n : ℕ) (b c : B) (x : A) → IsBranch places sound most bs → n + 1 ≡ length bs → b ≡ get_or bs n b → new ≡ take n bs ++ c ∷ [] → places c ≡ places b ++ x ∷ [] → length (places b) < most → sound c → length (flat_map places bs) < 2 ^ 64 - 1 → IsBranch places sound most new
  grown bs new n b c x s e is made more less good room =
      let all : flat_map places new ≡ flat_map places bs ++ x ∷ [] = ap (flat_map places) made ∙ grown_places bs n b c x e is more in
      let longer = one_longer (flat_map places bs) (flat_map places new) x all in
      let count : length new ≡ n + 1 = ap length made ∙ length-append (take n bs) (c ∷ []) ∙ omega (arith, length-take-le n bs (omega (arith, e))) in
      record {
        few = omega (arith, count, e, s.few);
        filled = subst (AreFilled places sound most) (sym made) (grown_filled bs n b c x e is more less good s.filled);
        fits = omega (arith, longer, room);
      }

  pub added : (bs new : List B) (n : ℕ) (b c : B) (x : A) → IsBranch places sound most bs → n + 1 ≡ length bs → b ≡ get_or bs n b → new ≡ bs ++ c ∷ [] → places c ≡ x ∷ [] → length (places b) ≡ most → 0 < most → sound c → length (flat_map places bs) < 32 * most → length (flat_map places bs) < 2 ^ 64 - 1 → IsBranch places sound most new
  added bs new n b c x s e is made one full some good wide room_left =
      let all : flat_map places new ≡ flat_map places bs ++ x ∷ [] = ap (flat_map places) made ∙ added_places bs c x one in
      let longer = one_longer (flat_map places bs) (flat_map places new) x all in
      let count : length new ≡ length bs + 1 = ap length made ∙ length-append bs (c ∷ []) in
      record {
        few = omega (arith, count, room bs n b e is full s.filled wide);
        filled = subst (AreFilled places sound most) (sym made) (added_filled bs n b c x e is full one some good s.filled);
        fits = omega (arith, longer, room_left);
      }

  pub first : (new : List B) (c : B) (x : A) → new ≡ c ∷ [] → places c ≡ x ∷ [] → 0 < most → sound c → IsBranch places sound most new
  first new c x made one some good =
      let all : flat_map places new ≡ x ∷ [] = ap (flat_map places) made ∙ added_places [] c x one in
      let alone : length (flat_map places new) ≡ 1 = ap length all in
      let count : length new ≡ 1 = ap length made in
      record {
        few = omega (arith, count);
        filled = subst (AreFilled places sound most) (sym made) (first_filled c x one some good);
        fits = omega (arith, alone);
      }
