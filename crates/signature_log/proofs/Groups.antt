-- Whole groups in a row and the chain behind them: where a place stands, how many there are, and one more.
use Rattle.std.proofs.Common.{◌≡◌, ℕ, ◌+◌, ◌-◌, ◌*◌, ◌/◌, ◌%◌, ◌<◌, ◌≤◌, zero, suc, List, [], ◌∷◌, ◌++◌, length, slice_get, Some, None, refl, sym, ◌∙◌, ap, subst, arith, length-append, append-nil, append_assoc, inl, inr}
use Rattle.std.specs.List.{All, flat_map}
use Rattle.std.proofs.lemmas.Grind.{flat_map-append}
use Rattle.std.proofs.lemmas.List.Elements.{All-head, All-tail, All-push, All-get_or}
use Rattle.std.proofs.lemmas.Nat.{mod_below}
use Rattle.std.proofs.lemmas.Option.{none-some, same_Some, slice_get_cases, slice_get_within, get_or_from_slice_get}
use Rattle.signature_log.specs.Blocks.{leaf_places, places_3, IsSound_3}
use Rattle.signature_log.specs.Groups.{grouped, IsGrouped}
use Rattle.signature_log.proofs.Filled.{slice_get_left, slice_get_right}

module _ {A : Type 0} where
  abbrev IsWhole : List A → Type 0
  IsWhole group = length group ≡ 32

  abbrev flat : List (List A) → List A
  flat = flat_map leaf_places

  pub count : (groups : List (List A)) → All IsWhole groups → length (flat groups) ≡ 32 * length groups
  count [] whole = refl
  count (g ∷ gs) whole =
      let first : length g ≡ 32 = All-head IsWhole g gs whole in
      let rest : length (flat gs) ≡ 32 * length gs = count gs (All-tail IsWhole g gs whole) in
      length-append g (flat gs) ∙ omega (arith, first, rest)

  -- a place in a group
  in_group : (groups : List (List A)) (recent : List A) (q r i : ℕ) (g : List A) → All IsWhole groups → slice_get groups q ≡ Some g → r < 32 → i ≡ 32 * q + r → slice_get (flat groups ++ recent) i ≡ slice_get g r
  in_group [] recent q r i g whole is less at = absurd (omega (arith, slice_get_within [] q g is))
  in_group (h ∷ hs) recent zero r i g whole is less at =
      let same : h ≡ g = same_Some h g is in
      let first : length h ≡ 32 = All-head IsWhole h hs whole in
      let here : i ≡ r = omega (arith, at) in
      ap (λ xs. slice_get xs i) (append_assoc h (flat hs) recent)
      ∙ slice_get_left h (flat hs ++ recent) i (omega (arith, first, less, here))
      ∙ ap (slice_get h) here ∙ ap (λ xs. slice_get xs r) same
  in_group (h ∷ hs) recent (suc q) r i g whole is less at =
      let first : length h ≡ 32 = All-head IsWhole h hs whole in
      ap (λ xs. slice_get xs i) (append_assoc h (flat hs) recent)
      ∙ slice_get_right h (flat hs ++ recent) i (32 * q + r) (omega (arith, first, at))
      ∙ in_group hs recent q r (32 * q + r) g (All-tail IsWhole h hs whole) is less refl

  pub group_at : (groups : List (List A)) (recent : List A) (i : ℕ) (g : List A) → All IsWhole groups → slice_get groups (i / 32) ≡ Some g → slice_get (flat groups ++ recent) i ≡ slice_get g (i % 32)
  group_at groups recent i g whole is = in_group groups recent (i / 32) (i % 32) i g whole is (mod_below i 32 (omega arith)) (omega arith)

  -- no group is at a number: they end before it
  pub past : (groups : List (List A)) (i : ℕ) → slice_get groups (i / 32) ≡ None → 32 * length groups ≤ i
  past groups i none = elim (slice_get_cases groups (i / 32)).1 [
    | inl some ↦ absurd (none-some some.0 (sym none ∙ some.2))
    | inr end ↦ omega (arith, end.0)
  ]

  pub recent_at : (groups : List (List A)) (recent : List A) (i j : ℕ) → All IsWhole groups → slice_get groups (i / 32) ≡ None → j ≡ i - 32 * length groups → slice_get (flat groups ++ recent) i ≡ slice_get recent j
  recent_at groups recent i j whole none at =
      slice_get_right (flat groups) recent i j (omega (arith, count groups whole, past groups i none, at))

  pub whole_at : (groups : List (List A)) (q : ℕ) (g : List A) → All IsWhole groups → slice_get groups q ≡ Some g → length g ≡ 32
  whole_at groups q g whole is = subst IsWhole (get_or_from_slice_get groups q g g is) (All-get_or IsWhole groups q g (slice_get_within groups q g is) whole)

  pub all : (groups : List (List (List (List A)))) (recent : List A) → All IsWhole (places_3 groups) → length (grouped groups recent) ≡ length (places_3 groups) * 32 + length recent
  all groups recent whole = length-append (flat (places_3 groups)) recent ∙ omega (arith, count (places_3 groups) whole)

  -- one more beside the groups
  pub added : (groups : List (List (List (List A)))) (recent new : List A) (x : A) → new ≡ recent ++ x ∷ [] → grouped groups new ≡ grouped groups recent ++ x ∷ []
  added groups recent new x made = ap (λ xs. flat (places_3 groups) ++ xs) made ∙ sym (append_assoc (flat (places_3 groups)) recent (x ∷ []))

  -- those beside the groups as one more group
  pub closed : (groups more : List (List (List (List A)))) (recent new : List A) (x : A) → new ≡ recent ++ x ∷ [] → places_3 more ≡ places_3 groups ++ new ∷ [] → grouped more [] ≡ grouped groups recent ++ x ∷ []
  closed groups more recent new x made is =
      append-nil (flat (places_3 more)) ∙ ap flat is ∙ flat_map-append leaf_places (places_3 groups) (new ∷ [])
      ∙ ap (λ xs. flat (places_3 groups) ++ xs) (append-nil new) ∙ added groups recent new x made

  one_longer : (xs ys : List A) (x : A) → ys ≡ xs ++ x ∷ [] → length ys ≡ length xs + 1
  one_longer xs ys x e = ap length e ∙ length-append xs (x ∷ [])

  pub added_grouped : (groups same : List (List (List (List A)))) (recent new : List A) (x : A) (n : ℕ) → IsGrouped groups recent n → same ≡ groups → new ≡ recent ++ x ∷ [] → 0 < (n + 1) % 32 → n < 1048576 → IsGrouped same new (n + 1)
  added_grouped groups same recent new x n is copied made free room =
      let longer = one_longer (grouped groups recent) (grouped groups new) x (added groups recent new x made) in
      let one = one_longer recent new x made in
      let due = all groups recent is.whole in
      let few : length new < 32 = omega (arith, one, due, is.counted, is.few, free) in
      subst (λ gs. IsGrouped gs new (n + 1)) (sym copied) record {
        sound = is.sound;
        whole = is.whole;
        few = few;
        counted = omega (arith, longer, is.counted);
        within = omega (arith, room);
      }

  pub closed_grouped : (groups more : List (List (List (List A)))) (recent new : List A) (x : A) (n : ℕ) → IsGrouped groups recent n → IsSound_3 more → new ≡ recent ++ x ∷ [] → places_3 more ≡ places_3 groups ++ new ∷ [] → (n + 1) % 32 ≡ 0 → n < 1048576 → IsGrouped more [] (n + 1)
  closed_grouped groups more recent new x n is sound made made_more full room =
      let longer = one_longer (grouped groups recent) (grouped more []) x (closed groups more recent new x made made_more) in
      let one = one_longer recent new x made in
      let due = all groups recent is.whole in
      let last : length new ≡ 32 = omega (arith, one, due, is.counted, is.few, full) in
      record {
        sound = sound;
        whole = subst (All IsWhole) (sym made_more) (All-push IsWhole (places_3 groups) new is.whole last);
        few = omega arith;
        counted = omega (arith, longer, is.counted);
        within = omega (arith, room);
      }

  -- there is room for a place
  pub below : (groups : List (List (List (List A)))) (recent : List A) (n : ℕ) → IsGrouped groups recent n → length (grouped groups recent) < 1048576 → n < 1048576
  below groups recent n is less = omega (arith, is.counted, less)

  -- where there is room for a place there is room for a group
  pub room : (groups : List (List (List (List A)))) (recent : List A) (n : ℕ) → IsGrouped groups recent n → n < 1048576 → length (places_3 groups) < 32768
  room groups recent n is less = omega (arith, all groups recent is.whole, is.counted, less)
