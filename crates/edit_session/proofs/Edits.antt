-- A list that is edited at one place, and its image.
use Rattle.std.proofs.Common.{List, ◌∷◌, ◌++◌, drop, map, take, ℕ, suc, ◌≡◌, ◌∙◌, sym, ap}
use Rattle.std.proofs.lemmas.List.{map-append, map-set, take-map, drop-map}
use Rattle.std.proofs.lemmas.List.Elements.{All-append, All-cons, All-drop, All-take}
use Rattle.std.specs.List.{insert, remove}
use Rattle.std.specs.Prelude.{All, slice_set}
use Rattle.dk_model.specs.declared.limits.Limits.{Limits}
use Rattle.edit_session.specs.declared.slot.Slot.{Slot}
use Rattle.edit_session.specs.Held.{plain_slot}
use Rattle.edit_session.specs.Sessions.{PlainSession, PlainSlot}

module _ {A B : Type 0} (f : A → B) where
  pub map_insert : (xs : List A) (i : ℕ) (x : A) → map f (insert xs i x) ≡ insert (map f xs) i (f x)
  map_insert xs i x = map-append f (take i xs) (x ∷ drop i xs) ∙ (λ j. sym (take-map f i xs) j ++ f x ∷ sym (drop-map f i xs) j)

  pub map_remove : (xs : List A) (i : ℕ) → map f (remove xs i) ≡ remove (map f xs) i
  map_remove xs i = map-append f (take i xs) (drop (suc i) xs) ∙ (λ j. sym (take-map f i xs) j ++ sym (drop-map f (suc i) xs) j)

module _ {A : Type 0} (P : A → Type 0) where
  pub all_insert : (xs : List A) (i : ℕ) (x : A) → P x → All P xs → All P (insert xs i x)
  all_insert xs i x p h = All-append P (take i xs) (x ∷ drop i xs) (All-take P i xs h) (All-cons P x (drop i xs) p (All-drop P i xs h))

  pub all_remove : (xs : List A) (i : ℕ) → All P xs → All P (remove xs i)
  all_remove xs i h = All-append P (take i xs) (drop (suc i) xs) (All-take P i xs h) (All-drop P (suc i) xs h)

-- ---- sessions

-- what callers see of a session with these slots
abbrev pub plain_session : Limits → ℕ → List Slot → PlainSession
plain_session limits budget slots = record { limits = limits; budget = budget; slots = map plain_slot slots }

abbrev with_slots : PlainSession → List PlainSlot → PlainSession
with_slots s slots = record s { slots = slots }

module _ (limits : Limits) (budget : ℕ) (old new : List Slot) (k : ℕ) (s : PlainSession) (is : plain_session limits budget old ≡ s) where
  pub session_inserted : (slot : Slot) (plain : PlainSlot) → new ≡ insert old k slot → plain_slot slot ≡ plain → plain_session limits budget new ≡ with_slots s (insert s.slots k plain)
  session_inserted slot plain e p = ap (plain_session limits budget) e ∙ ap (λ slots. let x : PlainSession = record { limits = limits; budget = budget; slots = slots } in x) (map_insert plain_slot old k slot)
      ∙ (λ i. with_slots (is i) (insert (is i).slots k (p i)))

  pub session_replaced : (slot : Slot) (plain : PlainSlot) → new ≡ slice_set old k slot → plain_slot slot ≡ plain → plain_session limits budget new ≡ with_slots s (slice_set s.slots k plain)
  session_replaced slot plain e p = ap (plain_session limits budget) e ∙ ap (λ slots. let x : PlainSession = record { limits = limits; budget = budget; slots = slots } in x) (map-set plain_slot old k slot)
      ∙ (λ i. with_slots (is i) (slice_set (is i).slots k (p i)))

  pub session_removed : new ≡ remove old k → plain_session limits budget new ≡ with_slots s (remove s.slots k)
  session_removed e = ap (plain_session limits budget) e ∙ ap (λ slots. let x : PlainSession = record { limits = limits; budget = budget; slots = slots } in x) (map_remove plain_slot old k)
      ∙ (λ i. with_slots (is i) (remove (is i).slots k))
