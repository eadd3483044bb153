-- The table of the bytes of names.
use Rattle.std.proofs.Common.{◌≡◌, ◌<◌, ℕ, zero, suc, ◌+◌, Bool, true, false, not, ◌&&◌, ◌==◌, List, [], ◌∷◌, length, slice_index, refl, subst, arith}
use Rattle.dk_lexer.specs.Classes.{begins_name, class_of, in_name}
use Rattle.one_lexer.specs.declared.name.TheConstants.{NAME_BYTES}

abbrev same : Bool → Bool → Bool
same true t = t
same false t = not t

same_is : (t u : Bool) → same t u ≡ true → t ≡ u
same_is true true h = refl
same_is false false h = refl
same_is true false h = absurd cc
same_is false true h = absurd cc

both : (t u : Bool) → (t && u) ≡ true → (t ≡ true) × (u ≡ true)
both true u h = (refl, h)
both false u h = absurd cc

-- a byte's number says of it what its class says
abbrev pub IsRight : ℕ → ℕ → Type 0
IsRight b m = (not (m == 0) ≡ in_name (class_of b)) × ((m == 1) ≡ begins_name (class_of b))

abbrev is_right : ℕ → ℕ → Bool
is_right b m = same (not (m == 0)) (in_name (class_of b)) && same (m == 1) (begins_name (class_of b))

right_is : (b m : ℕ) → is_right b m ≡ true → IsRight b m
right_is b m h =
    let k = both (same (not (m == 0)) (in_name (class_of b))) (same (m == 1) (begins_name (class_of b))) h in
    (same_is (not (m == 0)) (in_name (class_of b)) k.0, same_is (m == 1) (begins_name (class_of b)) k.1)

-- the numbers of the bytes from this one on
abbrev are_right : ℕ → List ℕ → Bool
are_right b [] = true
are_right b (m ∷ ms) = is_right b m && are_right (suc b) ms

all_right : are_right 0 NAME_BYTES ≡ true
unfolding class_of
all_right = refl

right_at : (b k : ℕ) (ms : List ℕ) → are_right b ms ≡ true → k < length ms → IsRight (b + k) (slice_index ms k)
right_at b k [] h lt = absurd (omega arith)
right_at b zero (m ∷ ms) h lt =
    let b_is : b ≡ b + 0 = omega arith in
    subst (λ n. IsRight n m) b_is (right_is b m (both (is_right b m) (are_right (suc b) ms) h).0)
right_at b (suc k) (m ∷ ms) h lt =
    let b_is : suc b + k ≡ b + suc k = omega arith in
    subst (λ n. IsRight n (slice_index ms k)) b_is (right_at (suc b) k ms (both (is_right b m) (are_right (suc b) ms) h).1 (omega arith))

pub name_byte : (b : ℕ) → b < 256 → IsRight b (slice_index NAME_BYTES b)
name_byte b lt = let n : 0 + b ≡ b = omega arith in subst (λ k. IsRight k (slice_index NAME_BYTES b)) n (right_at 0 b NAME_BYTES all_right lt)
