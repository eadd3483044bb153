-- What stands up to the last slash of a name.
use Rattle.std.proofs.Common.{cond, ltb, ltb-false, not, slice_range, ◌≡◌, ◌≢◌, ℕ, ◌+◌, ◌-◌, ◌<◌, ◌≤◌, Bool, true, false, List, [], length, take, reverse, position, get_or, refl, sym, ap, ◌∙◌, arith, Some, None}
use Rattle.std.specs.Prelude.{◌==◌, unwrap_or}
use Rattle.std.specs.List.{position_or_len}
use Rattle.std.proofs.lemmas.List.{get_or-reverse, length-reverse}
use Rattle.std.proofs.lemmas.List.Sums.{position_or_len_is, prefix_len-le-length}
use Rattle.theory_walk.specs.BookNames.{folder_of, length_behind_slash}

abbrev is_slash : ℕ → Bool
is_slash b = b == 47

by_test : (b : Bool) (n m : ℕ) → (b ≡ false → n ≡ m) → unwrap_or (cond b (Some n) None) m ≡ n
by_test true n m same = refl
by_test false n m same = sym (same refl)

first_is : (xs : List ℕ) → unwrap_or (position is_slash xs) (length xs) ≡ position_or_len is_slash xs
first_is xs = by_test (ltb (position_or_len is_slash xs) (length xs)) (position_or_len is_slash xs) (length xs) (λ e. let l = prefix_len-le-length (λ b. not (is_slash b)) xs in omega (arith, ltb-false (position_or_len is_slash xs) (length xs) e, l))

not_slash : (b : ℕ) → b ≢ 47 → is_slash b ≡ false
not_slash b not = grind arith

-- no slash stands behind this place, at which one does, if it is within
behind_is : (name : List ℕ) (behind : ℕ) → behind ≤ length name → ((i : ℕ) → i < length name → length name ≤ i + behind → get_or name i 0 ≢ 47)
    → (behind < length name → get_or name (length name - 1 - behind) 0 ≡ 47) → length_behind_slash name ≡ behind
behind_is name behind within none slash =
    ap (λ n. unwrap_or (position is_slash (reverse name)) n) (sym (length-reverse name)) ∙ first_is (reverse name)
    ∙ position_or_len_is is_slash (reverse name) behind 0 (let l = length-reverse name in omega (arith, l, within))
    (λ k less. ap is_slash (get_or-reverse name k 0 (omega (arith, less, within))) ∙ not_slash (get_or name (length name - 1 - k) 0) (none (length name - 1 - k) (omega (arith, less, within)) (omega (arith, less, within))))
    (λ less. let l = length-reverse name in let inside : behind < length name = omega (arith, less, l) in ap is_slash (get_or-reverse name behind 0 inside ∙ slash inside))

-- the last slash is at this place
pub folder_at : (name : List ℕ) (k : ℕ) → k < length name → get_or name k 0 ≡ 47 → ((i : ℕ) → k < i → i < length name → get_or name i 0 ≢ 47) → slice_range name 0 (k + 1) ≡ folder_of name
folder_at name k within slash none = ap (λ n. take n name) (count ∙ ap (λ n. length name - n) (sym at))
  where
    at : length_behind_slash name ≡ length name - (k + 1)
    at = behind_is name (length name - (k + 1)) (omega arith) (λ i less far. none i (omega (arith, far, within)) less) (λ less. ap (λ n. get_or name n 0) (omega (arith, within)) ∙ slash)

    count : k + 1 - 0 ≡ length name - (length name - (k + 1))
    count = omega (arith, within)

-- it has none
pub no_folder : (name : List ℕ) → ((i : ℕ) → i < length name → get_or name i 0 ≢ 47) → [] ≡ folder_of name
no_folder name none = ap (λ n. take n name) zero_is
  where
    at : length_behind_slash name ≡ length name
    at = behind_is name (length name) (omega arith) (λ i less far. none i less) (λ less. absurd (omega (arith, less)))

    zero_is : 0 ≡ length name - length_behind_slash name
    zero_is = omega (arith, at)
