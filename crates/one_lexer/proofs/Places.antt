-- The place behind some bytes, and the last ones of some bytes.
use Rattle.std.proofs.Common.{◌≡◌, ◌≤◌, ◌<◌, ℕ, suc, ◌+◌, ◌-◌, true, List, [], ◌∷◌, ◌++◌, length, take, drop, get_or, refl, sym, ap, ◌∙◌, arith, length-append, length-drop}
use Rattle.std.proofs.lemmas.List.{drop-drop, take-append-drop}
use Rattle.std.proofs.Math.Seq.{drop-length}
use Rattle.dk_lexer.specs.declared.place.Place.{Place}
use Rattle.dk_lexer.specs.Classes.{class_of, in_name}
use Rattle.one_lexer.specs.Places.{place_behind}
use Rattle.dk_lexer.specs.Tokens.{behind}
use Rattle.dk_lexer.proofs.Bounds.{behind_name_byte, behind_offset}
use Rattle.one_lexer.specs.Reading.{last_of}
use Rattle.one_lexer.proofs.Slices.{drop_at, last_before}

pub place_next : (here p q : Place) (bs : List ℕ) (i : ℕ) → i < length bs → place_behind here bs ≡ place_behind p (drop i bs) → q ≡ behind p (get_or bs i 0) → place_behind here bs ≡ place_behind q (drop (i + 1) bs)
place_next here p q bs i lt h q_is = h ∙ ap (place_behind p) (drop_at bs i lt) ∙ ap (λ (x : Place). place_behind x (drop (i + 1) bs)) (sym q_is)

pub place_offset : (here : Place) (bs : List ℕ) → (place_behind here bs).offset ≡ here.offset + length bs
place_offset here [] = omega arith
place_offset here (b ∷ bs) =
    let next = behind_offset here b in
    let ih = place_offset (behind here b) bs in
    omega arith

-- bytes of a name are on one line
named_by : (here : Place) (b : ℕ) (bs : List ℕ) → in_name (class_of b) ≡ true
    → place_behind (behind here b) bs ≡ record { offset = (behind here b).offset + length bs; line = (behind here b).line }
    → place_behind here (b ∷ bs) ≡ record { offset = here.offset + suc (length bs); line = here.line }
named_by here b bs named ih =
    let next = behind_name_byte here b named in
    let o : (here.offset + 1) + length bs ≡ here.offset + suc (length bs) = omega arith in
    ih ∙ ap (λ (p : Place). let q : Place = record { offset = p.offset + length bs; line = p.line } in q) next
    ∙ ap (λ (n : ℕ). let q : Place = record { offset = n; line = here.line } in q) o

-- the last ones of some bytes, of which one stands before them
pub record Parts (b : ℕ) (bs : List ℕ) (left : ℕ) : Type 0 where
  pub front : List ℕ
  pub passed_is : take (suc (length bs) - left) (b ∷ bs) ≡ b ∷ front
  pub whole : bs ≡ front ++ last_of left (b ∷ bs)
  pub left_is : length (last_of left (b ∷ bs)) ≡ left

pub cut_parts : (b : ℕ) (bs : List ℕ) (left : ℕ) → left < suc (length bs) → Parts b bs left
cut_parts b bs left lt =
    let n : suc (length bs) - left ≡ suc (length bs - left) = omega arith in
    let d = length-drop (length bs - left) bs in
    let r : last_of left (b ∷ bs) ≡ drop (length bs - left) bs = ap (λ k. drop k (b ∷ bs)) n in
    let l : length (drop (length bs - left) bs) ≡ left = omega arith in
    record {
      front = take (length bs - left) bs;
      passed_is = ap (λ k. take k (b ∷ bs)) n;
      whole = sym (take-append-drop (length bs - left) bs) ∙ ap (λ (x : List ℕ). take (length bs - left) bs ++ x) (sym r);
      left_is = ap length r ∙ l;
    }

-- the last ones of some bytes, whatever they are
pub last_parts : (left : ℕ) (bytes : List ℕ) → bytes ≡ take (length bytes - left) bytes ++ last_of left bytes
last_parts left bytes = sym (take-append-drop (length bytes - left) bytes)

pub last_length : (left : ℕ) (bytes : List ℕ) → left ≤ length bytes → length (last_of left bytes) ≡ left
last_length left bytes le = let d = length-drop (length bytes - left) bytes in omega arith

pub last_all : (bytes : List ℕ) → last_of (length bytes) bytes ≡ bytes
last_all bytes = let n : length bytes - length bytes ≡ 0 = omega arith in ap (λ k. drop k bytes) n

pub last_none : (bytes : List ℕ) → last_of 0 bytes ≡ []
last_none bytes = let n : length bytes - 0 ≡ length bytes = omega arith in ap (λ k. drop k bytes) n ∙ drop-length bytes

-- the last ones of the last ones
pub last_last : (left n : ℕ) (bytes : List ℕ) → left ≤ n → n ≤ length bytes → last_of left (last_of n bytes) ≡ last_of left bytes
last_last left n bytes le lt =
    let l = last_length n bytes lt in
    let e : (length bytes - n) + (length (last_of n bytes) - left) ≡ length bytes - left = omega arith in
    drop-drop (length (last_of n bytes) - left) (length bytes - n) bytes ∙ ap (λ k. drop k bytes) e

-- more bytes before them
pub last_front : (front rest : List ℕ) (left : ℕ) → left ≤ length rest → last_of left rest ≡ last_of left (front ++ rest)
last_front front rest left le =
    let n : length (front ++ rest) ≡ length front + length rest = length-append front rest in
    ap (last_of left) (sym (last_before (front ++ rest) front rest (length rest) refl refl)) ∙ last_last left (length rest) (front ++ rest) le (omega arith)

pub whole_taken : (bytes : List ℕ) → take (length bytes - 0) bytes ≡ bytes
whole_taken bytes = let n : length bytes - 0 ≡ length bytes = omega arith in ap (λ k. take k bytes) n ∙ take_all bytes
  where
    take_all : (bs : List ℕ) → take (length bs) bs ≡ bs
    take_all [] = refl
    take_all (b ∷ bs) = ap (λ (x : List ℕ). b ∷ x) (take_all bs)
