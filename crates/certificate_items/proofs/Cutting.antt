-- A line from the front of bytes, up to the first newline.
use Rattle.std.specs.Prelude.{length, take, drop, position, cond, not, eqb, nat_lt, Bool, true, false}
use Rattle.std.specs.List.{position_or_len}
use Rattle.std.proofs.Math.Seq.{take-append_seam, drop-append-add}
use Rattle.std.proofs.lemmas.List.{take_all}
use Rattle.std.proofs.lemmas.Bool.{eqb-true, ltb-true, ltb-false}
use Rattle.std.proofs.Common.{List, [], ◌∷◌, ◌++◌, append_assoc, length-drop, ℕ, suc, ◌+◌, ◌-◌, ◌<◌, ◌≤◌, ◌≡◌, Some, None, refl, ap, ◌∙◌, sym as flip, subst as along, arith}
use Rattle.certificate_lines.specs.declared.line.Line.{Line}
use Rattle.certificate_lines.specs.Texts.{line_text, HasShortNumbers, IsLine, SpellsNoLine}
use Rattle.certificate_lines.proofs.Told.{HasNoNewline, line_told, line_none}
use Rattle.certificate_items.specs.Texts.{BeginsWith}
use Rattle.certificate_items.specs.Reading.{is_newline, HasNoLine}

-- ---- where the first newline is

no_byte : (b : ℕ) → b ≡ 10 → eqb b 10 ≡ false → ⊥
no_byte b e q = let h : eqb 10 10 ≡ false = along (λ x. eqb x 10 ≡ false) e q in cc

pub newline_told : (xs ys r s : List ℕ) → HasNoNewline xs → HasNoNewline ys → xs ++ (10 ∷ r) ≡ ys ++ (10 ∷ s) → (xs ≡ ys) × (r ≡ s)
newline_told [] [] r s h g e = (refl, (let q : r ≡ s = cc in q))
newline_told [] (y ∷ ys) r s h g e = let q : 10 ≡ y = cc in absurd (no_byte y (flip q) g.0)
newline_told (x ∷ xs) [] r s h g e = let q : x ≡ 10 = cc in absurd (no_byte x q h.0)
newline_told (x ∷ xs) (y ∷ ys) r s h g e =
    let q : x ≡ y = cc in let t : xs ++ (10 ∷ r) ≡ ys ++ (10 ∷ s) = cc in let i : (xs ≡ ys) × (r ≡ s) = newline_told xs ys r s h.1 g.1 t in
    (ap (λ z. z ∷ xs) q ∙ ap (λ zs. y ∷ zs) i.0, i.1)

record Cut (bs : List ℕ) : Type 0 where
  line : List ℕ
  rest : List ℕ
  all : bs ≡ line ++ (10 ∷ rest)
  none : HasNoNewline line
  at : position_or_len is_newline bs ≡ length line

cut_if : (b : ℕ) (bs : List ℕ) (c : Bool) → eqb b 10 ≡ c → (position_or_len is_newline bs < length bs → Cut bs) → position_or_len is_newline (b ∷ bs) < suc (length bs) → Cut (b ∷ bs)
cut_if b bs true q k l = record {
  line = [];
  rest = bs;
  all = ap (λ z. z ∷ bs) (eqb-true b 10 q);
  none = tt;
  at = ap (λ c. cond (not c) (1 + position_or_len is_newline bs) 0) q;
}
cut_if b bs false q k l =
    let p : position_or_len is_newline (b ∷ bs) ≡ 1 + position_or_len is_newline bs = ap (λ c. cond (not c) (1 + position_or_len is_newline bs) 0) q in
    let h : Cut bs = k (omega (arith, p, l)) in
    record { line = b ∷ h.line; rest = h.rest; all = ap (λ z. b ∷ z) h.all; none = (q, h.none); at = omega (arith, p, h.at) }

cut : (bs : List ℕ) → position_or_len is_newline bs < length bs → Cut bs
cut [] l = absurd (omega arith)
cut (b ∷ bs) l = cut_if b bs (eqb b 10) refl (cut bs) l

found : (bs : List ℕ) (at : ℕ) (c : Bool) → nat_lt (position_or_len is_newline bs) (length bs) ≡ c → cond c (Some (position_or_len is_newline bs)) None ≡ Some at
    → (position_or_len is_newline bs < length bs) × (position_or_len is_newline bs ≡ at)
found bs at true q e = (ltb-true (position_or_len is_newline bs) (length bs) q, (let r : position_or_len is_newline bs ≡ at = cc in r))
found bs at false q e = cc

-- the first newline, with the line before it and what is behind it
record CutAt (bs : List ℕ) (at : ℕ) : Type 0 where
  all : bs ≡ take at bs ++ (10 ∷ drop (at + 1) bs)
  none : HasNoNewline (take at bs)

cut_at : (bs : List ℕ) (at : ℕ) → position is_newline bs ≡ Some at → CutAt bs at
cut_at bs at e =
    let f : (position_or_len is_newline bs < length bs) × (position_or_len is_newline bs ≡ at) = found bs at (nat_lt (position_or_len is_newline bs) (length bs)) refl e in
    let h : Cut bs = cut bs f.0 in
    let n : at ≡ length h.line = flip f.1 ∙ h.at in
    let t : take at bs ≡ h.line = ap (λ k. take k bs) n ∙ ap (take (length h.line)) h.all ∙ take-append_seam h.line (10 ∷ h.rest) in
    let d : drop (at + 1) bs ≡ h.rest = ap (λ k. drop (k + 1) bs) n ∙ ap (drop (length h.line + 1)) h.all ∙ drop-append-add h.line (10 ∷ h.rest) 1 in
    record { all = h.all ∙ ap (λ z. z ++ (10 ∷ h.rest)) (flip t) ∙ ap (λ z. take at bs ++ (10 ∷ z)) (flip d); none = along HasNoNewline (flip t) h.none }

-- ---- a line at the front

one_line : (l : Line) (a b : List ℕ) → BeginsWith (l ∷ []) a b → a ≡ line_text l ++ (10 ∷ b)
one_line l a b h = h.0 ∙ append_assoc (line_text l) (10 ∷ []) b

is_itself : (l : Line) → HasShortNumbers l → IsLine (line_text l) l
is_itself l s = (refl, s)

-- the first line and what is behind it are one
pub first_told : (l m : Line) (a b c : List ℕ) → BeginsWith (l ∷ []) a b → BeginsWith (m ∷ []) a c → (l ≡ m) × (b ≡ c)
first_told l m a b c h g =
    let i : (line_text l ≡ line_text m) × (b ≡ c) = newline_told (line_text l) (line_text m) b c (line_none (line_text l) l (is_itself l h.1.0)) (line_none (line_text m) m (is_itself m g.1.0))
    (flip (one_line l a b h) ∙ one_line m a c g) in
    (line_told (line_text l) l m (is_itself l h.1.0) (i.0, g.1.0), i.1)

pub line_begins : (bs : List ℕ) (at : ℕ) (l : Line) → position is_newline bs ≡ Some at → IsLine (take at bs) l → BeginsWith (l ∷ []) bs (drop (at + 1) bs)
line_begins bs at l e h = let c : CutAt bs at = cut_at bs at e in
    (c.all ∙ ap (λ z. z ++ (10 ∷ drop (at + 1) bs)) h.0 ∙ flip (append_assoc (line_text l) (10 ∷ []) (drop (at + 1) bs)), (h.1, tt))

-- the same as the code has it
pub line_cut : (bs : List ℕ) (at : ℕ) (l : Line) → position is_newline bs ≡ Some at → IsLine (take at bs) l → BeginsWith (l ∷ []) bs (take (length bs - (at + 1)) (drop (at + 1) bs))
line_cut bs at l e h = along (BeginsWith (l ∷ []) bs) (flip (take_all (length bs - (at + 1)) (drop (at + 1) bs) (omega (arith, length-drop (at + 1) bs)))) (line_begins bs at l e h)

-- the bytes before the first newline are no line
pub no_line : (bs : List ℕ) (at : ℕ) → position is_newline bs ≡ Some at → SpellsNoLine (take at bs) → HasNoLine bs
no_line bs at e n l rest h =
    let c : CutAt bs at = cut_at bs at e in
    let i : (take at bs ≡ line_text l) × (drop (at + 1) bs ≡ rest) = newline_told (take at bs) (line_text l) (drop (at + 1) bs) rest c.none (line_none (line_text l) l (is_itself l h.1.0))
    (flip c.all ∙ one_line l bs rest h) in
    n l (i.0, h.1.0)

-- there is no newline

behind_if : (x : ℕ) (xs : List ℕ) (c : Bool) → eqb x 10 ≡ c → position_or_len is_newline xs < length xs → position_or_len is_newline (x ∷ xs) < length (x ∷ xs)
behind_if x xs true q l = let p : position_or_len is_newline (x ∷ xs) ≡ 0 = ap (λ c. cond (not c) (1 + position_or_len is_newline xs) 0) q in omega (arith, p)
behind_if x xs false q l = let p : position_or_len is_newline (x ∷ xs) ≡ 1 + position_or_len is_newline xs = ap (λ c. cond (not c) (1 + position_or_len is_newline xs) 0) q in omega (arith, p, l)

position_behind : (xs rest : List ℕ) → position_or_len is_newline (xs ++ (10 ∷ rest)) < length (xs ++ (10 ∷ rest))
position_behind [] rest = omega arith
position_behind (x ∷ xs) rest = behind_if x (xs ++ (10 ∷ rest)) (eqb x 10) refl (position_behind xs rest)

not_found : (bs : List ℕ) (c : Bool) → nat_lt (position_or_len is_newline bs) (length bs) ≡ c → cond c (Some (position_or_len is_newline bs)) None ≡ None → length bs ≤ position_or_len is_newline bs
not_found bs true q e = cc
not_found bs false q e = ltb-false (position_or_len is_newline bs) (length bs) q

pub no_newline : (bs : List ℕ) → position is_newline bs ≡ None → HasNoLine bs
no_newline bs e l rest h =
    let n : length bs ≤ position_or_len is_newline bs = not_found bs (nat_lt (position_or_len is_newline bs) (length bs)) refl e in
    let p : position_or_len is_newline bs < length bs = along (λ z. position_or_len is_newline z < length z) (flip (one_line l bs rest h)) (position_behind (line_text l) rest) in
    omega (arith, n, p)
