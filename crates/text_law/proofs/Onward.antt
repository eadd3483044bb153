-- What stands before other bytes that it leaves stands before any that begin like them.
use Rattle.std.proofs.Common.{inl, inr, ℕ, suc, ◌+◌, ◌-◌, ◌≡◌, ◌≤◌, ◌<◌, Bool, true, false, nat_le, List, [], ◌∷◌, ◌++◌, length, append_assoc, length-append, refl, ap, sym, subst, ◌∙◌, arith}
use Rattle.std.proofs.lemmas.List.{append-nil}
use Rattle.dk_lexer.specs.declared.token.TokenKind.{TokenKind}
use Rattle.dk_lexer.specs.declared.class.Class.{Class}
use Rattle.dk_lexer.specs.declared.class.Class.TheVariants as class
use Rattle.dk_lexer.specs.Classes.{class_of}
use Rattle.dk_lexer.specs.Spelling.{Spelling, blank, token, run_and_dot, wrong, comment_open, unsettled, late, spelled, apart, closes, comment, opens, pair, Pair}
use Rattle.dk_lexer.proofs.Outcomes.{Leaves}
use Rattle.one_lexer.specs.Settled.{is_settled, with_more}
use Rattle.one_lexer.specs.Views.{spelled_front}
use Rattle.one_lexer.proofs.Covers.{Covers, Grown, GrownLate, front_covers, grows, opens_comment}
use Rattle.one_lexer.proofs.Leaves.{IsBlank, comment_blank}
use Rattle.one_lexer.proofs.SettledLaw.{front_stays}
use Rattle.one_lexer.proofs.Shapes.{Opens, comment_opens}
use Rattle.text_law.proofs.Stands.{core, InLate, IsSure, sure}

-- ---- blanks and tokens

-- a blank or a token
pub data Part : Type 0 where
  passed : Part
  spelt : TokenKind → List ℕ → Part

abbrev pub as_spelling : Part → ℕ → Spelling
as_spelling passed left = blank left
as_spelling (spelt k text) left = token k text left

part_back : (p : Part) (x : Spelling) (n left : ℕ) → with_more n x ≡ as_spelling p (left + n) → x ≡ as_spelling p left
part_back passed (blank l) n left e = let q : l + n ≡ left + n = cc in let r : l ≡ left = omega arith in ap blank r
part_back (spelt k text) (token k' text' l) n left e =
    let a : k' ≡ k = cc in
    let b : text' ≡ text = cc in
    let q : l + n ≡ left + n = cc in
    let r : l ≡ left = omega arith in
    λ i. token (a i) (b i) (r i)
part_back passed x n left e = absurd cc
part_back (spelt k text) x n left e = absurd cc

part_more : (p : Part) (n left : ℕ) → with_more n (as_spelling p left) ≡ as_spelling p (left + n)
part_more passed n left = refl
part_more (spelt k text) n left = refl

core_more : (n : ℕ) (x : Spelling) → is_settled x ≡ true → core (with_more n x) ≡ with_more n (core x)
core_more n (unsettled x) h = absurd cc
core_more n (late m x) h = core_more n x h
core_more n comment_open h = absurd cc
core_more n _ h = refl

settled_more : (n : ℕ) (x : Spelling) → is_settled x ≡ true → is_settled (with_more n x) ≡ true
settled_more n (unsettled x) h = absurd cc
settled_more n (late m x) h = settled_more n x h
settled_more n comment_open h = absurd cc
settled_more n _ h = refl

-- ---- what isn't settled has all of the bytes

-- a comment that is open goes on over them
closes_by : (t : Bool) (depth : ℕ) (bs more : List ℕ) → elim t [ true ↦ blank (length bs) | false ↦ comment (depth - 1) class.Other bs ] ≡ comment_open
    → ((d : ℕ) (last : Class) → comment d last bs ≡ comment_open → IsBlank (length more) (comment d last (bs ++ more)))
    → IsBlank (length more) (elim t [ true ↦ blank (length (bs ++ more)) | false ↦ comment (depth - 1) class.Other (bs ++ more) ])
closes_by true depth bs more h ih = absurd cc
closes_by false depth bs more h ih = ih (depth - 1) class.Other h

pair_by : (p : Pair) (depth : ℕ) (c : Class) (bs more : List ℕ)
    → elim p [
      | opens ↦ comment (depth + 1) class.Other bs
      | closes ↦ elim (nat_le depth 1) [ true ↦ blank (length bs) | false ↦ comment (depth - 1) class.Other bs ]
      | apart ↦ comment depth c bs
    ] ≡ comment_open
    → ((d : ℕ) (last : Class) → comment d last bs ≡ comment_open → IsBlank (length more) (comment d last (bs ++ more)))
    → IsBlank (length more) (elim p [
      | opens ↦ comment (depth + 1) class.Other (bs ++ more)
      | closes ↦ elim (nat_le depth 1) [ true ↦ blank (length (bs ++ more)) | false ↦ comment (depth - 1) class.Other (bs ++ more) ]
      | apart ↦ comment depth c (bs ++ more)
    ])
pair_by opens depth c bs more h ih = ih (depth + 1) class.Other h
pair_by closes depth c bs more h ih = closes_by (nat_le depth 1) depth bs more h ih
pair_by apart depth c bs more h ih = ih depth c h

comment_on : (depth : ℕ) (last : Class) (bs more : List ℕ) → comment depth last bs ≡ comment_open → IsBlank (length more) (comment depth last (bs ++ more))
comment_on depth last [] more h = comment_blank depth last more
comment_on depth last (b ∷ bs) more h = pair_by (pair last (class_of b)) depth (class_of b) bs more h (λ d l e. comment_on d l bs more e)

open_on : (limit : ℕ) (bs more : List ℕ) → spelled_front limit bs ≡ comment_open → IsBlank (length more) (spelled_front limit (bs ++ more))
open_on limit bs more h =
    let k : Opens limit bs = comment_opens limit bs h in
    let starts : (r : List ℕ) → spelled_front limit (bs ++ r) ≡ comment 1 class.Other (k.rest ++ r) = λ r. ap (λ (z : List ℕ). spelled_front limit (z ++ r)) k.bytes_are ∙ k.starts r in
    let still : comment 1 class.Other k.rest ≡ comment_open =
    ap (comment 1 class.Other) (sym (append-nil k.rest)) ∙ sym (starts []) ∙ ap (spelled_front limit) (append-nil bs) ∙ h in
    subst (IsBlank (length more)) (sym (starts more)) (comment_on 1 class.Other k.rest more still)

-- a blank or a token leaves at most so many bytes
abbrev pub AtMost : ℕ → Spelling → Type 0
AtMost n (blank left) = left ≤ n
AtMost n (token k text left) = left ≤ n
AtMost n _ = Unit {0}

part_most : (n : ℕ) (p : Part) (left : ℕ) → AtMost n (as_spelling p left) → left ≤ n
part_most n passed left h = h
part_most n (spelt k text) left h = h

leaves_most : (n : ℕ) (x : Spelling) → Leaves n x → AtMost n (core x)
leaves_most n (token k text left) h = h
leaves_most n (run_and_dot text left) h = tt
leaves_most n (wrong code left) h = tt
leaves_most n (unsettled x) h = leaves_most n x h
leaves_most n (late m x) h = leaves_most n x h.1
leaves_most n _ h = absurd h

pub blank_most : (n : ℕ) (x : Spelling) → IsBlank n x → AtMost n (core x)
blank_most n (blank left) h = h
blank_most n comment_open h = tt
blank_most n _ h = absurd h

late_most : (n m : ℕ) (x : Spelling) → InLate m x → m ≤ suc n → AtMost n (core x)
late_most n m (token k text left) h le = let few : left + 2 ≤ m = h.0 in omega arith
late_most n m (run_and_dot text left) h le = tt
late_most n m (wrong code left) h le = tt
late_most n m (unsettled x) h le = late_most n m x h le
late_most n m _ h le = absurd h

grown_most : (size n : ℕ) (y : Spelling) → Grown size n y → AtMost n (core y)
grown_most size n y (grows h) = leaves_most n y h
grown_most size n y (opens_comment one h) = blank_most n y h

brace_most : (m n : ℕ) (y : Spelling) → GrownLate m n y → IsSure y → AtMost n (core y)
brace_most m n y g s = subst (λ (z : Spelling). AtMost n (core z)) (sym g.is) (elim g.leaves [
  | inl h ↦ leaves_most n g.inner h
  | inr one ↦ late_most n (m + n) g.inner (subst IsSure g.is s) (omega arith)
])

late_waits : (size m n : ℕ) (x y : Spelling) → is_settled x ≡ false → InLate m x → Covers size n (late m x) y → IsSure y → AtMost n (core y)
late_waits size m n (unsettled x) y w i c s = brace_most m n y c s
late_waits size m n (token k text l) y w i c s = absurd cc
late_waits size m n (run_and_dot text l) y w i c s = absurd cc
late_waits size m n (wrong code l) y w i c s = absurd cc
late_waits size m n _ y w i c s = absurd i

waits_most : (size n : ℕ) (x y : Spelling) → is_settled x ≡ false → IsSure x → Covers size n x y → (x ≡ comment_open → IsBlank n y) → IsSure y → AtMost n (core y)
waits_most size n (unsettled x) y w i c o s = grown_most size n y c
waits_most size n comment_open y w i c o s = blank_most n y (o refl)
waits_most size n (late m x) y w i c o s = late_waits size m n x y w i c s
waits_most size n _ y w i c o s = absurd cc

-- so what leaves more than the bytes behind them is settled by them
settled_by : (t : Bool) (limit b : ℕ) (bs more : List ℕ) (p : Part) (left : ℕ) → is_settled (spelled limit b bs) ≡ t → length more < left → core (spelled limit b (bs ++ more)) ≡ as_spelling p left → t ≡ true
settled_by true limit b bs more p left w lt e = refl
settled_by false limit b bs more p left w lt e =
    let most : AtMost (length more) (core (spelled limit b (bs ++ more))) =
    waits_most (suc (length bs)) (length more) (spelled limit b bs) (spelled limit b (bs ++ more)) w (sure limit b bs) (front_covers limit b bs more) (open_on limit (b ∷ bs) more) (sure limit b (bs ++ more)) in
    let le : left ≤ length more = part_most (length more) p left (subst (AtMost (length more)) e most) in
    absurd (omega arith)

-- it stands, settled, before so many bytes
pub record Stays (limit b : ℕ) (bs : List ℕ) (p : Part) (left : ℕ) : Type 0 where
  pub settled : is_settled (spelled limit b bs) ≡ true
  pub is : core (spelled limit b bs) ≡ as_spelling p left

-- it stands before any bytes
stays_on : (limit b : ℕ) (bs more : List ℕ) (p : Part) (left : ℕ) → Stays limit b bs p left → Stays limit b (bs ++ more) p (left + length more)
stays_on limit b bs more p left s =
    let same : spelled limit b (bs ++ more) ≡ with_more (length more) (spelled limit b bs) = front_stays limit (b ∷ bs) more s.settled in
    record {
      settled = ap is_settled same ∙ settled_more (length more) (spelled limit b bs) s.settled;
      is = ap core same ∙ core_more (length more) (spelled limit b bs) s.settled ∙ ap (with_more (length more)) s.is ∙ part_more p (length more) left;
    }

stays_back : (limit b : ℕ) (bs more : List ℕ) (p : Part) (left : ℕ) → is_settled (spelled limit b bs) ≡ true → core (spelled limit b (bs ++ more)) ≡ as_spelling p (left + length more) → Stays limit b bs p left
stays_back limit b bs more p left settled e =
    let same : spelled limit b (bs ++ more) ≡ with_more (length more) (spelled limit b bs) = front_stays limit (b ∷ bs) more settled in
    record { settled = settled; is = part_back p (core (spelled limit b bs)) (length more) left (sym (ap core same ∙ core_more (length more) (spelled limit b bs) settled) ∙ e) }

-- what stands before `text`, which is not empty, and other bytes stands before `text` and any bytes
pub anew : (limit b : ℕ) (front text old new : List ℕ) (p : Part) → 1 ≤ length text → core (spelled limit b (front ++ (text ++ old))) ≡ as_spelling p (length (text ++ old)) → Stays limit b (front ++ (text ++ new)) p (length (text ++ new))
anew limit b front text old new p some e =
    let both : (r : List ℕ) → (front ++ text) ++ r ≡ front ++ (text ++ r) = append_assoc front text in
    let size : length (text ++ old) ≡ length text + length old = length-append text old in
    let there : core (spelled limit b ((front ++ text) ++ old)) ≡ as_spelling p (length text + length old) = ap (λ (z : List ℕ). core (spelled limit b z)) (both old) ∙ e ∙ ap (as_spelling p) size in
    let settled : is_settled (spelled limit b (front ++ text)) ≡ true = settled_by (is_settled (spelled limit b (front ++ text))) limit b (front ++ text) old p (length text + length old) refl (omega arith) there in
    subst (λ (z : List ℕ). Stays limit b z p (length (text ++ new))) (both new)
    (subst (Stays limit b ((front ++ text) ++ new) p) (sym (length-append text new)) (stays_on limit b (front ++ text) new p (length text) (stays_back limit b (front ++ text) old p (length text) settled there)))

late_blank : (m : ℕ) (x : Spelling) (left : ℕ) → InLate m x → core x ≡ blank left → ⊥
late_blank m (token k text l) left h e = absurd cc
late_blank m (run_and_dot text l) left h e = absurd cc
late_blank m (wrong code l) left h e = absurd cc
late_blank m (unsettled x) left h e = late_blank m x left h e
late_blank m _ left h e = h

pub sure_blank : (x : Spelling) (left : ℕ) → IsSure x → core x ≡ blank left → x ≡ blank left
sure_blank (blank l) left s e = e
sure_blank (unsettled (token k text l)) left s e = absurd cc
sure_blank (unsettled (run_and_dot text l)) left s e = absurd cc
sure_blank (unsettled (wrong code l)) left s e = absurd cc
sure_blank (unsettled x) left s e = absurd s
sure_blank (late m x) left s e = absurd (late_blank m x left s e)
sure_blank _ left s e = absurd cc

-- a blank at the end of the bytes is one before any bytes
pub blank_anew : (limit b : ℕ) (front rest more : List ℕ) → core (spelled limit b (front ++ rest)) ≡ blank (length rest) → Stays limit b (front ++ (rest ++ more)) passed (length (rest ++ more))
blank_anew limit b front rest more e =
    let settled : is_settled (spelled limit b (front ++ rest)) ≡ true = ap is_settled (sure_blank (spelled limit b (front ++ rest)) (length rest) (sure limit b (front ++ rest)) e) in
    subst (λ (z : List ℕ). Stays limit b z passed (length (rest ++ more))) (append_assoc front rest more)
    (subst (Stays limit b ((front ++ rest) ++ more) passed) (sym (length-append rest more)) (stays_on limit b (front ++ rest) more passed (length rest) (record { settled = settled; is = e })))
