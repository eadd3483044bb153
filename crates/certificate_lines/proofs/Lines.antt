-- A line is read from its bytes just where they spell it.
use Rattle.std.specs.Str.{bytes_eq}
use Rattle.std.specs.Prelude.{IfSome, eqb, ◌&&◌, Bool, true, false, if◌then◌else◌, codes}
use Rattle.std.proofs.Common.{List, [], ◌∷◌, ℕ, ◌≡◌, Option, Some, None, refl, ap, ◌∙◌, sym as flip, subst as along}
use Rattle.std.proofs.lemmas.Bool.{eqb-true}
use Rattle.certificate_lines.specs.declared.line.Word.{Word}
use Rattle.certificate_lines.specs.declared.line.Word.TheVariants.{Same, LeftBound, RightBound, InParts, LetGo}
use Rattle.certificate_lines.specs.declared.line.Line.{Line}
use Rattle.certificate_lines.specs.declared.line.Line.TheVariants.{First, Part, Reduction, Joining, Equation, Beta, Rule, Last}
use Rattle.certificate_lines.specs.Texts.{word_text, spaced, IsShort, IsLine, SpellsNoLine}
use Rattle.certificate_lines.specs.Reading.{read_number, read_spaced, and_then, nothing_behind, read_one, read_two, word_of, read_word, read_equation, read_rule, read_numbers, read_numbered, read_all}
use Rattle.certificate_lines.proofs.Numbers.{IsEnd, StandsFirst, number_stands, number_read}

from_then : {A B : Type 0} (P : Type 0) (o : Option A) (g : A → Option B) (b : B) → and_then o g ≡ Some b → ((a : A) → o ≡ Some a → g a ≡ Some b → P) → P
from_then P None g b e k = cc
from_then P (Some a) g b e k = k a refl e

choice : {A : Type 0} (P : Type 0) (c k : ℕ) (x y : Option A) (a : A) (b : Bool) → eqb c k ≡ b → (if b then x else y) ≡ Some a → (c ≡ k → x ≡ Some a → P) → (y ≡ Some a → P) → P
choice P c k x y a true q e f g = f (eqb-true c k q) e
choice P c k x y a false q e f g = g e

from_if : {A : Type 0} (P : Type 0) (c k : ℕ) (x y : Option A) (a : A) → (if eqb c k then x else y) ≡ Some a → (c ≡ k → x ≡ Some a → P) → (y ≡ Some a → P) → P
from_if P c k x y a e f g = choice P c k x y a (eqb c k) refl e f g

pub some_is : {A : Type 0} (a b : A) → Some a ≡ Some b → a ≡ b
some_is a b e = cc

-- ---- what is read stands there

pub record Spaced (bs : List ℕ) (n : ℕ) (xs : List ℕ) : Type 0 where
  pub all : bs ≡ spaced n xs
  pub short : IsShort n

spaced_stands : (bs : List ℕ) (n : ℕ) (xs : List ℕ) → read_spaced bs ≡ Some (n, xs) → Spaced bs n xs
spaced_stands [] n xs e = cc
spaced_stands (c ∷ cs) n xs e = from_if (Spaced (c ∷ cs) n xs) c 32 (read_number cs) None (n, xs) e
    (λ q g. let h : StandsFirst cs n xs = number_stands cs n xs g in record { all = ap (λ x. x ∷ cs) q ∙ ap (λ ys. 32 ∷ ys) h.all; short = h.short })
    (λ g. cc)

empty_behind : (m n : ℕ) (xs : List ℕ) → nothing_behind (m, xs) ≡ Some n → (m ≡ n) × (xs ≡ [])
empty_behind m n [] e = (some_is m n e, refl)
empty_behind m n (x ∷ xs) e = cc

one_stands : (bs : List ℕ) (n : ℕ) → read_one bs ≡ Some n → (bs ≡ spaced n []) × IsShort n
one_stands bs n e = from_then ((bs ≡ spaced n []) × IsShort n) (read_spaced bs) nothing_behind n e (λ p q g.
    let h : Spaced bs p.0 p.1 = spaced_stands bs p.0 p.1 q in let i : (p.0 ≡ n) × (p.1 ≡ []) = empty_behind p.0 n p.1 g in
    (h.all ∙ ap (spaced p.0) i.1 ∙ ap (λ m. spaced m []) i.0, along IsShort i.0 h.short))

two_stands : (bs : List ℕ) (r : ℕ × ℕ) → read_two bs ≡ Some r → (bs ≡ spaced r.0 (spaced r.1 [])) × IsShort r.0 × IsShort r.1
two_stands bs r e = from_then ((bs ≡ spaced r.0 (spaced r.1 [])) × IsShort r.0 × IsShort r.1) (read_spaced bs) _ r e (λ p q g.
    from_then ((bs ≡ spaced r.0 (spaced r.1 [])) × IsShort r.0 × IsShort r.1) (read_one p.1) _ r g (λ m q' g'.
    let h : Spaced bs p.0 p.1 = spaced_stands bs p.0 p.1 q in let i : (p.1 ≡ spaced m []) × IsShort m = one_stands p.1 m q' in
    along (λ (x : ℕ × ℕ). (bs ≡ spaced x.0 (spaced x.1 [])) × IsShort x.0 × IsShort x.1) (some_is (p.0, m) r g') (h.all ∙ ap (spaced p.0) i.0, h.short, i.1)))

letter_stands : (c : ℕ) (w : Word) → word_of c ≡ Some w → c ∷ [] ≡ word_text w
letter_stands c w e = from_if (c ∷ [] ≡ word_text w) c 61 (Some Same) _ w e (λ q g. ap (λ x. x ∷ []) q ∙ ap word_text (some_is Same w g))
    (λ e1. from_if (c ∷ [] ≡ word_text w) c 108 (Some LeftBound) _ w e1 (λ q g. ap (λ x. x ∷ []) q ∙ ap word_text (some_is LeftBound w g))
    (λ e2. from_if (c ∷ [] ≡ word_text w) c 114 (Some RightBound) _ w e2 (λ q g. ap (λ x. x ∷ []) q ∙ ap word_text (some_is RightBound w g))
    (λ e3. from_if (c ∷ [] ≡ word_text w) c 116 (Some InParts) _ w e3 (λ q g. ap (λ x. x ∷ []) q ∙ ap word_text (some_is InParts w g))
    (λ e4. from_if (c ∷ [] ≡ word_text w) c 120 (Some LetGo) None w e4 (λ q g. ap (λ x. x ∷ []) q ∙ ap word_text (some_is LetGo w g)) (λ e5. cc)))))

word_stands : (bs : List ℕ) (w : Word) → read_word bs ≡ Some w → bs ≡ 32 ∷ word_text w
word_stands (b ∷ c ∷ []) w e = from_if (b ∷ c ∷ [] ≡ 32 ∷ word_text w) b 32 (word_of c) None w e (λ q g. ap (λ x. x ∷ c ∷ []) q ∙ ap (λ ys. 32 ∷ ys) (letter_stands c w g)) (λ g. cc)
word_stands [] w e = cc
word_stands (b ∷ []) w e = cc
word_stands (b ∷ c ∷ d ∷ cs) w e = cc

equation_stands : (bs : List ℕ) (l : Line) → read_equation bs ≡ Some l → IsLine (101 ∷ bs) l
equation_stands bs l e = from_then (IsLine (101 ∷ bs) l) (read_spaced bs) _ l e (λ p q g.
    from_then (IsLine (101 ∷ bs) l) (read_spaced p.1) _ l g (λ r q' g'.
    from_then (IsLine (101 ∷ bs) l) (read_word r.1) _ l g' (λ w q'' g''.
    let h : Spaced bs p.0 p.1 = spaced_stands bs p.0 p.1 q in let i : Spaced p.1 r.0 r.1 = spaced_stands p.1 r.0 r.1 q' in let j : r.1 ≡ 32 ∷ word_text w = word_stands r.1 w q'' in
    along (IsLine (101 ∷ bs)) (some_is (Equation p.0 r.0 w) l g'') (ap (λ ys. 101 ∷ ys) (h.all ∙ ap (spaced p.0) (i.all ∙ ap (spaced r.0) j)), (h.short, i.short)))))

rule_stands : (bs : List ℕ) (l : Line) → read_rule bs ≡ Some l → IsLine (102 ∷ bs) l
rule_stands bs l e = from_then (IsLine (102 ∷ bs) l) (read_spaced bs) _ l e (λ p q g.
    from_then (IsLine (102 ∷ bs) l) (read_two p.1) _ l g (λ r q' g'.
    let h : Spaced bs p.0 p.1 = spaced_stands bs p.0 p.1 q in let i : (p.1 ≡ spaced r.0 (spaced r.1 [])) × IsShort r.0 × IsShort r.1 = two_stands p.1 r q' in
    along (IsLine (102 ∷ bs)) (some_is (Rule p.0 r.0 r.1) l g') (ap (λ ys. 102 ∷ ys) (h.all ∙ ap (spaced p.0) i.0), (h.short, i.1, i.2))))

numbered_stands : (c : ℕ) (cs : List ℕ) (l : Line) → read_numbers c cs ≡ Some l → IsLine (c ∷ cs) l
numbered_stands c cs l e = from_if (IsLine (c ∷ cs) l) c 99 (and_then (read_one cs) (λ n. Some (Part n))) _ l e (λ q g. at q (from_then (IsLine (99 ∷ cs) l) (read_one cs) _ l g (λ n q' g'.
    let h : (cs ≡ spaced n []) × IsShort n = one_stands cs n q' in along (IsLine (99 ∷ cs)) (some_is (Part n) l g') (ap (λ ys. 99 ∷ ys) h.0, h.1))))
    (λ e1. from_if (IsLine (c ∷ cs) l) c 114 (and_then (read_one cs) (λ n. Some (Reduction n))) _ l e1 (λ q g. at q (from_then (IsLine (114 ∷ cs) l) (read_one cs) _ l g (λ n q' g'.
    let h : (cs ≡ spaced n []) × IsShort n = one_stands cs n q' in along (IsLine (114 ∷ cs)) (some_is (Reduction n) l g') (ap (λ ys. 114 ∷ ys) h.0, h.1))))
    (λ e2. from_if (IsLine (c ∷ cs) l) c 106 (and_then (read_two cs) (λ p. Some (Joining p.0 p.1))) _ l e2 (λ q g. at q (from_then (IsLine (106 ∷ cs) l) (read_two cs) _ l g (λ p q' g'.
    let h : (cs ≡ spaced p.0 (spaced p.1 [])) × IsShort p.0 × IsShort p.1 = two_stands cs p q' in along (IsLine (106 ∷ cs)) (some_is (Joining p.0 p.1) l g') (ap (λ ys. 106 ∷ ys) h.0, (h.1, h.2)))))
    (λ e3. from_if (IsLine (c ∷ cs) l) c 101 (read_equation cs) _ l e3 (λ q g. at q (equation_stands cs l g))
    (λ e4. from_if (IsLine (c ∷ cs) l) c 98 (and_then (read_one cs) (λ n. Some (Beta n))) _ l e4 (λ q g. at q (from_then (IsLine (98 ∷ cs) l) (read_one cs) _ l g (λ n q' g'.
    let h : (cs ≡ spaced n []) × IsShort n = one_stands cs n q' in along (IsLine (98 ∷ cs)) (some_is (Beta n) l g') (ap (λ ys. 98 ∷ ys) h.0, h.1))))
    (λ e5. from_if (IsLine (c ∷ cs) l) c 102 (read_rule cs) None l e5 (λ q g. at q (rule_stands cs l g))
    (λ e6. cc))))))
  where
    at : {k : ℕ} → c ≡ k → IsLine (k ∷ cs) l → IsLine (c ∷ cs) l
    at q h = along (λ x. IsLine (x ∷ cs) l) (flip q) h

line_stands : (bs : List ℕ) (l : Line) → read_numbered bs ≡ Some l → IsLine bs l
line_stands [] l e = cc
line_stands (c ∷ cs) l e = numbered_stands c cs l e

-- ---- what stands there is read

spaced_read : (n : ℕ) (xs : List ℕ) → IsShort n → IsEnd xs → read_spaced (spaced n xs) ≡ Some (n, xs)
spaced_read n xs s i = number_read n xs s i

pub one_read : (n : ℕ) → IsShort n → read_one (spaced n []) ≡ Some n
one_read n s = ap (λ o. and_then o nothing_behind) (spaced_read n [] s refl)

pub two_read : (n m : ℕ) → IsShort n → IsShort m → read_two (spaced n (spaced m [])) ≡ Some (n, m)
two_read n m s r = ap (λ o. and_then o (λ p. and_then (read_one p.1) (λ k. Some (p.0, k)))) (spaced_read n (spaced m []) s refl) ∙ ap (λ o. and_then o (λ k. Some (n, k))) (one_read m r)

pub rule_read : (n m k : ℕ) → IsShort n → IsShort m → IsShort k → read_rule (spaced n (spaced m (spaced k []))) ≡ Some (Rule n m k)
rule_read n m k s r q = ap (λ o. and_then o (λ p. and_then (read_two p.1) (λ j. Some (Rule p.0 j.0 j.1)))) (spaced_read n (spaced m (spaced k [])) s refl)
    ∙ ap (λ o. and_then o (λ j. Some (Rule n j.0 j.1))) (two_read m k r q)

word_read : (w : Word) → read_word (32 ∷ word_text w) ≡ Some w
word_read Same = refl
word_read LeftBound = refl
word_read RightBound = refl
word_read InParts = refl
word_read LetGo = refl

pub equation_read : (n m : ℕ) (w : Word) → IsShort n → IsShort m → read_equation (spaced n (spaced m (32 ∷ word_text w))) ≡ Some (Equation n m w)
equation_read n m w s r = ap (λ o. and_then o (λ p. and_then (read_spaced p.1) (λ q. and_then (read_word q.1) (λ v. Some (Equation p.0 q.0 v))))) (spaced_read n (spaced m (32 ∷ word_text w)) s refl)
    ∙ ap (λ o. and_then o (λ q. and_then (read_word q.1) (λ v. Some (Equation n q.0 v)))) (spaced_read m (32 ∷ word_text w) r refl)
    ∙ ap (λ o. and_then o (λ v. Some (Equation n m v))) (word_read w)

-- the letter of a line with numbers, and what is behind it
behind_letter : (c k : ℕ) (cs ys : List ℕ) → c ∷ cs ≡ k ∷ ys → (c ≡ k) × (cs ≡ ys)
behind_letter c k cs ys e = (cc, cc)

no_read : (c k : ℕ) (cs ys : List ℕ) (l : Line) → c ∷ cs ≡ k ∷ ys → read_numbers k ys ≡ Some l → read_numbers c cs ≡ None → ⊥
no_read c k cs ys l e h n = let q : (c ≡ k) × (cs ≡ ys) = behind_letter c k cs ys e in let r : read_numbers k ys ≡ None = along (λ x. read_numbers x ys ≡ None) q.0 (along (λ zs. read_numbers c zs ≡ None) q.1 n) in cc

no_line : (c : ℕ) (cs : List ℕ) → (c ∷ cs ≡ codes "dk certificate 1" → ⊥) → (c ∷ cs ≡ codes "end" → ⊥) → read_numbers c cs ≡ None → SpellsNoLine (c ∷ cs)
no_line c cs f g n First (e, s) = f e
no_line c cs f g n Last (e, s) = g e
no_line c cs f g n (Part k) (e, s) = no_read c 99 cs (spaced k []) (Part k) e (ap (λ o. and_then o (λ x. Some (Part x))) (one_read k s)) n
no_line c cs f g n (Reduction k) (e, s) = no_read c 114 cs (spaced k []) (Reduction k) e (ap (λ o. and_then o (λ x. Some (Reduction x))) (one_read k s)) n
no_line c cs f g n (Joining k m) (e, s) = no_read c 106 cs (spaced k (spaced m [])) (Joining k m) e (ap (λ o. and_then o (λ p. Some (Joining p.0 p.1))) (two_read k m s.0 s.1)) n
no_line c cs f g n (Equation k m w) (e, s) = no_read c 101 cs (spaced k (spaced m (32 ∷ word_text w))) (Equation k m w) e (equation_read k m w s.0 s.1) n
no_line c cs f g n (Beta k) (e, s) = no_read c 98 cs (spaced k []) (Beta k) e (ap (λ o. and_then o (λ x. Some (Beta x))) (one_read k s)) n
no_line c cs f g n (Rule k m j) (e, s) = no_read c 102 cs (spaced k (spaced m (spaced j []))) (Rule k m j) e (rule_read k m j s.0 s.1 s.2) n

no_line_empty : SpellsNoLine []
no_line_empty First (e, s) = cc
no_line_empty Last (e, s) = cc
no_line_empty (Part k) (e, s) = cc
no_line_empty (Reduction k) (e, s) = cc
no_line_empty (Joining k m) (e, s) = cc
no_line_empty (Equation k m w) (e, s) = cc
no_line_empty (Beta k) (e, s) = cc
no_line_empty (Rule k m j) (e, s) = cc

numbered_is_none : (bs : List ℕ) (r : Option Line) → r ≡ read_numbered bs → (bs ≡ codes "dk certificate 1" → ⊥) → (bs ≡ codes "end" → ⊥) → r ≡ None → SpellsNoLine bs
numbered_is_none [] r e f g n = no_line_empty
numbered_is_none (c ∷ cs) r e f g n = no_line c cs f g (flip e ∙ n)

-- ---- all lines

both_true : (a b : Bool) → (a && b) ≡ true → (a ≡ true) × (b ≡ true)
both_true true b e = (refl, e)
both_true false b e = cc

bytes_same : (xs ys : List ℕ) → bytes_eq xs ys ≡ true → xs ≡ ys
bytes_same [] [] e = refl
bytes_same [] (y ∷ ys) e = cc
bytes_same (x ∷ xs) [] e = cc
bytes_same (x ∷ xs) (y ∷ ys) e = let h : _ = both_true (eqb x y) (bytes_eq xs ys) e in ap (λ z. z ∷ xs) (eqb-true x y h.0) ∙ ap (λ zs. y ∷ zs) (bytes_same xs ys h.1)

not_same : (xs ys : List ℕ) → bytes_eq xs ys ≡ false → bytes_eq ys ys ≡ true → xs ≡ ys → ⊥
not_same xs ys q r e = let h : bytes_eq xs ys ≡ true = ap (λ zs. bytes_eq zs ys) e ∙ r in cc

last_is : (bs : List ℕ) (l : Line) (b : Bool) → bytes_eq bs (codes "end") ≡ b → (if b then Some Last else read_numbered bs) ≡ Some l → IsLine bs l
last_is bs l true q e = along (IsLine bs) (some_is Last l e) (bytes_same bs (codes "end") q, tt)
last_is bs l false q e = line_stands bs l e

first_is : (bs : List ℕ) (l : Line) (b : Bool) → bytes_eq bs (codes "dk certificate 1") ≡ b
    → (if b then Some First else (if bytes_eq bs (codes "end") then Some Last else read_numbered bs)) ≡ Some l → IsLine bs l
first_is bs l true q e = along (IsLine bs) (some_is First l e) (bytes_same bs (codes "dk certificate 1") q, tt)
first_is bs l false q e = last_is bs l (bytes_eq bs (codes "end")) refl e

pub all_is_line : (bs : List ℕ) (r : Option Line) → r ≡ read_all bs → IfSome r (λ l. IsLine bs l)
all_is_line bs None e = tt
all_is_line bs (Some l) e = first_is bs l (bytes_eq bs (codes "dk certificate 1")) refl (flip e)

last_none : (bs : List ℕ) (b : Bool) → (bs ≡ codes "dk certificate 1" → ⊥) → bytes_eq bs (codes "end") ≡ b → (if b then Some Last else read_numbered bs) ≡ None → SpellsNoLine bs
last_none bs true f q e = cc
last_none bs false f q e = numbered_is_none bs (read_numbered bs) refl f (not_same bs (codes "end") q refl) e

first_none : (bs : List ℕ) (b : Bool) → bytes_eq bs (codes "dk certificate 1") ≡ b
    → (if b then Some First else (if bytes_eq bs (codes "end") then Some Last else read_numbered bs)) ≡ None → SpellsNoLine bs
first_none bs true q e = cc
first_none bs false q e = last_none bs (bytes_eq bs (codes "end")) (not_same bs (codes "dk certificate 1") q refl) refl e

pub all_is_none : (bs : List ℕ) (r : Option Line) → r ≡ read_all bs → r ≡ None → SpellsNoLine bs
all_is_none bs r e n = first_none bs (bytes_eq bs (codes "dk certificate 1")) refl (flip e ∙ n)
