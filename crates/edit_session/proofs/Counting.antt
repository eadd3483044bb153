-- What is counted and kept, with one text more.
use Rattle.std.proofs.Common.{ℕ, zero, suc, ◌≡◌, ◌≤◌, ◌+◌, Option, Some, None, List, [], ◌∷◌, ◌++◌, length, map, replicate, slice_get, slice_set, option_map, refl, ap, sym, ◌∙◌, arith}
use Rattle.edit_session.specs.Sessions.{PlainSlot, checks, checks_for, kept_for, kept_then}
use Rattle.edit_session.proofs.Rests.{pushed_map}

abbrev Lists : Type 0
Lists = List (Option (List (List ℕ)))

-- ---- lists

pub got_map : {A B : Type 0} (f : A → B) (xs : List A) (i : ℕ) (x : A) → slice_get xs i ≡ Some x → slice_get (map f xs) i ≡ Some (f x)
got_map f [] i x e = absurd cc
got_map f (y ∷ xs) zero x e = ap (λ (o : Option _). option_map f o) e
got_map f (y ∷ xs) (suc i) x e = got_map f xs i x e

pub set_map : {A B : Type 0} (f : A → B) (xs : List A) (i : ℕ) (x : A) → map f (slice_set xs i x) ≡ slice_set (map f xs) i (f x)
set_map f [] zero x = refl
set_map f [] (suc i) x = refl
set_map f (y ∷ xs) zero x = refl
set_map f (y ∷ xs) (suc i) x = ap (λ (l : List _). f y ∷ l) (set_map f xs i x)

pub set_same : {A : Type 0} (xs : List A) (i : ℕ) (x : A) → slice_get xs i ≡ Some x → slice_set xs i x ≡ xs
set_same [] i x e = absurd cc
set_same (y ∷ xs) zero x e = let q : y ≡ x = cc in ap (λ (z : _). z ∷ xs) (sym q)
set_same (y ∷ xs) (suc i) x e = ap (λ (l : List _). y ∷ l) (set_same xs i x e)

pub map_map : {A B C : Type 0} (f : B → C) (g : A → B) (xs : List A) → map f (map g xs) ≡ map (λ x. f (g x)) xs
map_map f g [] = refl
map_map f g (x ∷ xs) = ap (λ (l : List _). f (g x) ∷ l) (map_map f g xs)

some_same : {A : Type 0} {o : Option A} {a b : A} → o ≡ Some a → o ≡ Some b → a ≡ b
some_same {a} {b} p q = let e : Some a ≡ Some b = sym p ∙ q in cc

pub get_same : {A : Type 0} (o : Option A) (a b : A) → o ≡ Some a → o ≡ Some b → a ≡ b
get_same o a b p q = some_same p q

-- ---- checks

pub checks_none : (slots : List PlainSlot) → checks slots [] ≡ 0
checks_none [] = refl
checks_none (s ∷ ss) = refl

pub checks_last : (slots : List PlainSlot) (ls : Lists) (k : ℕ) (s : PlainSlot) (o : Option (List (List ℕ))) → length ls ≡ k → slice_get slots k ≡ Some s → checks slots (ls ++ o ∷ []) ≡ checks slots ls + checks_for s.kept o
checks_last [] ls k s o n e = absurd cc
checks_last (t ∷ ts) [] zero s o n e = let q : t ≡ s = cc in ap (λ z. checks_for t.kept o + z) (checks_none ts) ∙ (let z : checks_for t.kept o + 0 ≡ 0 + checks_for t.kept o = omega arith in z) ∙ ap (λ (x : PlainSlot). 0 + checks_for x.kept o) q
checks_last (t ∷ ts) [] (suc k) s o n e = absurd cc
checks_last (t ∷ ts) (l ∷ ls) zero s o n e = absurd cc
checks_last (t ∷ ts) (l ∷ ls) (suc k) s o n e = let r : checks ts (ls ++ o ∷ []) ≡ checks ts ls + checks_for s.kept o = checks_last ts ls k s o (let q : length ls ≡ k = omega (arith, n) in q) e in
    let z : checks_for t.kept l + (checks ts ls + checks_for s.kept o) ≡ (checks_for t.kept l + checks ts ls) + checks_for s.kept o = omega arith in
    ap (λ x. checks_for t.kept l + x) r ∙ z

nothing_checked : (slots : List PlainSlot) (n : ℕ) → checks slots (replicate n None) ≡ 0
nothing_checked [] n = refl
nothing_checked (s ∷ ss) zero = refl
nothing_checked (s ∷ ss) (suc n) = let r : checks ss (replicate n None) ≡ 0 = nothing_checked ss n in let z : 0 + checks ss (replicate n None) ≡ checks ss (replicate n None) = omega arith in z ∙ r

pub checks_all : (slots : List PlainSlot) (ls : Lists) (n : ℕ) → checks slots (ls ++ replicate n None) ≡ checks slots ls
checks_all [] ls n = refl
checks_all (s ∷ ss) [] n = nothing_checked (s ∷ ss) n
checks_all (s ∷ ss) (l ∷ ls) n = ap (λ x. checks_for s.kept l + x) (checks_all ss ls n)

-- ---- what is kept then

nothing_kept : (slots : List PlainSlot) (n : ℕ) → kept_then slots (replicate n None) ≡ slots
nothing_kept [] n = refl
nothing_kept (s ∷ ss) zero = refl
nothing_kept (s ∷ ss) (suc n) = ap (λ (l : List PlainSlot). s ∷ l) (nothing_kept ss n)

pub kept_all : (slots : List PlainSlot) (ls : Lists) (n : ℕ) → kept_then slots (ls ++ replicate n None) ≡ kept_then slots ls
kept_all [] ls n = refl
kept_all (s ∷ ss) [] n = nothing_kept (s ∷ ss) n
kept_all (s ∷ ss) (l ∷ ls) n = ap (λ (z : List PlainSlot). kept_for s l ∷ z) (kept_all ss ls n)

pub kept_none : (slots : List PlainSlot) → kept_then slots [] ≡ slots
kept_none [] = refl
kept_none (s ∷ ss) = refl

-- those behind the lists are as before
pub kept_past : (slots : List PlainSlot) (ls : Lists) (k : ℕ) → length ls ≡ k → slice_get (kept_then slots ls) k ≡ slice_get slots k
kept_past [] ls k n = refl
kept_past (s ∷ ss) [] k n = refl
kept_past (s ∷ ss) (l ∷ ls) zero n = absurd cc
kept_past (s ∷ ss) (l ∷ ls) (suc k) n = kept_past ss ls k (let q : length ls ≡ k = omega (arith, n) in q)

pub kept_last : (slots : List PlainSlot) (ls : Lists) (k : ℕ) (s : PlainSlot) (list : List (List ℕ)) → length ls ≡ k → slice_get slots k ≡ Some s
    → kept_then slots (ls ++ Some list ∷ []) ≡ slice_set (kept_then slots ls) k (record { text = s.text; kept = Some list })
kept_last [] ls k s list n e = absurd cc
kept_last (t ∷ ts) [] zero s list n e = let q : t ≡ s = cc in (λ i. (let p : PlainSlot = record { text = (q i).text; kept = Some list } in p) ∷ kept_none ts i)
kept_last (t ∷ ts) [] (suc k) s list n e = absurd cc
kept_last (t ∷ ts) (l ∷ ls) zero s list n e = absurd cc
kept_last (t ∷ ts) (l ∷ ls) (suc k) s list n e = ap (λ (z : List PlainSlot). kept_for t l ∷ z) (kept_last ts ls k s list (let q : length ls ≡ k = omega (arith, n) in q) e)

-- ---- the lists

pub somes_last : (ls : List (List (List ℕ))) (list : List (List ℕ)) → map Some (ls ++ list ∷ []) ≡ map Some ls ++ Some list ∷ []
somes_last ls list = pushed_map Some ls list

pub somes_length : {A : Type 0} (ls : List A) → length (map Some ls) ≡ length ls
somes_length [] = refl
somes_length (l ∷ ls) = ap suc (somes_length ls)

-- one of the first lists, one behind them, or none
pub data Where (ls : List (List (List ℕ))) (n k : ℕ) : Option (Option (List (List ℕ))) → Type 0 where
  among : (list : List (List ℕ)) → slice_get ls k ≡ Some list → Where ls n k (Some (Some list))
  past : length ls ≤ k → Where ls n k (Some None)
  beyond : Where ls n k None

pub where_is : (ls : List (List (List ℕ))) (n k : ℕ) → Where ls n k (slice_get (map Some ls ++ replicate n None) k)
where_is [] zero k = beyond
where_is [] (suc n) zero = past (omega arith)
where_is [] (suc n) (suc k) = by (where_is [] n k)
  where
    by : {o : Option (Option (List (List ℕ)))} → Where [] n k o → Where [] (suc n) (suc k) o
    by (among list e) = absurd cc
    by (past l) = past (omega arith)
    by beyond = beyond
where_is (l ∷ ls) n zero = among l refl
where_is (l ∷ ls) n (suc k) = by (where_is ls n k)
  where
    by : {o : Option (Option (List (List ℕ)))} → Where ls n k o → Where (l ∷ ls) n (suc k) o
    by (among list e) = among list e
    by (past q) = past (omega (arith, q))
    by beyond = beyond

pub all_length : (ls : List (List (List ℕ))) (n : ℕ) → length (map Some ls ++ replicate n None) ≡ length ls + n
all_length [] zero = refl
all_length [] (suc n) = ap suc (all_length [] n) ∙ (let q : suc (0 + n) ≡ 0 + suc n = omega arith in q)
all_length (l ∷ ls) n = ap suc (all_length ls n) ∙ (let q : suc (length ls + n) ≡ length (l ∷ ls) + n = omega arith in q)
