-- Lists under a view, and columns.
use Rattle.std.proofs.Common.{List, [], ◌∷◌, ◌++◌, ◌≡◌, ◌+◌, ℕ, zero, suc, length, map, take, drop, refl, ap, ◌∙◌, sym as flip, arith, Some, None, subst as along, slice_get}
use Rattle.std.proofs.lemmas.List.{map-append, take-map, drop-map, length-map}
use Rattle.tree_evaluation.specs.Views.{Term, End, tree, columns_of}
use Rattle.dk_model.specs.Signatures.{PlainSignature}
use Rattle.dk_model.specs.Matrix.{Column}
use Rattle.tree_evaluation.specs.Tellings.{AreUnmoved, AlwaysLeadsTo, AreEnds}

-- a list with others in the place of one of its items
pub spliced : {A B : Type 0} (f : A → B) (i : ℕ) (xs ys : List A) → map f (take i xs ++ ys ++ drop (i + 1) xs) ≡ take i (map f xs) ++ map f ys ++ drop (i + 1) (map f xs)
spliced f i xs ys =
    map-append f (take i xs ++ ys) (drop (i + 1) xs)
    ∙ ap (λ l. l ++ map f (drop (i + 1) xs)) (map-append f (take i xs) ys ∙ ap (λ l. l ++ map f ys) (flip (take-map f i xs)))
    ∙ ap (λ l. take i (map f xs) ++ map f ys ++ l) (flip (drop-map f (i + 1) xs))

-- columns that are cut at a place

pub cut_there : (i : ℕ) (cs behind : List End) (x : End) → drop i cs ≡ x ∷ behind → slice_get cs i ≡ Some x
cut_there zero [] behind x e = cc
cut_there (suc i) [] behind x e = cc
cut_there zero (y ∷ cs) behind x e = let q : y ≡ x = cc in ap (λ (z : End). Some z) q
cut_there (suc i) (y ∷ cs) behind x e = cut_there i cs behind x e

pub cut_end : (i : ℕ) (cs : List End) → drop i cs ≡ [] → slice_get cs i ≡ None
cut_end i [] e = refl
cut_end zero (y ∷ cs) e = cc
cut_end (suc i) (y ∷ cs) e = cut_end i cs e

pub cut_behind : (i : ℕ) (cs behind : List End) (x : End) → drop i cs ≡ x ∷ behind → behind ≡ drop (i + 1) cs
cut_behind zero [] behind x e = cc
cut_behind (suc i) [] behind x e = cc
cut_behind zero (y ∷ cs) behind x e = cc
cut_behind (suc i) (y ∷ cs) behind x e = let n : suc (i + 1) ≡ suc i + 1 = omega arith in cut_behind i cs behind x e ∙ ap (λ (k : ℕ). drop k (y ∷ cs)) n

-- arguments as the code has them

pub counted : (ts : List Term) → length (map tree ts) ≡ length ts
counted ts = length-map ts tree

pub first_mapped : (n : ℕ) (ts : List Term) → map tree (take n ts) ≡ take n (map tree ts)
first_mapped n ts = flip (take-map tree n ts)

-- ---- columns that no step was taken in

last_unmoved : (es : List End) (e : End) → AreUnmoved es → AlwaysLeadsTo (tree e.told.form) e.told → AreUnmoved (es ++ (e ∷ []))
last_unmoved [] e u h = (h, tt)
last_unmoved (d ∷ es) e u h = (u.0, last_unmoved es e u.1 h)

pub more_unmoved : (es all : List End) (e : End) → all ≡ es ++ (e ∷ []) → AreUnmoved es → AlwaysLeadsTo (tree e.told.form) e.told → AreUnmoved all
more_unmoved es all e q u h = along AreUnmoved (flip q) (last_unmoved es e u h)

own_ends : (S : PlainSignature) (es : List End) → AreUnmoved es → AreEnds S (columns_of es) es
own_ends S [] u = tt
own_ends S (e ∷ es) u = (refl, u.0 S, own_ends S es u.1)

-- they are ends of what they show
pub unmoved_ends : (S : PlainSignature) (es : List End) (bases : List Column) → AreUnmoved es → columns_of es ≡ bases → AreEnds S bases es
unmoved_ends S es bases u q = along (λ (l : List Column). AreEnds S l es) q (own_ends S es u)
