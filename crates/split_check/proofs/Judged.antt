-- Results one after the other, and a check whose terms were brought.
use Rattle.std.specs.Prelude.{map, Result}
use Rattle.std.proofs.Common.{ℕ, List, [], ◌∷◌, ◌++◌, ◌≡◌, length, refl, ap, sym as flip, subst as along_path}
use Rattle.dk_model.specs.Trees.{Tree}
use Rattle.dk_model.specs.Signatures.{PlainSignature}
use Rattle.dk_model.specs.Typing.{checked}
use Rattle.dk_model.specs.declared.stop.TypeFault.{TypeFault}
use Rattle.infer_check.specs.Given.{GivesFit}
use Rattle.split_parts.specs.declared.part.PartResult.{PartResult}
use Rattle.split_check.specs.Due.{IsDue, AreDue}

-- these results, and behind them any that are due of what is left, are those due of all
abbrev pub DueBehind : List PartResult → List PartResult → List PartResult → Type 0
DueBehind left all results = (rs : List PartResult) → AreDue left rs → AreDue all (results ++ rs)

assoc : (xs ys zs : List PartResult) → (xs ++ ys) ++ zs ≡ xs ++ (ys ++ zs)
assoc [] ys zs = refl
assoc (x ∷ xs) ys zs = ap (λ l. x ∷ l) (assoc xs ys zs)

ends : (xs : List PartResult) → xs ++ [] ≡ xs
ends [] = refl
ends (x ∷ xs) = ap (λ l. x ∷ l) (ends xs)

-- with one more result
pub due_further : (d r : PartResult) (left all results grown : List PartResult) → IsDue d r → DueBehind (d ∷ left) all results → grown ≡ results ++ r ∷ [] → DueBehind left all grown
due_further d r left all results grown one h g rs more = along_path (λ l. AreDue all (l ++ rs)) (flip g) (along_path (AreDue all) (flip (assoc results (r ∷ []) rs)) (h (r ∷ rs) (one, more)))

-- with none left
pub due_ended : {A : Type 0} (f : A → PartResult) (left : List A) (all results : List PartResult) → length left ≡ 0 → DueBehind (map f left) all results → AreDue all results
due_ended f [] all results e h = along_path (AreDue all) (ends results) (h [] tt)
due_ended f (x ∷ left) all results e h = cc

-- the same check by other words for its context, its term and its type
pub given_same : (S : PlainSignature) {V W G H : List Tree} {t u T U : Tree} (n left : ℕ) (result : Result Unit TypeFault) → V ≡ W → G ≡ H → t ≡ u → T ≡ U
    → GivesFit (checked S V G t T n) result left → GivesFit (checked S W H u U n) result left
given_same S {V} {W} {G} {H} {t} {u} {T} {U} n left result v g e f given =
    along_path (λ x. GivesFit (checked S W H u x n) result left) f (along_path (λ x. GivesFit (checked S W H x T n) result left) e
    (along_path (λ x. GivesFit (checked S W x t T n) result left) g (along_path (λ x. GivesFit (checked S x G t T n) result left) v given)))
