-- What holds of each element of a list whose last one is taken or put.
use Rattle.std.proofs.Common.{◌≡◌, zero, suc, List, [], ◌∷◌, ◌++◌, sym, subst, arith, All}
use Rattle.std.proofs.lemmas.List.Elements.{All-append, All-cons}

pub all_one : {A : Type 0} (P : A → Type 0) (x : A) → P x → All P (x ∷ [])
all_one P x p zero d h = p
all_one P x p (suc k) d h = absurd (omega arith)

pub tail_all : {A : Type 0} (P : A → Type 0) (y : A) (xs : List A) → All P (y ∷ xs) → All P xs
tail_all P y xs all k d h = all (suc k) d (omega arith)

split_all : {A : Type 0} (P : A → Type 0) (xs : List A) (x : A) → All P (xs ++ x ∷ []) → All P xs × P x
split_all P [] x all = ((λ k d h. absurd (omega arith)), all zero x (omega arith))
split_all P (y ∷ xs) x all = let t = split_all P xs x (tail_all P y (xs ++ x ∷ []) all) in (All-cons P y xs (all zero y (omega arith)) t.0, t.1)

-- what holds of all and of one more
pub all_put : {A : Type 0} (P : A → Type 0) (xs ys : List A) (x : A) → ys ≡ xs ++ x ∷ [] → All P xs → P x → All P ys
all_put P xs ys x is all p = subst (All P) (sym is) (All-append P xs (x ∷ []) all (all_one P x p))

-- what holds of all holds of the last and of those before it
pub all_take : {A : Type 0} (P : A → Type 0) (xs ys : List A) (x : A) → ys ≡ xs ++ x ∷ [] → All P ys → All P xs × P x
all_take P xs ys x is all = split_all P xs x (subst (All P) is all)
