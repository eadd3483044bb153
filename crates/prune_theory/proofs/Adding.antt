-- Lists to which the symbols of one part after the other are added.
use Rattle.std.proofs.Common.{List, ◌++◌, append_assoc, ℕ, ◌≡◌, ◌∙◌, ap, sym}

pub both_added : (xs ys zs as' bs : List ℕ) → ys ≡ xs ++ as' → zs ≡ ys ++ bs → zs ≡ xs ++ (as' ++ bs)
both_added xs ys zs as' bs e f = f ∙ ap (λ (l : List ℕ). l ++ bs) e ∙ append_assoc xs as' bs

pub all_added : (xs ys zs ws as' bs cs : List ℕ) → ys ≡ xs ++ as' → zs ≡ ys ++ bs → ws ≡ zs ++ cs → ws ≡ xs ++ (as' ++ (bs ++ cs))
all_added xs ys zs ws as' bs cs e f g = both_added xs ys ws as' (bs ++ cs) e (both_added ys zs ws bs cs f g)

-- one part more, of all that is still to be added
pub one_added : (xs ys as' bs all : List ℕ) → xs ++ (as' ++ bs) ≡ all → ys ≡ xs ++ as' → ys ++ bs ≡ all
one_added xs ys as' bs all e f = ap (λ (l : List ℕ). l ++ bs) f ∙ append_assoc xs as' bs ∙ e
