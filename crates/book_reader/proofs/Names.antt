-- The names in a set.
use Rattle.std.proofs.Common.{◌≡◌, ℕ, false, List, [], ◌∷◌, ◌++◌, refl, ap, ◌∙◌, map}
use Rattle.std.proofs.lemmas.List.{map-append}
use Rattle.std.specs.Prelude.{◌||◌, if◌then◌else◌}
use Rattle.std.specs.List.{list_any}
use Rattle.std.specs.Str.{bytes_eq}
use Rattle.indexmap.specs.IndexSet.{insert_key}
use Rattle.book_reader.specs.Walkers.{has}

pub any_names : {V : Type 0} (f : V → List ℕ) (m : List ℕ) (ks : List V) → list_any (λ k. bytes_eq m (f k)) ks ≡ has (map f ks) m
any_names f m [] = refl
any_names f m (k ∷ ks) = ap (λ b. bytes_eq m (f k) || b) (any_names f m ks)

pub names_added : {V : Type 0} (f : V → List ℕ) (ks new : List V) (k : V) (m : List ℕ) → new ≡ insert_key (λ x y. bytes_eq (f x) (f y)) ks k → f k ≡ m → has (map f ks) m ≡ false → map f new ≡ map f ks ++ m ∷ []
names_added f ks new k m is named absent =
    ap (map f) (is ∙ ap (λ b. if b then ks else (ks ++ k ∷ [])) (any_names f (f k) ks ∙ ap (has (map f ks)) named ∙ absent))
    ∙ map-append f ks (k ∷ []) ∙ ap (λ l. map f ks ++ l ∷ []) named
