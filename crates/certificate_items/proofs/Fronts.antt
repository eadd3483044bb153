-- The items at the front of a text: these and no others.
use Rattle.std.specs.Prelude.{true, false}
use Rattle.std.proofs.Common.{List, [], ◌∷◌, ◌++◌, ℕ, ◌≡◌, refl, ap, ◌∙◌, sym as flip, subst as along}
use Rattle.checked_steps.specs.Items.{Item as PlainItem, reduction, joining, equation}
use Rattle.certificate_items.specs.declared.item.Item.{Item}
use Rattle.certificate_items.specs.Views.{plain_items}
use Rattle.certificate_items.specs.Texts.{item_lines, lines_of, BeginsWith, begins_item, HasFront}
use Rattle.certificate_items.specs.Reading.{HasNoItem}
use Rattle.certificate_items.proofs.Begins.{Split, begins_split}
use Rattle.certificate_items.proofs.Told.{item_told}

item_begins : (x : PlainItem) (a b : List ℕ) → BeginsWith (item_lines x) a b → begins_item a ≡ true
item_begins (reduction xs) a b h = ap begins_item h.0
item_begins (joining xs ys) a b h = ap begins_item h.0
item_begins (equation w xs ys) a b h = ap begins_item h.0

-- the first of some items
first_begins : (x : PlainItem) (xs : List PlainItem) (a b : List ℕ) → BeginsWith (item_lines x ++ lines_of xs) a b → begins_item a ≡ true
first_begins x xs a b h = let s : Split (item_lines x) (lines_of xs) a b = begins_split (item_lines x) (lines_of xs) a b h in item_begins x a s.between s.before

fronts_told : (xs ys : List PlainItem) (a b c : List ℕ) → HasFront a xs b → HasFront a ys c → (xs ≡ ys) × (b ≡ c)
fronts_told [] [] a b c h g = (refl, flip h.0.0 ∙ g.0.0)
fronts_told [] (y ∷ ys) a b c h g = let t : begins_item a ≡ true = first_begins y ys a c g.0 in let f : begins_item a ≡ false = along (λ z. begins_item z ≡ false) (flip h.0.0) h.1 in cc
fronts_told (x ∷ xs) [] a b c h g = let t : begins_item a ≡ true = first_begins x xs a b h.0 in let f : begins_item a ≡ false = along (λ z. begins_item z ≡ false) (flip g.0.0) g.1 in cc
fronts_told (x ∷ xs) (y ∷ ys) a b c h g =
    let s : Split (item_lines x) (lines_of xs) a b = begins_split (item_lines x) (lines_of xs) a b h.0 in
    let t : Split (item_lines y) (lines_of ys) a c = begins_split (item_lines y) (lines_of ys) a c g.0 in
    let i : (x ≡ y) × (s.between ≡ t.between) = item_told x y a s.between t.between s.before t.before in
    let j : (xs ≡ ys) × (b ≡ c) = fronts_told xs ys s.between b c (s.behind, h.1) (along (λ z. BeginsWith (lines_of ys) z c) (flip i.1) t.behind, g.1) in
    (ap (λ z. z ∷ xs) i.0 ∙ ap (λ zs. y ∷ zs) j.0, j.1)

pub only_front : (items : List Item) (a b : List ℕ) → HasFront a (plain_items items) b → (others : List PlainItem) (rest : List ℕ) → HasFront a others rest → (others ≡ plain_items items) × (rest ≡ b)
only_front items a b h others rest g = fronts_told others (plain_items items) a rest b g h

front_missing : (xs ys : List PlainItem) (a b c : List ℕ) → BeginsWith (lines_of xs) a b → begins_item b ≡ true → HasNoItem b → ¬ HasFront a ys c
front_missing [] [] a b c h q n g = let e : b ≡ c = flip h.0 ∙ g.0.0 in let t : begins_item c ≡ true = along (λ z. begins_item z ≡ true) e q in let f : begins_item c ≡ false = g.1 in cc
front_missing [] (y ∷ ys) a b c h q n g =
    let t : Split (item_lines y) (lines_of ys) a c = begins_split (item_lines y) (lines_of ys) a c g.0 in
    n y t.between (along (λ z. BeginsWith (item_lines y) z t.between) h.0 t.before)
front_missing (x ∷ xs) [] a b c h q n g = let t : begins_item a ≡ true = first_begins x xs a b h in let f : begins_item a ≡ false = along (λ z. begins_item z ≡ false) (flip g.0.0) g.1 in cc
front_missing (x ∷ xs) (y ∷ ys) a b c h q n g =
    let s : Split (item_lines x) (lines_of xs) a b = begins_split (item_lines x) (lines_of xs) a b h in
    let t : Split (item_lines y) (lines_of ys) a c = begins_split (item_lines y) (lines_of ys) a c g.0 in
    let i : (x ≡ y) × (s.between ≡ t.between) = item_told x y a s.between t.between s.before t.before in
    front_missing xs ys s.between b c s.behind q n (along (λ z. BeginsWith (lines_of ys) z c) (flip i.1) t.behind, g.1)

pub no_front : (items : List Item) (a b : List ℕ) → BeginsWith (lines_of (plain_items items)) a b → begins_item b ≡ true → HasNoItem b → (others : List PlainItem) (rest : List ℕ) → ¬ HasFront a others rest
no_front items a b h q n others rest g = front_missing (plain_items items) others a b rest h q n g
