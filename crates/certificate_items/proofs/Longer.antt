-- Steps, joins and items one after the other: what is read so far goes on by the next one, and where none stands behind it
-- there are no more.
use Rattle.std.specs.Prelude.{length, eqb, Bool, true, false}
use Rattle.std.proofs.lemmas.Bool.{eqb-true, eqb-false}
use Rattle.std.proofs.Common.{List, [], ◌∷◌, ◌++◌, append-nil, append_assoc, ℕ, ◌+◌, ◌<◌, ◌≡◌, refl, ap, ◌∙◌, sym as flip, subst as along, arith}
use Rattle.checked_steps.specs.Items.{ItemSteps, no_steps, more_steps, ItemJoins, no_joins, more_joins}
use Rattle.checked_steps.specs.Items.{Item as PlainItem}
use Rattle.certificate_items.specs.declared.item.Step.{Step}
use Rattle.certificate_items.specs.declared.item.Join.{Join}
use Rattle.certificate_items.specs.declared.item.Item.{Item}
use Rattle.certificate_items.specs.Views.{plain_step, plain_steps, plain_joins, plain_item, plain_items}
use Rattle.certificate_items.specs.Texts.{step_count, join_count, step_lines, steps_lines, joins_lines, join_lines, item_lines, lines_of, BeginsWith, IsTextOf, IsNoText}
use Rattle.certificate_items.specs.Reading.{HasNoStep, HasNoSteps, HasNoJoin, HasNoJoins, HasNotBoth, HasNoItem}
use Rattle.certificate_items.proofs.Begins.{Split, begins_append, begins_split, begins_shorter}
use Rattle.certificate_items.proofs.Told.{BothTold, step_told, steps_told, join_told, head_line, other_lines, item_is, item_told}

-- ---- steps

steps_pushed : (xs : List Step) (x : Step) → steps_lines (plain_steps (xs ++ (x ∷ []))) ≡ steps_lines (plain_steps xs) ++ step_lines (plain_step x)
steps_pushed [] x = append-nil (step_lines (plain_step x))
steps_pushed (y ∷ xs) x = ap (λ z. step_lines (plain_step y) ++ z) (steps_pushed xs x) ∙ flip (append_assoc (step_lines (plain_step y)) (steps_lines (plain_steps xs)) (step_lines (plain_step x)))

pub steps_counted : (xs : List Step) (x : Step) → step_count (plain_steps (xs ++ (x ∷ []))) ≡ step_count (plain_steps xs) + 1
steps_counted [] x = refl
steps_counted (y ∷ xs) x = omega (arith, steps_counted xs x)

pub steps_go_on : (xs : List Step) (x : Step) (a b c : List ℕ) → BeginsWith (steps_lines (plain_steps xs)) a b → BeginsWith (step_lines (plain_step x)) b c
    → BeginsWith (steps_lines (plain_steps (xs ++ (x ∷ [])))) a c
steps_go_on xs x a b c h g = along (λ z. BeginsWith z a c) (flip (steps_pushed xs x)) (begins_append (steps_lines (plain_steps xs)) (step_lines (plain_step x)) a b c h g)

more_than : (xs ys : ItemSteps) (a b c : List ℕ) → step_count xs < step_count ys → BeginsWith (steps_lines xs) a b → HasNoStep b → ¬ BeginsWith (steps_lines ys) a c
more_than no_steps no_steps a b c l h n g = omega (arith, l)
more_than (more_steps x xs) no_steps a b c l h n g = omega (arith, l)
more_than no_steps (more_steps y ys) a b c l h n g =
    let t : Split (step_lines y) (steps_lines ys) a c = begins_split (step_lines y) (steps_lines ys) a c g in
    n y t.between (along (λ z. BeginsWith (step_lines y) z t.between) h.0 t.before)
more_than (more_steps x xs) (more_steps y ys) a b c l h n g =
    let s : Split (step_lines x) (steps_lines xs) a b = begins_split (step_lines x) (steps_lines xs) a b h in
    let t : Split (step_lines y) (steps_lines ys) a c = begins_split (step_lines y) (steps_lines ys) a c g in
    let i : (x ≡ y) × (s.between ≡ t.between) = step_told x y a s.between t.between s.before t.before in
    more_than xs ys s.between b c (omega (arith, l)) s.behind n (along (λ z. BeginsWith (steps_lines ys) z c) (flip i.1) t.behind)

pub no_more_steps : (xs : List Step) (n : ℕ) (a b : List ℕ) → step_count (plain_steps xs) < n → BeginsWith (steps_lines (plain_steps xs)) a b → HasNoStep b → HasNoSteps n a
no_more_steps xs n a b l h none ys e c g = more_than (plain_steps xs) ys a b c (omega (arith, l, e)) h none g

-- ---- the steps of two terms

pub first_missing : (n m : ℕ) (a : List ℕ) → HasNoSteps n a → HasNotBoth n m a
first_missing n m a h xs ys e d c g = let t : Split (steps_lines xs) (steps_lines ys) a c = begins_split (steps_lines xs) (steps_lines ys) a c g in h xs e t.between t.before

pub second_missing : (xs : List Step) (n m : ℕ) (a b : List ℕ) → step_count (plain_steps xs) ≡ n → BeginsWith (steps_lines (plain_steps xs)) a b → HasNoSteps m b → HasNotBoth n m a
second_missing xs n m a b k s h us vs e d c g =
    let t : Split (steps_lines us) (steps_lines vs) a c = begins_split (steps_lines us) (steps_lines vs) a c g in
    let i : (plain_steps xs ≡ us) × (b ≡ t.between) = steps_told (plain_steps xs) us (k ∙ flip e) a b t.between s t.before in
    h vs d c (along (λ z. BeginsWith (steps_lines vs) z c) (flip i.1) t.behind)

-- ---- joins

joins_pushed : (js : List Join) (j : Join) → joins_lines (plain_joins (js ++ (j ∷ []))) ≡ joins_lines (plain_joins js) ++ join_lines (plain_steps j.first) (plain_steps j.second)
joins_pushed [] j = append-nil (join_lines (plain_steps j.first) (plain_steps j.second))
joins_pushed (i ∷ js) j = ap (λ z. join_lines (plain_steps i.first) (plain_steps i.second) ++ z) (joins_pushed js j)
    ∙ flip (append_assoc (join_lines (plain_steps i.first) (plain_steps i.second)) (joins_lines (plain_joins js)) (join_lines (plain_steps j.first) (plain_steps j.second)))

pub joins_counted : (js : List Join) (j : Join) → join_count (plain_joins (js ++ (j ∷ []))) ≡ join_count (plain_joins js) + 1
joins_counted [] j = refl
joins_counted (i ∷ js) j = omega (arith, joins_counted js j)

pub joins_go_on : (js : List Join) (j : Join) (a b c : List ℕ) → BeginsWith (joins_lines (plain_joins js)) a b → BeginsWith (join_lines (plain_steps j.first) (plain_steps j.second)) b c
    → BeginsWith (joins_lines (plain_joins (js ++ (j ∷ [])))) a c
joins_go_on js j a b c h g = along (λ z. BeginsWith z a c) (flip (joins_pushed js j)) (begins_append (joins_lines (plain_joins js)) (join_lines (plain_steps j.first) (plain_steps j.second)) a b c h g)

more_joins_than : (js is : ItemJoins) (a b c : List ℕ) → join_count js < join_count is → BeginsWith (joins_lines js) a b → HasNoJoin b → ¬ BeginsWith (joins_lines is) a c
more_joins_than no_joins no_joins a b c l h n g = omega (arith, l)
more_joins_than (more_joins xs ys js) no_joins a b c l h n g = omega (arith, l)
more_joins_than no_joins (more_joins us vs is) a b c l h n g =
    let t : Split (join_lines us vs) (joins_lines is) a c = begins_split (join_lines us vs) (joins_lines is) a c g in
    n us vs t.between (along (λ z. BeginsWith (join_lines us vs) z t.between) h.0 t.before)
more_joins_than (more_joins xs ys js) (more_joins us vs is) a b c l h n g =
    let s : Split (join_lines xs ys) (joins_lines js) a b = begins_split (join_lines xs ys) (joins_lines js) a b h in
    let t : Split (join_lines us vs) (joins_lines is) a c = begins_split (join_lines us vs) (joins_lines is) a c g in
    let i : BothTold xs ys us vs s.between t.between = join_told xs ys us vs a s.between t.between s.before t.before in
    more_joins_than js is s.between b c (omega (arith, l)) s.behind n (along (λ z. BeginsWith (joins_lines is) z c) (flip i.rest) t.behind)

pub no_more_joins : (js : List Join) (n : ℕ) (a b : List ℕ) → join_count (plain_joins js) < n → BeginsWith (joins_lines (plain_joins js)) a b → HasNoJoin b → HasNoJoins n a
no_more_joins js n a b l h none is e c g = more_joins_than (plain_joins js) is a b c (omega (arith, l, e)) h none g

-- ---- items

items_pushed : (xs : List Item) (x : Item) → lines_of (plain_items (xs ++ (x ∷ []))) ≡ lines_of (plain_items xs) ++ item_lines (plain_item x)
items_pushed [] x = append-nil (item_lines (plain_item x))
items_pushed (y ∷ xs) x = ap (λ z. item_lines (plain_item y) ++ z) (items_pushed xs x) ∙ flip (append_assoc (item_lines (plain_item y)) (lines_of (plain_items xs)) (item_lines (plain_item x)))

pub items_go_on : (xs : List Item) (x : Item) (a b c : List ℕ) → BeginsWith (lines_of (plain_items xs)) a b → BeginsWith (item_lines (plain_item x)) b c
    → BeginsWith (lines_of (plain_items (xs ++ (x ∷ [])))) a c
items_go_on xs x a b c h g = along (λ z. BeginsWith z a c) (flip (items_pushed xs x)) (begins_append (lines_of (plain_items xs)) (item_lines (plain_item x)) a b c h g)

pub item_shorter : (x : PlainItem) (a b : List ℕ) → BeginsWith (item_lines x) a b → length b < length a
item_shorter x a b h = begins_shorter (head_line x) (other_lines x) a b (along (λ z. BeginsWith z a b) (item_is x) h)

-- an item's text isn't nothing
nothing_first : (x : PlainItem) (b : List ℕ) → ¬ BeginsWith (item_lines x) [] b
nothing_first x b h = let l : length b < 0 = item_shorter x [] b h in omega (arith, l)

item_first : (x : PlainItem) (xs : List PlainItem) (b : List ℕ) → ¬ BeginsWith (item_lines x ++ lines_of xs) [] b
item_first x xs b h = let s : Split (item_lines x) (lines_of xs) [] b = begins_split (item_lines x) (lines_of xs) [] b h in nothing_first x s.between s.before

-- of as many bytes, one list of items
one_list : (xs ys : List PlainItem) (a : List ℕ) → IsTextOf a xs → IsTextOf a ys → xs ≡ ys
one_list [] [] a h g = refl
one_list [] (y ∷ ys) a h g = absurd (item_first y ys [] (along (λ z. BeginsWith (item_lines y ++ lines_of ys) z []) h.0 g))
one_list (x ∷ xs) [] a h g = absurd (item_first x xs [] (along (λ z. BeginsWith (item_lines x ++ lines_of xs) z []) g.0 h))
one_list (x ∷ xs) (y ∷ ys) a h g =
    let s : Split (item_lines x) (lines_of xs) a [] = begins_split (item_lines x) (lines_of xs) a [] h in
    let t : Split (item_lines y) (lines_of ys) a [] = begins_split (item_lines y) (lines_of ys) a [] g in
    let i : (x ≡ y) × (s.between ≡ t.between) = item_told x y a s.between t.between s.before t.before in
    let j : xs ≡ ys = one_list xs ys s.between s.behind (along (λ z. BeginsWith (lines_of ys) z []) (flip i.1) t.behind) in
    ap (λ z. z ∷ xs) i.0 ∙ ap (λ zs. y ∷ zs) j

pub whole_text : (items : List Item) (a b : List ℕ) → BeginsWith (lines_of (plain_items items)) a b → length b ≡ 0 → IsTextOf a (plain_items items)
whole_text items a [] h e = h
whole_text items a (x ∷ b) h e = absurd (omega (arith, e))

pub only_items : (items : List Item) (a b : List ℕ) → BeginsWith (lines_of (plain_items items)) a b → length b ≡ 0 → (others : List PlainItem) → IsTextOf a others → others ≡ plain_items items
only_items items a b h e others g = one_list others (plain_items items) a g (whole_text items a b h e)

missing : (xs ys : List PlainItem) (a b : List ℕ) → 0 < length b → BeginsWith (lines_of xs) a b → HasNoItem b → ¬ IsTextOf a ys
missing [] [] a b l h n g = let e : length a ≡ length b = ap length h.0 in let d : length a ≡ 0 = ap length g.0 in omega (arith, l, e, d)
missing [] (y ∷ ys) a b l h n g =
    let t : Split (item_lines y) (lines_of ys) a [] = begins_split (item_lines y) (lines_of ys) a [] g in
    n y t.between (along (λ z. BeginsWith (item_lines y) z t.between) h.0 t.before)
missing (x ∷ xs) [] a b l h n g = item_first x xs b (along (λ z. BeginsWith (item_lines x ++ lines_of xs) z b) g.0 h)
missing (x ∷ xs) (y ∷ ys) a b l h n g =
    let s : Split (item_lines x) (lines_of xs) a b = begins_split (item_lines x) (lines_of xs) a b h in
    let t : Split (item_lines y) (lines_of ys) a [] = begins_split (item_lines y) (lines_of ys) a [] g in
    let i : (x ≡ y) × (s.between ≡ t.between) = item_told x y a s.between t.between s.before t.before in
    missing xs ys s.between b l s.behind n (along (λ z. BeginsWith (lines_of ys) z []) (flip i.1) t.behind)

-- what a test for emptiness says
pub none_left : (b : List ℕ) (t : Bool) → t ≡ eqb (length b) 0 → t ≡ true → length b ≡ 0
none_left b t e q = eqb-true (length b) 0 (flip e ∙ q)

pub some_left : (b : List ℕ) (t : Bool) → t ≡ eqb (length b) 0 → t ≡ false → 0 < length b
some_left b t e q = let n : length b ≡ 0 → ⊥ = eqb-false (length b) 0 (flip e ∙ q) in omega (arith, n)

pub no_more_items : (items : List Item) (a b : List ℕ) → 0 < length b → BeginsWith (lines_of (plain_items items)) a b → HasNoItem b → IsNoText a
no_more_items items a b l h n others g = missing (plain_items items) others a b l h n g
