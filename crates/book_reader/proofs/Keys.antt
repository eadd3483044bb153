-- Keys of books, modules, and how a needed one stands.
use Rattle.std.proofs.Common.{◌≡◌, ℕ, Bool, true, false, List, [], ◌∷◌, ◌++◌, refl, sym, ap, subst, ◌∙◌}
use Rattle.std.proofs.lemmas.Slice.Eq.{bytes_eq-Decides}
use Rattle.std.specs.Prelude.{Option, Some, None, ◌||◌, if◌then◌else◌}
use Rattle.std.specs.List.{list_any}
use Rattle.std.specs.Str.{bytes_eq}
use Rattle.theory_walk.specs.declared.needs.Standing.{Standing}
use Rattle.theory_walk.specs.declared.needs.Standing.TheVariants.{Current, Below, WasRead, New}
use Rattle.theory_walk.specs.Libraries.{Key}
use Rattle.theory_walk.specs.Walks.{is_module, module_in, standing_of}
use Rattle.book_reader.specs.Shelved.{same_key}
use Rattle.book_reader.specs.Walkers.{has, has_key}

pub not_both : {A : Type 0} (b : Bool) → b ≡ false → b ≡ true → A
not_both b is_false is_true = absurd (subst (λ c. elim c as (λ x. Type 0) [ true ↦ Unit {0} | false ↦ ⊥ ]) (sym is_true ∙ is_false) tt)

pub first_false : (a b : Bool) → (a || b) ≡ false → a ≡ false
first_false false b is = refl
first_false true b is = is

pub second_false : (a b : Bool) → (a || b) ≡ false → b ≡ false
second_false false b is = is
second_false true b is = not_both true is refl

or_true : (b : Bool) → (b || true) ≡ true
or_true true = refl
or_true false = refl

pub same_bytes : (a b : List ℕ) → bytes_eq a b ≡ true → a ≡ b
same_bytes a b = (bytes_eq-Decides a b).0

pub own_bytes : (a : List ℕ) → bytes_eq a a ≡ true
own_bytes a = (bytes_eq-Decides a a).1 refl

pub own_key : (k : Key) → same_key k k ≡ true
own_key None = refl
own_key (Some m) = own_bytes m

pub key_is : (a b : Key) → same_key a b ≡ true → a ≡ b
key_is None None is = refl
key_is None (Some b) is = not_both false refl is
key_is (Some a) None is = not_both false refl is
key_is (Some a) (Some b) is = ap Some (same_bytes a b is)

-- a book among others isn't one that isn't among them
apart_by : (ks : List Key) (a k : Key) (b : Bool) → same_key a k ≡ b → has_key ks a ≡ false → has_key ks k ≡ true → same_key a k ≡ false
apart_by ks a k false is no_a yes_k = is
apart_by ks a k true is no_a yes_k = not_both (has_key ks a) no_a (ap (has_key ks) (key_is a k is) ∙ yes_k)

pub apart_keys : (ks : List Key) (a k : Key) → has_key ks a ≡ false → has_key ks k ≡ true → same_key a k ≡ false
apart_keys ks a k = apart_by ks a k (same_key a k) refl

modules_by : (known : List (List ℕ)) (m k : List ℕ) (b : Bool) → bytes_eq m k ≡ b → has known m ≡ false → has known k ≡ true → bytes_eq m k ≡ false
modules_by known m k false is no_m yes_k = is
modules_by known m k true is no_m yes_k = not_both (has known m) no_m (ap (has known) (same_bytes m k is) ∙ yes_k)

-- two modules, of which one was opened and the other wasn't
pub apart : (known : List (List ℕ)) (m k : List ℕ) → has known m ≡ false → has known k ≡ true → bytes_eq m k ≡ false
apart known m k = modules_by known m k (bytes_eq m k) refl

pub any_more : (known : List (List ℕ)) (m n : List ℕ) → has known n ≡ true → has (known ++ m ∷ []) n ≡ true
any_more [] m n is = not_both false refl is
any_more (k ∷ known) m n is = by_first (any_more known m n) (bytes_eq n k) is where
  by_first : (has known n ≡ true → has (known ++ m ∷ []) n ≡ true) → (b : Bool) → (b || has known n) ≡ true → (b || has (known ++ m ∷ []) n) ≡ true
  by_first later true is = refl
  by_first later false is = later is

pub known_last : (known : List (List ℕ)) (m : List ℕ) → has (known ++ m ∷ []) m ≡ true
known_last [] m = ap (λ b. b || false) (own_bytes m)
known_last (k ∷ known) m = ap (λ b. bytes_eq m k || b) (known_last known m) ∙ or_true (bytes_eq m k)

pub has_first : (k : Key) (ks : List Key) → has_key (k ∷ ks) k ≡ true
has_first k ks = ap (λ b. b || has_key ks k) (own_key k)

pub has_later : (a k : Key) (ks : List Key) → has_key ks k ≡ true → has_key (a ∷ ks) k ≡ true
has_later a k ks is = ap (λ b. same_key a k || b) is ∙ or_true (same_key a k)

-- ---- a module that is new

pub record IsNew (own : Option (List ℕ)) (book : Key) (below : List Key) (known : List (List ℕ)) (m : List ℕ) : Type 0 where
  pub other : is_module m (module_in own book) ≡ false
  pub not_below : list_any (λ b. is_module m (module_in own b)) below ≡ false
  pub unknown : has known m ≡ false

abbrev is_new_standing : Standing → Type 0
is_new_standing New = Unit {0}
is_new_standing t = ⊥

new_by : (own : Option (List ℕ)) (book : Key) (below : List Key) (known : List (List ℕ)) (m : List ℕ) (a b c : Bool)
    → is_module m (module_in own book) ≡ a → list_any (λ b. is_module m (module_in own b)) below ≡ b → has known m ≡ c
    → (if a then Current else (if b then Below else (if c then WasRead else New))) ≡ New → IsNew own book below known m
new_by own book below known m true b c ea eb ec is = absurd (subst is_new_standing (sym is) tt)
new_by own book below known m false true c ea eb ec is = absurd (subst is_new_standing (sym is) tt)
new_by own book below known m false false true ea eb ec is = absurd (subst is_new_standing (sym is) tt)
new_by own book below known m false false false ea eb ec is = record { other = ea; not_below = eb; unknown = ec }

pub is_new : (own : Option (List ℕ)) (book : Key) (below : List Key) (known : List (List ℕ)) (m : List ℕ) → standing_of own book below known m ≡ New → IsNew own book below known m
is_new own book below known m is =
    new_by own book below known m (is_module m (module_in own book)) (list_any (λ b. is_module m (module_in own b)) below) (has known m) refl refl refl is

other_key : (own : Option (List ℕ)) (m : List ℕ) (k : Key) → is_module m (module_in own k) ≡ false → same_key k (Some m) ≡ false
other_key own m None is = refl
other_key own m (Some n) is = is

not_among : (own : Option (List ℕ)) (m : List ℕ) (ks : List Key) → list_any (λ b. is_module m (module_in own b)) ks ≡ false → has_key ks (Some m) ≡ false
not_among own m [] is = refl
not_among own m (k ∷ ks) is =
    let later : Bool = list_any (λ b. is_module m (module_in own b)) ks in
    ap (λ b. b || has_key ks (Some m)) (other_key own m k (first_false (is_module m (module_in own k)) later is))
    ∙ not_among own m ks (second_false (is_module m (module_in own k)) later is)

-- its book isn't open
pub not_open : (own : Option (List ℕ)) (book : Key) (below : List Key) (known : List (List ℕ)) (m : List ℕ) → IsNew own book below known m → has_key (book ∷ below) (Some m) ≡ false
not_open own book below known m new = ap (λ b. b || has_key below (Some m)) (other_key own m book new.other) ∙ not_among own m below new.not_below
