-- Spellings that are kept once.
use Rattle.std.proofs.Common.{List, [], ◌∷◌, ◌++◌, ◌≡◌, Bool, true, false, ◌||◌, refl, ap, sym as flip, ◌∙◌, if◌then◌else◌}
use Rattle.std.specs.Prelude.{map}
use Rattle.std.specs.List.{list_any}
use Rattle.indexmap.specs.IndexSet.{insert_key}
use Rattle.scope_terms.specs.Scopes.{Spelling, same_spelling}
use Rattle.term_print.specs.Named.{has}
use Rattle.term_print.proofs.Fresh.{same_is}

pub or_false : (b : Bool) → (b || false) ≡ b
or_false true = refl
or_false false = refl

pub or_turned : (a b c : Bool) → (a || (b || c)) ≡ (b || (a || c))
or_turned true true c = refl
or_turned true false c = refl
or_turned false b c = refl

pub or_grouped : (a b c : Bool) → ((a || b) || c) ≡ (a || (b || c))
or_grouped true b c = refl
or_grouped false b c = refl

pub has_both : (xs ys : List Spelling) (x : Spelling) → has (xs ++ ys) x ≡ (has xs x || has ys x)
has_both [] ys x = refl
has_both (s ∷ ss) ys x = ap (λ b. same_spelling x s || b) (has_both ss ys x) ∙ flip (or_grouped (same_spelling x s) (has ss x) (has ys x))

-- one more at the end
has_more : (xs : List Spelling) (s x : Spelling) → has (xs ++ s ∷ []) x ≡ (same_spelling x s || has xs x)
has_more [] s x = refl
has_more (y ∷ ys) s x = ap (λ b. same_spelling x y || b) (has_more ys s x) ∙ or_turned (same_spelling x y) (same_spelling x s) (has ys x)

-- one that is there already
has_again : (xs : List Spelling) (s x : Spelling) → has xs s ≡ true → has xs x ≡ (same_spelling x s || has xs x)
has_again xs s x h = by (same_spelling x s) refl
  where
    by : (b : Bool) → same_spelling x s ≡ b → has xs x ≡ (b || has xs x)
    by true e = ap (has xs) (same_is x s e) ∙ h
    by false e = refl

-- ---- keys of a set

module _ {K : Type 0} (f : K → Spelling) where
  pub has_listed : (keys : List K) (x : Spelling) → has (map f keys) x ≡ list_any (λ k. same_spelling x (f k)) keys
  has_listed [] x = refl
  has_listed (k ∷ ks) x = ap (λ b. same_spelling x (f k) || b) (has_listed ks x)

  mapped : (keys : List K) (k : K) → map f (keys ++ k ∷ []) ≡ map f keys ++ f k ∷ []
  mapped [] k = refl
  mapped (y ∷ ys) k = ap (λ zs. f y ∷ zs) (mapped ys k)

  pub key_inserted : (keys : List K) (key : K) (x : Spelling) → has (map f (insert_key (λ a b. same_spelling (f a) (f b)) keys key)) x ≡ (same_spelling x (f key) || has (map f keys) x)
  key_inserted keys key x = by (list_any (λ k. same_spelling (f key) (f k)) keys) refl
    where
      by : (b : Bool) → list_any (λ k. same_spelling (f key) (f k)) keys ≡ b → has (map f (if b then keys else keys ++ key ∷ [])) x ≡ (same_spelling x (f key) || has (map f keys) x)
      by true e = has_again (map f keys) (f key) x (has_listed keys (f key) ∙ e)
      by false e = ap (λ ss. has ss x) (mapped keys key) ∙ has_more (map f keys) (f key) x

  pub spelling_added : (keys after : List K) (key : K) (old new : List Spelling) (spelling : Spelling) → map f keys ≡ old → map f after ≡ new → after ≡ insert_key (λ a b. same_spelling (f a) (f b)) keys key → f key ≡ spelling
      → (x : Spelling) → has new x ≡ (same_spelling x spelling || has old x)
  spelling_added keys after key old new spelling o n i s x =
      ap (λ ss. has ss x) (flip n) ∙ (ap (λ ks. has (map f ks) x) i ∙ (key_inserted keys key x ∙ (ap (λ y. same_spelling x y || has (map f keys) x) s ∙ ap (λ ss. same_spelling x spelling || has ss x) o)))
