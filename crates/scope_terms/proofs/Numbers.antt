-- Look-ups behind one more name.
use Rattle.std.proofs.Common.{◌≡◌, ◌≢◌, ◌∙◌, ap, sym, refl, ℕ, Bool, true, false, cond, List, [], ◌∷◌, ◌++◌}
use Rattle.std.specs.Prelude.{None, Some}
use Rattle.std.specs.Cmp.Lexicographic.{bytes_decides}
use Rattle.std.specs.Map.{lookup}
use Rattle.scope_terms.specs.Scopes.{Numbered, same_spelling, number_of, with_name}

module _ {K X : Type 0} (test : K → Bool) (k : K) (n : X) where
  lookup_last : (es : List (K × X)) → lookup test es ≡ None → lookup test (es ++ (k, n) ∷ []) ≡ cond (test k) (Some n) None
  lookup_last [] absent = refl
  lookup_last (e ∷ es) absent = by (test e.0) refl (lookup_last es)
    where
      by : (b : Bool) → test e.0 ≡ b → (lookup test es ≡ None → lookup test (es ++ (k, n) ∷ []) ≡ cond (test k) (Some n) None) → lookup test ((e ∷ es) ++ (k, n) ∷ []) ≡ cond (test k) (Some n) None
      by true is rest = let seen : Some e.1 ≡ None = sym (ap (λ b. cond b (Some e.1) (lookup test es)) is) ∙ absent in cc
      by false is rest = ap (λ b. cond b (Some e.1) (lookup test (es ++ (k, n) ∷ []))) is ∙ rest (sym (ap (λ b. cond b (Some e.1) (lookup test es)) is) ∙ absent)

  lookup_first : (es : List (K × X)) (m : X) → lookup test es ≡ Some m → lookup test (es ++ (k, n) ∷ []) ≡ Some m
  lookup_first [] m found = cc
  lookup_first (e ∷ es) m found = by (test e.0) refl (lookup_first es m)
    where
      by : (b : Bool) → test e.0 ≡ b → (lookup test es ≡ Some m → lookup test (es ++ (k, n) ∷ []) ≡ Some m) → lookup test ((e ∷ es) ++ (k, n) ∷ []) ≡ Some m
      by true is rest = ap (λ b. cond b (Some e.1) (lookup test (es ++ (k, n) ∷ []))) is ∙ sym (ap (λ b. cond b (Some e.1) (lookup test es)) is) ∙ found
      by false is rest = ap (λ b. cond b (Some e.1) (lookup test (es ++ (k, n) ∷ []))) is ∙ rest (sym (ap (λ b. cond b (Some e.1) (lookup test es)) is) ∙ found)

  lookup_others : (es : List (K × X)) → test k ≡ false → lookup test (es ++ (k, n) ∷ []) ≡ lookup test es
  lookup_others [] differs = ap (λ b. cond b (Some n) None) differs
  lookup_others (e ∷ es) differs = ap (λ o. cond (test e.0) (Some e.1) o) (lookup_others es differs)

pub number_of-added : (names : Numbered) (x : List ℕ) → number_of names x ≡ None → number_of (with_name names x) x ≡ Some names.count
number_of-added names x absent = lookup_last (same_spelling x) x names.count names.numbers absent ∙ ap (λ b. cond b (Some names.count) None) ((bytes_decides x x).1 refl)

pub number_of-kept : (names : Numbered) (x y : List ℕ) (k : ℕ) → number_of names y ≡ Some k → number_of (with_name names x) y ≡ Some k
number_of-kept names x y k found = lookup_first (same_spelling y) x names.count names.numbers k found

pub number_of-others : (names : Numbered) (x y : List ℕ) → y ≢ x → number_of (with_name names x) y ≡ number_of names y
number_of-others names x y other = by (same_spelling y x) refl
  where
    by : (b : Bool) → same_spelling y x ≡ b → number_of (with_name names x) y ≡ number_of names y
    by true is = absurd (other ((bytes_decides y x).0 is))
    by false is = lookup_others (same_spelling y) x names.count names.numbers is
