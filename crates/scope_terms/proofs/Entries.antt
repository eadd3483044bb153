-- The entries of the map, seen as names with their numbers.
use Rattle.std.proofs.Common.{◌≡◌, ◌∙◌, sym, ℕ, Bool, List, [], ◌∷◌, ◌++◌, refl, ap, subst, map, cond}
use Rattle.std.proofs.lemmas.List.{map-append}
use Rattle.std.specs.Prelude.{None, Some}
use Rattle.std.specs.Map.{lookup}
use Rattle.indexmap.specs.IndexMap.{IndexMap, insert_entry}
use Rattle.indexmap.proofs.CallerLemmas.{insert_entry-new}
use Rattle.scope_terms.specs.Scopes.{Spelling, same_spelling}

module _ {A B X : Type 0} (f : A → B) where
  abbrev pub named : A × X → B × X
  named e = (f e.0, e.1)

  -- a look-up by a test of what is seen of a key
  pub lookup-map : (test : B → Bool) (es : List (A × X)) → lookup test (map named es) ≡ lookup (λ a. test (f a)) es
  lookup-map test [] = refl
  lookup-map test (e ∷ es) = ap (λ o. cond (test (f e.0)) (Some e.1) o) (lookup-map test es)

-- an insertion of a key whose name is new adds that name with its number
module _ {K S : Type 0} (f : K → Spelling) (m : IndexMap K ℕ S) (key : K) (n : ℕ) where
  abbrev pub seen : List (K × ℕ) → List (Spelling × ℕ)
  seen es = map (named f) es

  -- the number of a name is what the map has at its key
  pub known : (names : List (Spelling × ℕ)) (x : Spelling) → seen m.entries ≡ names → f key ≡ x → lookup (same_spelling x) names ≡ lookup (λ a. same_spelling (f key) (f a)) m.entries
  known names x view is = rw (← view) (rw (← is) (lookup-map f (same_spelling (f key)) m.entries))

  pub added : (names : List (Spelling × ℕ)) (x : Spelling) (new : List (K × ℕ)) → seen m.entries ≡ names → lookup (same_spelling x) names ≡ None → f key ≡ x → new ≡ insert_entry (λ a b. same_spelling (f a) (f b)) m.entries key n → seen new ≡ names ++ (x, n) ∷ []
  added names x new view none is inserted =
      let absent : lookup (same_spelling (f key)) (map (named f) m.entries) ≡ None = rw is (subst (λ (d : List (Spelling × ℕ)). lookup (same_spelling x) d ≡ None) (sym view) none) in
      let last = insert_entry-new (λ a b. same_spelling (f a) (f b)) m key n (sym (lookup-map f (same_spelling (f key)) m.entries) ∙ absent) in
      ap seen (inserted ∙ last) ∙ map-append (named f) m.entries ((key, n) ∷ []) ∙ rw is (ap (λ (d : List (Spelling × ℕ)). d ++ (x, n) ∷ []) view)
