-- For proofs: the texts on which a command rests.
use Rattle.std.specs.Prelude.{ℕ, ◌≡◌, Bool, List, [], ◌∷◌, ◌++◌, get_or, map}
use Rattle.std.specs.Arc.{arc_value}
use Rattle.std.specs.Cmp.Lexicographic.{pointwise}
use Rattle.scope_terms.specs.Scopes.{same_spelling}
use Rattle.edit_session.specs.declared.grounds.Ground.{Ground}
use Rattle.edit_session.specs.declared.slot.Slot.{Slot}

abbrev pub texts_in : List Slot → List (List ℕ)
texts_in slots = map (λ (s : Slot). arc_value s.text) slots

-- those at these places
abbrev pub texts_at : List (List ℕ) → List ℕ → List (List ℕ)
texts_at texts [] = []
texts_at texts (p ∷ ps) = get_or texts p [] ∷ texts_at texts ps

-- letter by letter
abbrev pub same_texts : List (List ℕ) → List (List ℕ) → Bool
same_texts = pointwise same_spelling

-- the texts at all of these places but its own, the last
pub record IsGround (texts : List (List ℕ)) (places : List ℕ) (own : ℕ) (g : Ground) : Type 0 where
  pub before : List ℕ
  pub places_are : places ≡ before ++ own ∷ []
  pub texts_are : map arc_value g.texts.items ≡ texts_at texts before
  pub kept : g.places ≡ places
