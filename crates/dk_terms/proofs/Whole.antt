-- A whole list makes its term.
use Rattle.std.proofs.Common.{◌≡◌, ℕ, List, [], ◌∷◌, refl, sym, ◌∙◌}
use Rattle.std.specs.Prelude.{Bool, true, false, Some, None}
use Rattle.dk_terms.specs.declared.operation.Wrap.TheVariants as wrap
use Rattle.dk_terms.specs.declared.operation.RawOperation.{RawOperation}
use Rattle.dk_terms.specs.declared.operation.RawOperation.TheVariants as operation
use Rattle.dk_terms.specs.Makes.{MakesTerm, made_already, makes_then, makes_name, makes_qualified, makes_star, makes_wild, makes_application, makes_scope, makes_product, makes_bare, makes_annotated}
use Rattle.dk_terms.specs.Postfix.{Item, item_scope, item_term, items_behind, items_from, one_term, shape_from, term_made, top_term}

-- whether each item is a term
abbrev kinds : List Item → List Bool
kinds [] = []
kinds (item_term t ∷ items) = true ∷ kinds items
kinds (item_scope v ∷ items) = false ∷ kinds items

-- a list whose shape is none isn't whole
none_stays : (xs : List RawOperation) → shape_from xs None ≡ None
none_stays [] = refl
none_stays (operation.Wrap wrap.Bare ∷ xs) = none_stays xs
none_stays (operation.Wrap w ∷ xs) = none_stays xs
none_stays (x ∷ xs) = none_stays xs

not_there : (xs : List RawOperation) → shape_from xs None ≡ one_term → ⊥
not_there xs e = let none = sym (none_stays xs) ∙ e in cc

module _ (letters : List ℕ) where
  -- each operation finds the items that it takes
  pub makes_all : (xs : List RawOperation) (items : List Item) → shape_from xs (Some (kinds items)) ≡ one_term → MakesTerm letters (top_term (items_from letters xs items)) xs items
  makes_all [] (item_term t ∷ []) e = made_already
  makes_all [] (item_term t ∷ item_term u ∷ items) e = absurd cc
  makes_all [] (item_term t ∷ item_scope v ∷ items) e = absurd cc
  makes_all [] items e = absurd cc
  makes_all (operation.Name s ∷ xs) items e = makes_then makes_name (makes_all xs (items_behind letters (operation.Name s) items) e)
  makes_all (operation.Qualified s k ∷ xs) items e = makes_then makes_qualified (makes_all xs (items_behind letters (operation.Qualified s k) items) e)
  makes_all (operation.Star ∷ xs) items e = makes_then makes_star (makes_all xs (items_behind letters operation.Star items) e)
  makes_all (operation.Wild ∷ xs) items e = makes_then makes_wild (makes_all xs (items_behind letters operation.Wild items) e)
  makes_all (operation.Begin o ∷ xs) items e = makes_then makes_scope (makes_all xs (items_behind letters (operation.Begin o) items) e)
  makes_all (operation.Apply ∷ xs) (item_term a ∷ item_term f ∷ items) e = makes_then makes_application (makes_all xs (items_behind letters operation.Apply (item_term a ∷ item_term f ∷ items)) e)
  makes_all (operation.Apply ∷ xs) items e = absurd (not_there xs e)
  makes_all (operation.Wrap wrap.Bare ∷ xs) (item_term b ∷ item_scope v ∷ items) e = makes_then makes_bare (makes_all xs (items_behind letters (operation.Wrap wrap.Bare) (item_term b ∷ item_scope v ∷ items)) e)
  makes_all (operation.Wrap wrap.Bare ∷ xs) items e = absurd (not_there xs e)
  makes_all (operation.Wrap wrap.Product ∷ xs) (item_term b ∷ item_scope v ∷ item_term a ∷ items) e = makes_then makes_product (makes_all xs (items_behind letters (operation.Wrap wrap.Product) (item_term b ∷ item_scope v ∷ item_term a ∷ items)) e)
  makes_all (operation.Wrap wrap.Product ∷ xs) items e = absurd (not_there xs e)
  makes_all (operation.Wrap wrap.Annotated ∷ xs) (item_term b ∷ item_scope v ∷ item_term a ∷ items) e = makes_then makes_annotated (makes_all xs (items_behind letters (operation.Wrap wrap.Annotated) (item_term b ∷ item_scope v ∷ item_term a ∷ items)) e)
  makes_all (operation.Wrap wrap.Annotated ∷ xs) items e = absurd (not_there xs e)

-- a whole list makes its term
pub whole_makes : (letters : List ℕ) (xs : List RawOperation) → shape_from xs (Some []) ≡ one_term → MakesTerm letters (term_made letters xs) xs []
whole_makes letters xs e = makes_all letters xs [] e
