-- Patterns over other terms, and a signature copied entry by entry.
use Rattle.std.proofs.Common.{◌≡◌, ◌∙◌, ap, sym as flip, refl, ℕ, List, [], ◌∷◌, map}
use Rattle.dk_model.specs.Trees.{Tree}
use Rattle.dk_model.specs.Signatures.{Pattern, Patterns, no_patterns, more_patterns, symbol_pattern, variable_pattern, pattern_by, patterns_by}
use Rattle.dk_model.specs.declared.signature.Pat.{Pat, Row_of-Pat, end_of-Pat, more_of-Pat, items-the_row-Pat}
use Rattle.dk_model.specs.declared.signature.Pat.TheVariants.{Sym, Var}
use Rattle.dk_model.specs.declared.signature.Pat.TheBlock.{hidden-the_row-Pat-0, items_hidden-the_row-Pat-0}

abbrev listed : List Pattern → Patterns
listed [] = no_patterns
listed (p ∷ ps) = more_patterns p (listed ps)

module _ {T : Type 0} (view : T → Tree) where
  row_items : (n : _) (r : Row_of-Pat T n) → patterns_by view r ≡ listed (map (pattern_by view) (items-the_row-Pat T n r))
  row_items n end_of-Pat = refl
  row_items n (more_of-Pat p r) = ap (λ (qs : Patterns). more_patterns (pattern_by view p) qs) (row_items _ r)

  row_is : (ps : List (Pat T)) → patterns_by view (hidden-the_row-Pat-0 T ps) ≡ listed (map (pattern_by view) ps)
  row_is ps = row_items _ (hidden-the_row-Pat-0 T ps) ∙ ap (λ (qs : List (Pat T)). listed (map (pattern_by view) qs)) (items_hidden-the_row-Pat-0 T ps)

  symbol_is : (k : ℕ) (ps : List (Pat T)) → pattern_by view (Sym k ps) ≡ symbol_pattern k (listed (map (pattern_by view) ps))
  symbol_is k ps = ap (symbol_pattern k) (row_is ps)

  variable_is : (k : ℕ) (ps : List (Pat T)) → pattern_by view (Var k ps) ≡ variable_pattern k (listed (map (pattern_by view) ps))
  variable_is k ps = ap (variable_pattern k) (row_is ps)

module _ {A B : Type 0} (read : A → Tree) (made : B → Tree) where
  pub carried_symbol : (p : Pat A) (k : ℕ) (ps : List (Pat A)) (qs : List (Pat B)) → p ≡ Sym k ps → map (pattern_by made) qs ≡ map (pattern_by read) ps
      → pattern_by made (Sym k qs) ≡ pattern_by read p
  carried_symbol p k ps qs is e = symbol_is made k qs ∙ ap (λ (xs : List Pattern). symbol_pattern k (listed xs)) e ∙ flip (ap (pattern_by read) is ∙ symbol_is read k ps)

  pub carried_variable : (p : Pat A) (k : ℕ) (ps : List (Pat A)) (qs : List (Pat B)) → p ≡ Var k ps → map (pattern_by made) qs ≡ map (pattern_by read) ps
      → pattern_by made (Var k qs) ≡ pattern_by read p
  carried_variable p k ps qs is e = variable_is made k qs ∙ ap (λ (xs : List Pattern). variable_pattern k (listed xs)) e ∙ flip (ap (pattern_by read) is ∙ variable_is read k ps)
