-- The patterns below a symbol, as a list.
use Rattle.std.proofs.Common.{◌≡◌, ◌∙◌, ap, sym, refl, ℕ, List, [], ◌∷◌, map, Bool}
use Rattle.dk_model.specs.Signatures.{Pattern, Patterns, more_patterns, symbol_pattern, variable_pattern, pattern_list, pattern, patterns}
use Rattle.dk_model.specs.Shapes.{erased_pattern, erased_patterns, pattern_variables, patterns_variables}
use Rattle.dk_model.specs.declared.signature.Pat.{Pat, Row_of-Pat, end_of-Pat, more_of-Pat, items-the_row-Pat}
use Rattle.dk_model.specs.declared.signature.Pat.TheVariants.{Sym, Var}
use Rattle.dk_model.specs.declared.signature.Pat.TheBlock.{hidden-the_row-Pat-0, items_hidden-the_row-Pat-0}
use Rattle.pattern_compile.specs.Patterns.{as_patterns, plain_patterns}
use Rattle.pattern_compile.specs.Marks.{marked, guards_are_marked, all_guards_are_marked}
use Rattle.dk_model.specs.declared.term.Term.{Term}

row_items : (n : _) (r : Row_of-Pat Term n) → patterns r ≡ plain_patterns (items-the_row-Pat Term n r)
row_items n end_of-Pat = refl
row_items n (more_of-Pat p r) = ap (λ (qs : Patterns). more_patterns (pattern p) qs) (row_items _ r)

row_is : (ps : List (Pat Term)) → patterns (hidden-the_row-Pat-0 Term ps) ≡ plain_patterns ps
row_is ps = row_items _ (hidden-the_row-Pat-0 Term ps) ∙ ap plain_patterns (items_hidden-the_row-Pat-0 Term ps)

pub symbol_is : (k : ℕ) (ps : List (Pat Term)) → pattern (Sym k ps) ≡ symbol_pattern k (plain_patterns ps)
symbol_is k ps = ap (symbol_pattern k) (row_is ps)

pub variable_is : (k : ℕ) (ps : List (Pat Term)) → pattern (Var k ps) ≡ variable_pattern k (plain_patterns ps)
variable_is k ps = ap (variable_pattern k) (row_is ps)

pub listed_patterns : (ps : List Pattern) → pattern_list (as_patterns ps) ≡ ps
listed_patterns [] = refl
listed_patterns (p ∷ ps) = ap (λ (qs : List Pattern). p ∷ qs) (listed_patterns ps)

-- ---- erasure

erased_list : (ps : List Pattern) → erased_patterns (as_patterns ps) ≡ as_patterns (map erased_pattern ps)
erased_list [] = refl
erased_list (p ∷ ps) = ap (λ (qs : Patterns). more_patterns (erased_pattern p) qs) (erased_list ps)

erased_arguments : (ps qs : List (Pat Term)) → map pattern qs ≡ map erased_pattern (map pattern ps) → plain_patterns qs ≡ erased_patterns (plain_patterns ps)
erased_arguments ps qs e = ap as_patterns e ∙ sym (erased_list (map pattern ps))

pub erased_symbol : (p : Pat Term) (k : ℕ) (ps qs : List (Pat Term)) → p ≡ Sym k ps → map pattern qs ≡ map erased_pattern (map pattern ps) → pattern (Sym k qs) ≡ erased_pattern (pattern p)
erased_symbol p k ps qs is e =
    symbol_is k qs ∙ ap (symbol_pattern k) (erased_arguments ps qs e) ∙ ap erased_pattern (sym (ap pattern is ∙ symbol_is k ps))

pub erased_variable : (p : Pat Term) (k : ℕ) (ps qs : List (Pat Term)) → p ≡ Var k ps → map pattern qs ≡ map erased_pattern (map pattern ps) → pattern (Var k qs) ≡ erased_pattern (pattern p)
erased_variable p k ps qs is e =
    variable_is k qs ∙ ap (variable_pattern k) (erased_arguments ps qs e) ∙ ap erased_pattern (sym (ap pattern is ∙ variable_is k ps))

-- ---- marks

module _ (ms : List Bool) (p : Pat Term) (k : ℕ) (ps : List (Pat Term)) where
  pub marked_symbol : (new : List Bool) → p ≡ Sym k ps → marked ms (patterns_variables (plain_patterns ps)) ≡ new → marked ms (pattern_variables (pattern p)) ≡ new
  marked_symbol new is e = ap (λ (q : Pattern). marked ms (pattern_variables q)) (ap pattern is ∙ symbol_is k ps) ∙ e

  pub marked_variable : (new : List Bool) → p ≡ Var k ps → marked ms (patterns_variables (plain_patterns ps)) ≡ new → marked ms (pattern_variables (pattern p)) ≡ new
  marked_variable new is e = ap (λ (q : Pattern). marked ms (pattern_variables q)) (ap pattern is ∙ variable_is k ps) ∙ e

  pub guards_symbol : (b : Bool) → p ≡ Sym k ps → b ≡ all_guards_are_marked ms (plain_patterns ps) → b ≡ guards_are_marked ms (pattern p)
  guards_symbol b is e = e ∙ ap (guards_are_marked ms) (sym (ap pattern is ∙ symbol_is k ps))

  pub guards_variable : (b : Bool) → p ≡ Var k ps → b ≡ all_guards_are_marked ms (plain_patterns ps) → b ≡ guards_are_marked ms (pattern p)
  guards_variable b is e = e ∙ ap (guards_are_marked ms) (sym (ap pattern is ∙ variable_is k ps))
