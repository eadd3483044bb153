-- The size of a pattern, by which a walk ends, and patterns as the program holds them.
use Rattle.std.proofs.Common.{List, ◌∷◌, ◌≡◌, ◌∙◌, ◌+◌, ◌≤◌, ℕ, map, ap, refl, sym as flip, arith}
use Rattle.dk_model.specs.Signatures.{Pattern, Patterns, no_patterns, more_patterns, rule_variable_pattern, wildcard_pattern, guard_pattern, symbol_pattern, variable_pattern, abstraction_pattern, pattern, patterns}
use Rattle.dk_model.specs.RuleTyping.{patterns_of}
use Rattle.dk_model.specs.declared.signature.Pat.{Pat, Row_of-Pat, end_of-Pat, more_of-Pat, items-the_row-Pat}
use Rattle.dk_model.specs.declared.signature.Pat.TheVariants.{Sym, Var}
use Rattle.dk_model.specs.declared.signature.Pat.TheBlock.{hidden-the_row-Pat-0, items_hidden-the_row-Pat-0}
use Rattle.dk_model.specs.declared.term.Term.{Term}

abbrev mutual
  pub pattern_size : Pattern → ℕ
  pattern_size (rule_variable_pattern k xs) = 1
  pattern_size wildcard_pattern = 1
  pattern_size (guard_pattern t) = 1
  pattern_size (symbol_pattern k ps) = patterns_size ps + 1
  pattern_size (variable_pattern k ps) = patterns_size ps + 1
  pattern_size (abstraction_pattern p) = pattern_size p + 1

  pub patterns_size : Patterns → ℕ
  patterns_size no_patterns = 0
  patterns_size (more_patterns p ps) = pattern_size p + patterns_size ps

abbrev pub plain_patterns : List (Pat Term) → Patterns
plain_patterns ps = patterns_of (map pattern ps)

row_items : (n : _) (r : Row_of-Pat Term n) → patterns r ≡ plain_patterns (items-the_row-Pat Term n r)
row_items n end_of-Pat = refl
row_items n (more_of-Pat p r) = ap (λ (qs : Patterns). more_patterns (pattern p) qs) (row_items _ r)

row_is : (ps : List (Pat Term)) → patterns (hidden-the_row-Pat-0 Term ps) ≡ plain_patterns ps
row_is ps = row_items _ (hidden-the_row-Pat-0 Term ps) ∙ ap plain_patterns (items_hidden-the_row-Pat-0 Term ps)

pub symbol_is : (k : ℕ) (p : Pat Term) (ps slice : List (Pat Term)) → p ≡ Sym k ps → slice ≡ ps → pattern p ≡ symbol_pattern k (plain_patterns slice)
symbol_is k p ps slice e f = ap pattern e ∙ ap (symbol_pattern k) (row_is ps ∙ ap plain_patterns (flip f))

pub variable_is : (k : ℕ) (p : Pat Term) (ps slice : List (Pat Term)) → p ≡ Var k ps → slice ≡ ps → pattern p ≡ variable_pattern k (plain_patterns slice)
variable_is k p ps slice e f = ap pattern e ∙ ap (variable_pattern k) (row_is ps ∙ ap plain_patterns (flip f))

pub first_smaller : (p : Pat Term) (rest others : List (Pat Term)) (n : ℕ) → rest ≡ p ∷ others → patterns_size (plain_patterns rest) ≤ n → pattern_size (pattern p) ≤ n
first_smaller p rest others n e h = let q : patterns_size (plain_patterns rest) ≡ pattern_size (pattern p) + patterns_size (plain_patterns others) = ap (λ qs. patterns_size (plain_patterns qs)) e in
    omega (arith, q, h)

pub others_smaller : (p : Pat Term) (rest others : List (Pat Term)) (n : ℕ) → rest ≡ p ∷ others → patterns_size (plain_patterns rest) ≤ n → patterns_size (plain_patterns others) ≤ n
others_smaller p rest others n e h = let q : patterns_size (plain_patterns rest) ≡ pattern_size (pattern p) + patterns_size (plain_patterns others) = ap (λ qs. patterns_size (plain_patterns qs)) e in
    omega (arith, q, h)
