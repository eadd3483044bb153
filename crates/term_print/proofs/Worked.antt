-- Worked prints, by computation.
use Rattle.std.proofs.Common.{[], ◌∷◌, ℕ, ◌≡◌, Some, None, get_or, refl, arith}
use Rattle.std.specs.Prelude.{codes}
use Rattle.std.specs.Fmt.{decimal}
use Rattle.std.proofs.lemmas.Fmt.{decimal_digit}
use Rattle.dk_model.specs.PlainTerms.{Tree, star, symbol, variable, apply, bare, product}
use Rattle.scope_terms.specs.Scopes.{Spelling}
use Rattle.term_print.specs.Named.{Word, binder_name}
use Rattle.term_print.specs.Printing.{printed}

-- 0 `nat`, 1 `z`, 2 `s`, 3 `eq`, 4 `x0` of this module, 5 `m.x1`, 6 `x1'`
abbrev plain : Spelling → Word
plain s = record { module_name = None; spelling = s }

abbrev words : ℕ → Word
words k = get_or (plain (codes "nat") ∷ plain (codes "z") ∷ plain (codes "s") ∷ plain (codes "eq") ∷ plain (codes "x0") ∷ record { module_name = Some (codes "m"); spelling = codes "x1" } ∷ []) k (plain (codes "x1'"))

abbrev eq : Tree → Tree → Tree
eq a b = apply (apply (symbol 3) a) b

zero_digit : decimal 0 ≡ codes "0"
zero_digit = decimal_digit 0 (omega arith)

one_digit : decimal 1 ≡ codes "1"
one_digit = decimal_digit 1 (omega arith)

two_digit : decimal 2 ≡ codes "2"
two_digit = decimal_digit 2 (omega arith)

value_printed : printed words (apply (symbol 2) (apply (symbol 2) (symbol 1))) ≡ codes "s (s z)"
value_printed = refl

type_printed : printed words (product (symbol 0) (eq (variable 0) (variable 0))) ≡ codes "x0 : nat -> eq x0 x0"
unfolding binder_name
type_printed = rw zero_digit refl

-- an arrow counts; a head, a domain and an argument stand in brackets; a codomain and a body don't
brackets_printed : printed words (product (product (symbol 0) (symbol 0)) (bare (apply (bare (variable 0)) (product (eq (variable 0) (variable 0)) star)))) ≡ codes "(nat -> nat) -> x1 => (x2 => x2) (eq x1 x1 -> Type)"
unfolding binder_name
brackets_printed = rw (one_digit, two_digit) refl

-- as few quotes as make it no symbol's spelling, at each depth; the spelling of another module's symbol counts
quotes_printed : printed words (bare (bare (bare (eq (apply (symbol 4) (variable 2)) (apply (apply (symbol 5) (symbol 6)) (variable 1)))))) ≡ codes "x0' => x1'' => x2 => eq (x0 x0') (m.x1 x1' x1'')"
unfolding binder_name
quotes_printed = rw (zero_digit, one_digit, two_digit) refl
