-- For callers: a term with other numbers for its symbols.
use Rattle.std.specs.Prelude.{ℕ}
use Rattle.dk_model.specs.PlainCommands.{PlainFound, of_type, value}
use Rattle.dk_model.specs.PlainTerms.{Tree, symbol, apply, bare, annotated, product}

abbrev pub with_symbols : (ℕ → ℕ) → Tree → Tree
with_symbols m (symbol k) = symbol (m k)
with_symbols m (apply f a) = apply (with_symbols m f) (with_symbols m a)
with_symbols m (bare b) = bare (with_symbols m b)
with_symbols m (annotated n b) = annotated (with_symbols m n) (with_symbols m b)
with_symbols m (product a b) = product (with_symbols m a) (with_symbols m b)
with_symbols m t = t

-- what a query finds, with other numbers
abbrev pub found_with_symbols : (ℕ → ℕ) → PlainFound → PlainFound
found_with_symbols m (of_type T) = of_type (with_symbols m T)
found_with_symbols m (value t) = value (with_symbols m t)
found_with_symbols m found = found
