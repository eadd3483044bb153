-- Trusted: terms as trees, letter by letter: what a `Term` is without its pointers.
use Rattle.std.specs.Prelude.{ℕ}

pub data Tree : Type 0 where
  star : Tree
  kind : Tree
  symbol : ℕ → Tree
  variable : ℕ → Tree
  rule_variable : ℕ → Tree
  apply : Tree → Tree → Tree
  bare : Tree → Tree
  annotated : Tree → Tree → Tree
  product : Tree → Tree → Tree
