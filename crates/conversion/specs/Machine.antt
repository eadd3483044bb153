-- For proofs: how the evaluating code holds a term of a pool: its head beside a stack of arguments.
use Rattle.std.specs.Prelude.{Bool, true, false}
use Rattle.dk_model.specs.Trees.{Tree, symbol, apply, bare}
use Rattle.dk_model.specs.Matrix.{Column}
pub use Rattle.shared_term.specs.Winding.{behind, AreWithin, wound, is_application}
pub use Rattle.rule_match.specs.Columns.{from_top}

-- a column of an argument, where no pattern binds a variable yet
abbrev pub unbound : Tree → Column
unbound a = record { depth = 0; term = a }

-- whether a head takes no turn whatever its arguments are
abbrev pub is_stuck : Tree → Bool
is_stuck (apply f a) = false
is_stuck (bare b) = false
is_stuck (symbol k) = false
is_stuck t = true
