-- For callers: which variables a tree mentions.
use Rattle.std.specs.Prelude.{ℕ, ◌+◌, ◌<◌}
use Rattle.dk_model.specs.PlainTerms.{Tree, star, kind, symbol, variable, rule_variable, apply, bare, annotated, product}

-- each variable that is not bound in the tree lies below the number
abbrev pub IsClosedAt : ℕ → Tree → Type 0
IsClosedAt d star = Unit {0}
IsClosedAt d kind = Unit {0}
IsClosedAt d (symbol k) = Unit {0}
IsClosedAt d (variable k) = k < d
IsClosedAt d (rule_variable k) = Unit {0}
IsClosedAt d (apply f a) = IsClosedAt d f × IsClosedAt d a
IsClosedAt d (bare b) = IsClosedAt (d + 1) b
IsClosedAt d (annotated n b) = IsClosedAt d n × IsClosedAt (d + 1) b
IsClosedAt d (product a b) = IsClosedAt d a × IsClosedAt (d + 1) b
