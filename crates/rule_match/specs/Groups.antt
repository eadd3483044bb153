-- For proofs: the rows of a node by head: for some heads the rows that are kept for each.
use Rattle.std.specs.Prelude.{ℕ, ◌≡◌, Bool, List, [], ◌∷◌, map}
use Rattle.dk_model.specs.Signatures.{PlainRule}
use Rattle.dk_model.specs.Matrix.{Row}
use Rattle.rule_match.specs.declared.key.Key.{Key}
use Rattle.rule_match.specs.declared.group.Group.{Group}
use Rattle.rule_match.specs.Keys.{comes_before, rows_by}
use Rattle.rule_match.specs.Rows.{row}

-- for each of these heads the same rows are kept
abbrev pub KeepSame : List Key → ℕ → List Row → List Row → Type 0
KeepSame [] column some all = Unit {0}
KeepSame (k ∷ ks) column some all = (rows_by k column some ≡ rows_by k column all) × KeepSame ks column some all

-- each of them stands on this side of the pivot
abbrev pub AreBeside : Key → Bool → List Key → Type 0
AreBeside pivot before [] = Unit {0}
AreBeside pivot before (k ∷ ks) = (comes_before k pivot ≡ before) × AreBeside pivot before ks

-- each group has the rows that are kept for its head
abbrev pub AreGroups : List PlainRule → ℕ → List Row → List Group → Type 0
AreGroups rules column all [] = Unit {0}
AreGroups rules column all (g ∷ gs) = (map (row rules) g.rows.items ≡ rows_by g.key column all) × AreGroups rules column all gs
