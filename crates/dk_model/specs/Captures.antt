-- Trusted: what a rule variable captures of a part, and a term under the captures (docs/evaluation.md).
use Rattle.std.specs.Prelude.{ℕ, ◌+◌, ◌-◌, Option, Some, None, Bool, false, ◌&&◌, ◌||◌, not, List, [], ◌∷◌, slice_get, eqb, nat_lt, if◌then◌else◌, length}
use Rattle.dk_model.specs.PlainTerms.{Tree, variable, rule_variable, apply, bare, annotated, product}
use Rattle.dk_model.specs.Substitution.{shift}

-- whether the number is one of these
abbrev pub is_in : ℕ → List ℕ → Bool
is_in k [] = false
is_in k (x ∷ xs) = eqb k x || is_in k xs

-- whether the term, under `under` binders of its own, mentions one of the `depth` variables bound by the pattern that isn't among these
abbrev pub mentions_others : ℕ → ℕ → List ℕ → Tree → Bool
mentions_others under depth xs (variable k) = (not (nat_lt k under) && nat_lt (k - under) depth) && not (is_in (k - under) xs)
mentions_others under depth xs (apply f a) = mentions_others under depth xs f || mentions_others under depth xs a
mentions_others under depth xs (bare b) = mentions_others (under + 1) depth xs b
mentions_others under depth xs (annotated n b) = mentions_others under depth xs n || mentions_others (under + 1) depth xs b
mentions_others under depth xs (product a b) = mentions_others under depth xs a || mentions_others (under + 1) depth xs b
mentions_others under depth xs t = false

-- the number of a variable under a binder for each of these, of which the last is the innermost
abbrev pub index_of : ℕ → List ℕ → ℕ
index_of k [] = 0
index_of k (x ∷ xs) = if eqb k x then length xs else index_of k xs

-- the term, under `under` binders of its own, over a binder for each of these in place of the `depth` variables bound by the pattern
abbrev pub renamed : ℕ → ℕ → List ℕ → Tree → Tree
renamed under depth xs (variable k) =
    if nat_lt k under then variable k else (if nat_lt (k - under) depth then variable (index_of (k - under) xs + under) else variable (((k - depth) + length xs)))
renamed under depth xs (apply f a) = apply (renamed under depth xs f) (renamed under depth xs a)
renamed under depth xs (bare b) = bare (renamed (under + 1) depth xs b)
renamed under depth xs (annotated n b) = annotated (renamed under depth xs n) (renamed (under + 1) depth xs b)
renamed under depth xs (product a b) = product (renamed under depth xs a) (renamed (under + 1) depth xs b)
renamed under depth xs t = t

-- the term under a binder for each of these
abbrev pub abstracted : List ℕ → Tree → Tree
abstracted [] t = t
abstracted (x ∷ xs) t = bare (abstracted xs t)

-- the part abstracted over the arguments of the rule variable, the first argument outermost
abbrev pub captured : ℕ → List ℕ → Tree → Tree
captured depth xs part = abstracted xs (renamed 0 depth xs part)

-- what each rule variable has captured so far
abbrev pub Captures : Type 0
Captures = List (Option Tree)

-- what a rule variable has captured, where it has
abbrev pub capture_at : Captures → ℕ → Option Tree
capture_at captures k = elim (slice_get captures k) [ None ↦ None | Some capture ↦ capture ]

-- a term, under `under` binders of its own, with each rule variable replaced by its capture
abbrev pub filled : Captures → ℕ → Tree → Tree
filled captures under (rule_variable k) = elim (capture_at captures k) [ None ↦ rule_variable k | Some t ↦ shift 0 under t ]
filled captures under (apply f a) = apply (filled captures under f) (filled captures under a)
filled captures under (bare b) = bare (filled captures (under + 1) b)
filled captures under (annotated n b) = annotated (filled captures under n) (filled captures (under + 1) b)
filled captures under (product a b) = product (filled captures under a) (filled captures (under + 1) b)
filled captures under t = t
