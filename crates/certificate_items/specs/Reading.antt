-- For proofs: what the steps of reading say where nothing is read.
use Rattle.std.specs.Prelude.{ℕ, ◌≡◌, Bool, eqb, List, [], ◌∷◌}
use Rattle.certificate_lines.specs.declared.line.Line.{Line}
use Rattle.checked_steps.specs.Items.{ItemStep, ItemSteps, ItemJoins, Item}
use Rattle.certificate_items.specs.Texts.{step_count, join_count, step_lines, steps_lines, joins_lines, both_lines, join_lines, item_lines, BeginsWith}

abbrev pub is_newline : ℕ → Bool
is_newline b = eqb b 10

-- the bytes don't begin with the text of this
abbrev pub BeginsWithout : List Line → List ℕ → Type 0
BeginsWithout lines bytes = (rest : List ℕ) → ¬ BeginsWith lines bytes rest

abbrev pub HasNoLine : List ℕ → Type 0
HasNoLine bytes = (l : Line) → BeginsWithout (l ∷ []) bytes

abbrev pub HasNoStep : List ℕ → Type 0
HasNoStep bytes = (x : ItemStep) → BeginsWithout (step_lines x) bytes

-- so many of them
abbrev pub HasNoSteps : ℕ → List ℕ → Type 0
HasNoSteps n bytes = (xs : ItemSteps) → step_count xs ≡ n → BeginsWithout (steps_lines xs) bytes

abbrev pub HasNoJoins : ℕ → List ℕ → Type 0
HasNoJoins n bytes = (js : ItemJoins) → join_count js ≡ n → BeginsWithout (joins_lines js) bytes

abbrev pub HasNoJoin : List ℕ → Type 0
HasNoJoin bytes = (xs ys : ItemSteps) → BeginsWithout (join_lines xs ys) bytes

-- the steps of two terms, so many of each
abbrev pub HasNotBoth : ℕ → ℕ → List ℕ → Type 0
HasNotBoth n m bytes = (xs ys : ItemSteps) → step_count xs ≡ n → step_count ys ≡ m → BeginsWithout (both_lines xs ys) bytes

abbrev pub HasNoItem : List ℕ → Type 0
HasNoItem bytes = (x : Item) → BeginsWithout (item_lines x) bytes
