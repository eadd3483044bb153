-- Trusted: the symbols that a command mentions, the commands on which another rests, and some of a list (docs/pruning.md).
use Rattle.std.specs.Prelude.{ℕ, suc, ◌≡◌, ◌<◌, Option, Some, None, Bool, List, [], ◌∷◌, ◌++◌, slice_get, Contains, if◌then◌else◌}
use Rattle.dk_model.specs.PlainTerms.{Tree, symbol, apply, bare, annotated, product}
use Rattle.dk_model.specs.PlainCommands.{PlainLeft, left_symbol, left_guard, left_abstraction, left_apply, PlainScopedRule, PlainAsked, typed, alike, type_of, value_of, PlainCommand, declare, rule_command, query}
use Rattle.dk_model.specs.Shapes.{left_head}

-- each as often as it stands there, from left to right
abbrev pub term_symbols : Tree → List ℕ
term_symbols (symbol k) = k ∷ []
term_symbols (apply f a) = term_symbols f ++ term_symbols a
term_symbols (bare b) = term_symbols b
term_symbols (annotated n b) = term_symbols n ++ term_symbols b
term_symbols (product a b) = term_symbols a ++ term_symbols b
term_symbols t = []

abbrev pub maybe_symbols : Option Tree → List ℕ
maybe_symbols None = []
maybe_symbols (Some t) = term_symbols t

abbrev pub notes_symbols : List (Option Tree) → List ℕ
notes_symbols [] = []
notes_symbols (n ∷ ns) = maybe_symbols n ++ notes_symbols ns

abbrev pub left_symbols : PlainLeft → List ℕ
left_symbols (left_symbol k) = k ∷ []
left_symbols (left_guard t) = term_symbols t
left_symbols (left_abstraction l) = left_symbols l
left_symbols (left_apply f a) = left_symbols f ++ left_symbols a
left_symbols l = []

abbrev pub rule_symbols : PlainScopedRule → List ℕ
rule_symbols r = notes_symbols r.notes ++ (left_symbols r.left ++ term_symbols r.right)

abbrev pub rules_symbols : List PlainScopedRule → List ℕ
rules_symbols [] = []
rules_symbols (r ∷ rs) = rule_symbols r ++ rules_symbols rs

abbrev pub asked_symbols : PlainAsked → List ℕ
asked_symbols (typed t A) = term_symbols t ++ term_symbols A
asked_symbols (alike t u) = term_symbols t ++ term_symbols u
asked_symbols (type_of t) = term_symbols t
asked_symbols (value_of t) = term_symbols t

-- the symbols that a command mentions anywhere
abbrev pub symbols_of : PlainCommand → List ℕ
symbols_of (declare s A b) = maybe_symbols A ++ maybe_symbols b
symbols_of (rule_command rs) = rules_symbols rs
symbols_of (query demand a) = asked_symbols a

-- the heads of the rules of a command
abbrev pub maybe_head : Option ℕ → List ℕ
maybe_head None = []
maybe_head (Some k) = k ∷ []

abbrev pub rules_heads : List PlainScopedRule → List ℕ
rules_heads [] = []
rules_heads (r ∷ rs) = maybe_head (left_head r.left) ++ rules_heads rs

abbrev pub heads_of : PlainCommand → List ℕ
heads_of (declare s A b) = []
heads_of (rule_command rs) = rules_heads rs
heads_of (query demand a) = []

-- `Rests commands k i`: command `k`, counted from 0, rests on command `i`. The least set with `k` that has, with a command,
-- the declarations of all symbols that it mentions, and, with a symbol, all rule commands before `k` that have it as a head
pub data Rests (commands : List PlainCommand) (k : ℕ) : ℕ → Type 0 where
  itself : Rests commands k k
  by_mention : {i j : ℕ} (c : PlainCommand) → Rests commands k i → slice_get commands i ≡ Some c → Contains (symbols_of c) j → Rests commands k j
  by_head : {i j : ℕ} (c : PlainCommand) → Rests commands k i → j < k → slice_get commands j ≡ Some c → Contains (heads_of c) i → Rests commands k j

-- those of a list, whose first has the place `n`, that are kept
abbrev pub picked : {A : Type 0} → (ℕ → Bool) → ℕ → List A → List A
picked keep n [] = []
picked keep n (x ∷ xs) = if keep n then x ∷ picked keep (suc n) xs else picked keep (suc n) xs
