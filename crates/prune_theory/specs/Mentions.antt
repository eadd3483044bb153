-- For callers: sets of commands that go with what rests on what, and commands that mention only what stands before them.
use Rattle.std.specs.Prelude.{ℕ, ◌≡◌, ◌<◌, Some, Bool, true, List, [], ◌∷◌, slice_get, Contains}
use Rattle.dk_model.specs.PlainCommands.{PlainCommand}
pub use Rattle.prune_theory.specs.Resting.{term_symbols, maybe_symbols, notes_symbols, left_symbols, rule_symbols, rules_symbols, asked_symbols, symbols_of, maybe_head, rules_heads, heads_of, Rests, itself, by_mention, by_head}

-- a set of commands before `k` that goes with each of its members along what that rests on
pub record IsClosed (commands : List PlainCommand) (k : ℕ) (keep : ℕ → Bool) : Type 0 where
  pub mentions : (i j : ℕ) (c : PlainCommand) → keep i ≡ true → slice_get commands i ≡ Some c → Contains (symbols_of c) j → keep j ≡ true
  pub rules : (i j : ℕ) (c : PlainCommand) → keep i ≡ true → j < k → slice_get commands j ≡ Some c → Contains (heads_of c) i → keep j ≡ true

-- each command mentions only what stands before it
abbrev pub MentionBefore : List PlainCommand → Type 0
MentionBefore commands = (i j : ℕ) (c : PlainCommand) → slice_get commands i ≡ Some c → Contains (symbols_of c) j → j < i

-- each is below all later ones
abbrev pub IsAscending : List ℕ → Type 0
IsAscending [] = Unit {0}
IsAscending (x ∷ xs) = ((y : ℕ) → Contains xs y → x < y) × IsAscending xs
