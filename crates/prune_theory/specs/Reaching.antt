-- For proofs: the places that are reached so far, those that wait to be looked at, and the rule commands by their heads.
use Rattle.std.specs.Prelude.{ℕ, zero, suc, ◌≡◌, ◌+◌, ◌<◌, ◌≤◌, ◌⊎◌, Bool, true, false, Some, List, [], ◌∷◌, ◌++◌, length, get_or, slice_get, Contains, if◌then◌else◌}
use Rattle.dk_model.specs.PlainCommands.{PlainCommand}
use Rattle.prune_theory.specs.Mentions.{symbols_of, heads_of, Rests}

-- the place is marked
abbrev pub IsMarked : List Bool → ℕ → Type 0
IsMarked marks i = slice_get marks i ≡ Some true

-- how many places aren't
abbrev pub unmarked : List Bool → ℕ
unmarked [] = 0
unmarked (true ∷ bs) = unmarked bs
unmarked (false ∷ bs) = suc (unmarked bs)

-- what falls at each turn: a place is marked at most once, and waits once
abbrev pub weight : List Bool → List ℕ → ℕ
weight marks waiting = unmarked marks + unmarked marks + length waiting

-- the marked places, ascending, the first of all having number `n`
abbrev pub places_from : ℕ → List Bool → List ℕ
places_from n [] = []
places_from n (b ∷ bs) = if b then n ∷ places_from (suc n) bs else places_from (suc n) bs

-- these places are marked too, and wait where they weren't
pub record Reaches (m : List Bool) (w : List ℕ) (m' : List Bool) (w' : List ℕ) (xs : List ℕ) : Type 0 where
  pub count : length m' ≡ length m
  pub kept : (i : ℕ) → IsMarked m i → IsMarked m' i
  pub reached : (i : ℕ) → Contains xs i → IsMarked m' i
  pub only : (i : ℕ) → IsMarked m' i → IsMarked m i ⊎ Contains xs i
  pub waits : (i : ℕ) → Contains w i → Contains w' i
  pub waiting : (i : ℕ) → Contains w' i → Contains w i ⊎ Contains xs i
  pub new : (i : ℕ) → IsMarked m' i → IsMarked m i ⊎ Contains w' i
  pub lighter : weight m' w' ≤ weight m w

-- each is below the number
pub record AllBelow (n : ℕ) (xs : List ℕ) : Type 0 where
  pub each : (i : ℕ) → Contains xs i → i < n

-- whatever these lead to from here, all of `ys` lead to from there
pub record Leads (m : List Bool) (w : List ℕ) (xs : List ℕ) (m0 : List Bool) (w0 : List ℕ) (ys : List ℕ) : Type 0 where
  pub leads : (m' : List Bool) (w' : List ℕ) → Reaches m w m' w' xs → Reaches m0 w0 m' w' ys

-- ---- rule commands by their heads

-- the place `p` added to the list of the symbol `h`, if there is one
abbrev pub with_edge : List (List ℕ) → ℕ → ℕ → List (List ℕ)
with_edge [] h p = []
with_edge (e ∷ es) zero p = (e ++ p ∷ []) ∷ es
with_edge (e ∷ es) (suc h) p = e ∷ with_edge es h p

abbrev pub with_edges : List (List ℕ) → List ℕ → ℕ → List (List ℕ)
with_edges index [] p = index
with_edges index (h ∷ hs) p = with_edges (with_edge index h p) hs p

-- the places of these commands, the first of which has number `n`, added to the lists of their heads
abbrev pub with_commands : ℕ → List PlainCommand → List (List ℕ) → List (List ℕ)
with_commands n [] index = index
with_commands n (c ∷ cs) index = with_commands (suc n) cs (with_edges index (heads_of c) n)

-- command `j` before `k` has a rule with the head `i`
pub record HasRule (commands : List PlainCommand) (k i j : ℕ) : Type 0 where
  pub command : PlainCommand
  pub before : j < k
  pub is : slice_get commands j ≡ Some command
  pub heads : Contains (heads_of command) i

-- the list of each symbol has just those
pub record IsIndex (commands : List PlainCommand) (k : ℕ) (index : List (List ℕ)) : Type 0 where
  pub count : length index ≡ k + 1
  pub rules : (i j : ℕ) → Contains (get_or index i []) j → HasRule commands k i j
  pub all : (i j : ℕ) → i < k + 1 → HasRule commands k i j → Contains (get_or index i []) j

-- ---- under way

-- what the command at this place asks for is marked
pub record IsDone (commands : List PlainCommand) (index : List (List ℕ)) (m : List Bool) (i : ℕ) : Type 0 where
  pub mentions : (c : PlainCommand) (j : ℕ) → slice_get commands i ≡ Some c → Contains (symbols_of c) j → IsMarked m j
  pub rules : (j : ℕ) → Contains (get_or index i []) j → IsMarked m j

-- command `k` is marked, it rests on all that is, and each of these waits or is done
pub record IsUnderWay (commands : List PlainCommand) (k : ℕ) (index : List (List ℕ)) (m : List Bool) (w : List ℕ) : Type 0 where
  pub count : length m ≡ k + 1
  pub last : IsMarked m k
  pub sound : (i : ℕ) → IsMarked m i → Rests commands k i
  pub waiting : (i : ℕ) → Contains w i → IsMarked m i
  pub closed : (i : ℕ) → IsMarked m i → Contains w i ⊎ IsDone commands index m i
