-- For proofs: what each command rests on, as the commands come one after the other.
use Rattle.std.specs.Prelude.{ℕ, suc, ◌≡◌, ◌+◌, ◌<◌, ◌≤◌, ◌&&◌, ◌⊎◌, Bool, true, false, Some, List, [], ◌∷◌, ◌++◌, All, length, get_or, slice_get, map, replicate, nat_lt, Contains, if◌then◌else◌}
use Rattle.dk_model.specs.PlainCommands.{PlainCommand}
use Rattle.prune_theory.specs.Before.{all_below}
use Rattle.prune_theory.specs.Mentions.{IsAscending, Rests, heads_of, symbols_of}
use Rattle.prune_theory.specs.Reaching.{with_commands}
use Rattle.edit_session.specs.declared.resting.Resting.{Resting}

abbrev pub behind : List PlainCommand → PlainCommand → List PlainCommand
behind commands c = commands ++ c ∷ []

-- each is at least this and above those before it
abbrev pub ascend_from : ℕ → List ℕ → Bool
ascend_from least [] = true
ascend_from least (x ∷ xs) = if nat_lt x least then false else ascend_from (x + 1) xs

-- ---- reaching

-- to what the place `k` leads, by the lists of what each place mentions and of the rules that it has
pub data Leads (mentions rules : List (List ℕ)) (k : ℕ) : ℕ → Type 0 where
  own_place : Leads mentions rules k k
  by_list : {i j : ℕ} → Leads mentions rules k i → Contains (get_or mentions i []) j → Leads mentions rules k j
  by_rule : {i j : ℕ} → Leads mentions rules k i → Contains (get_or rules i []) j → Leads mentions rules k j

-- just these places
pub record AreReached (mentions rules : List (List ℕ)) (k : ℕ) (places : List ℕ) : Type 0 where
  pub all : (i : ℕ) → Leads mentions rules k i → Contains places i
  pub only : (i : ℕ) → Contains places i → Leads mentions rules k i

-- each place with this mark is among those that are reached
abbrev pub AreMarked : ℕ → List ℕ → List ℕ → Type 0
AreMarked mark marks reached = (i : ℕ) → slice_get marks i ≡ Some mark → Contains reached i

-- none has a greater mark
abbrev pub AreUpTo : ℕ → List ℕ → Type 0
AreUpTo mark marks = All (λ m. m ≤ mark) marks

-- these places are marked and reached too
pub record AreReachedFrom (mark : ℕ) (marks reached marks' reached' places : List ℕ) : Type 0 where
  pub grown : (more : List ℕ) × (reached' ≡ reached ++ more)
  pub only : (i : ℕ) → Contains reached' i → Contains reached i ⊎ Contains places i
  pub there : AreMarked mark marks reached → (i : ℕ) → Contains places i → Contains reached' i
  pub marked : AreMarked mark marks reached → AreMarked mark marks' reached'
  pub count : length marks' ≡ length marks
  pub bound : AreUpTo mark marks → AreUpTo mark marks'

-- whatever these lead to from here, all of `ys` lead to from there
pub record LeadsOn (mark : ℕ) (marks reached xs marks0 reached0 ys : List ℕ) : Type 0 where
  pub leads : (marks' reached' : List ℕ) → AreReachedFrom mark marks reached marks' reached' xs → AreReachedFrom mark marks0 reached0 marks' reached' ys

-- all to which this place leads at once is reached
pub record IsDone (mentions rules : List (List ℕ)) (reached : List ℕ) (place : ℕ) : Type 0 where
  pub mentioned : (j : ℕ) → Contains (get_or mentions place []) j → Contains reached j
  pub ruled : (j : ℕ) → Contains (get_or rules place []) j → Contains reached j

-- so many of those that are reached were looked at
pub record IsSearched (mentions rules : List (List ℕ)) (k mark : ℕ) (marks reached : List ℕ) (seen : ℕ) : Type 0 where
  pub own : Contains reached k
  pub only : (i : ℕ) → Contains reached i → Leads mentions rules k i
  pub done : (p : ℕ) → p < seen → p < length reached → IsDone mentions rules reached (get_or reached p 0)
  pub marked : AreMarked mark marks reached
  pub bound : AreUpTo mark marks

-- ---- commands

-- the heads of each command, the first of which has the place `n`, stand before it
abbrev pub heads_before : ℕ → List PlainCommand → Bool
heads_before n [] = true
heads_before n (c ∷ cs) = all_below n (heads_of c) && heads_before (suc n) cs

-- what is known of these commands
pub record IsResting (commands : List PlainCommand) (r : Resting) : Type 0 where
  pub mentions : r.mentions.items ≡ map symbols_of commands
  pub rules : r.rules.items ≡ with_commands 0 commands (replicate (length commands) [])
  pub heads : heads_before 0 commands ≡ true
  pub count : length r.marks.items ≡ length commands
  pub bound : AreUpTo (length commands) r.marks.items

-- the places on which the command behind these rests
pub record RestOn (commands : List PlainCommand) (c : PlainCommand) (places : List ℕ) : Type 0 where
  pub ascending : IsAscending places
  pub all : (i : ℕ) → Rests (behind commands c) (length commands) i → Contains places i
  pub only : (i : ℕ) → Contains places i → Rests (behind commands c) (length commands) i
