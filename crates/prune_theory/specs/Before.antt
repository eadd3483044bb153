-- For proofs: a test for commands that stand behind what they mention.
use Rattle.std.specs.Prelude.{ℕ, suc, Bool, true, false, List, [], ◌∷◌, nat_lt, if◌then◌else◌}
use Rattle.dk_model.specs.PlainCommands.{PlainCommand}
use Rattle.prune_theory.specs.Mentions.{symbols_of}

-- each is below the place
abbrev pub all_below : ℕ → List ℕ → Bool
all_below n [] = true
all_below n (k ∷ ks) = if nat_lt k n then all_below n ks else false

-- the first of these commands has the place `n`, and each mentions only what stands before it
abbrev pub all_before : ℕ → List PlainCommand → Bool
all_before n [] = true
all_before n (c ∷ cs) = if all_below n (symbols_of c) then all_before (suc n) cs else false
