-- For proofs: what a comparison has still to do: a stack of steps, the next one on top.
use Rattle.std.specs.Prelude.{ℕ, ◌≡◌, ◌<◌, ◌≤◌, ◌+◌, Option, Some, None, Bool, false, Result, Ok, Err, List, [], ◌∷◌, ◌++◌, length, if◌then◌else◌}
use Rattle.dk_model.specs.Trees.{Tree}
use Rattle.dk_model.specs.Signatures.{PlainSignature}
use Rattle.dk_model.specs.Units.{Units}
use Rattle.dk_model.specs.Spines.{pairs_of}
use Rattle.dk_model.specs.Parts.{each_same}
use Rattle.dk_model.specs.Evaluation.{comparison_of}
use Rattle.dk_model.specs.declared.stop.Stop.{Stop}
use Rattle.dk_model.specs.declared.stop.Stop.TheVariants.{Ended, NoMemory}
use Rattle.shared_term.specs.Pools.{Node, term}
use Rattle.conversion.specs.declared.compare.Step.{Step}
use Rattle.conversion.specs.declared.compare.Step.TheVariants.{Pair, Conclude}
use Rattle.conversion.specs.declared.compare.HeadPairs.{HeadPairs}
use Rattle.conversion.specs.declared.compare.HeadPairs.TheVariants.{Differ, Alike, Bodies, Products}
use Rattle.conversion.specs.declared.compare.Look.{Look}
use Rattle.conversion.specs.declared.compare.Look.TheVariants.{At, Behind}
use Rattle.conversion.specs.declared.compare.Met.{Met}
use Rattle.conversion.specs.declared.compare.Met.TheVariants.{AtOnce, Opens}
use Rattle.conversion.specs.declared.compare.OpenPair.{OpenPair}
use Rattle.conversion.specs.declared.compare.Compared.{Compared}
use Rattle.conversion.specs.declared.compare.Compared.TheVariants.{Told, Asks}
use Rattle.shared_term.specs.declared.id.TermId.{TermId}

-- the pairs that are still to be compared, from the top of the stack
abbrev pub pending : List Node → List Step → List (Tree × Tree)
pending ns [] = []
pending ns (Pair t u ∷ steps) = pending ns steps ++ ((term ns t, term ns u) ∷ [])
pending ns (Conclude t u before ∷ steps) = pending ns steps

-- each step is about terms of a pool of so many nodes
abbrev pub AreSteps : ℕ → List Step → Type 0
AreSteps n [] = Unit {0}
AreSteps n (Pair t u ∷ steps) = (t.0 < n) × (u.0 < n) × AreSteps n steps
AreSteps n (Conclude t u before ∷ steps) = (t.0 < n) × (u.0 < n) × AreSteps n steps

-- the comparison of these pairs, in order
abbrev pub comparisons : PlainSignature → List (Tree × Tree) → ℕ → Units Bool
comparisons S ps n = each_same (comparison_of S) ps n

-- the comparison of a pair and of those behind it
abbrev pub pair_compared : PlainSignature → Tree → Tree → ℕ → List (Tree × Tree) → Units Bool
pair_compared S t u n rest = comparisons S ((t, u) ∷ rest) n

-- the comparison of the pairs behind some that were alike or not
abbrev pub rest_compared : PlainSignature → Bool → ℕ → List (Tree × Tree) → Units Bool
rest_compared S alike n rest = if alike then comparisons S rest n else Some (false, n)

-- the comparison of two weak head forms and of the pairs behind them
abbrev pub parts_compared : PlainSignature → Tree → Tree → ℕ → List (Tree × Tree) → Units Bool
parts_compared S t u n rest = elim (pairs_of t u) [ None ↦ Some (false, n) | Some ps ↦ comparisons S (ps ++ rest) n ]

-- each comparison that is still to be concluded comes to what is made of the pairs above it, and no more units are left than it had
abbrev pub AreOpen : PlainSignature → List Node → (List (Tree × Tree) → Units Bool) → ℕ → List Step → Type 0
AreOpen S ns made left [] = Unit {0}
AreOpen S ns made left (Pair t u ∷ steps) = AreOpen S ns made left steps
AreOpen S ns made left (Conclude t u before ∷ steps) =
    (comparison_of S before (term ns t) (term ns u) ≡ made (pending ns steps)) × (left ≤ before) × AreOpen S ns made left steps

-- a comparison `due` that is under way, with so many units left: it comes to what is made of the pairs that are pending
pub record IsUnderWay (S : PlainSignature) (ns : List Node) (due : Units Bool) (made : List (Tree × Tree) → Units Bool) (left : ℕ) (steps : List Step) : Type 0 where
  pub within : AreSteps (length ns) steps
  pub comes : due ≡ made (pending ns steps)
  pub opened : AreOpen S ns made left steps

-- the parts of two weak head forms are on the stack where their heads are alike, whatever was under way
abbrev pub TakesApart : List Node → Tree → Tree → List Step → Bool → List Step → Type 0
TakesApart ns t u old alike new = (S : PlainSignature) (due : Units Bool) (left : ℕ)
    → IsUnderWay S ns due (parts_compared S t u left) left old → IsUnderWay S ns due (rest_compared S alike left) left new

-- the pairs of parts of two heads; None where the heads differ
abbrev pub head_pairs : List Node → HeadPairs → Option (List (Tree × Tree))
head_pairs ns Differ = None
head_pairs ns Alike = Some []
head_pairs ns (Bodies b c) = Some ((term ns b, term ns c) ∷ [])
head_pairs ns (Products a b c d) = Some ((term ns a, term ns c) ∷ (term ns b, term ns d) ∷ [])

abbrev pub AreHeads : ℕ → HeadPairs → Type 0
AreHeads n Differ = Unit {0}
AreHeads n Alike = Unit {0}
AreHeads n (Bodies b c) = (b.0 < n) × (c.0 < n)
AreHeads n (Products a b c d) = (a.0 < n) × (b.0 < n) × (c.0 < n) × (d.0 < n)

-- what a comparison does next is about terms of a pool of so many nodes
abbrev pub IsLook : ℕ → Look → Type 0
IsLook n (At t u) = (t.0 < n) × (u.0 < n)
IsLook n (Behind alike) = Unit {0}

-- what is made of the pairs behind it
abbrev pub look_made : PlainSignature → List Node → Look → ℕ → List (Tree × Tree) → Units Bool
look_made S ns (At t u) n rest = pair_compared S (term ns t) (term ns u) n rest
look_made S ns (Behind alike) n rest = rest_compared S alike n rest

-- the comparison of all that is still to be done
abbrev pub look_due : PlainSignature → List Node → Look → ℕ → List Step → Units Bool
look_due S ns look n steps = look_made S ns look n (pending ns steps)

-- whether it may take no unit
abbrev pub look_rank : Look → ℕ
look_rank (At t u) = 0
look_rank (Behind alike) = 1

-- a pair is told at once, whatever is behind it; or its weak head forms are to be compared, with a unit less
abbrev pub Meets : PlainSignature → List Node → TermId → TermId → ℕ → Result Met Stop → ℕ → Type 0
Meets S ns t u n (Ok (AtOnce alike)) left = (rest : List (Tree × Tree)) → pair_compared S (term ns t) (term ns u) n rest ≡ rest_compared S alike left rest
Meets S ns t u n (Ok Opens) left = (left + 1 ≡ n) × (term ns t ≡ term ns u → ⊥)
Meets S ns t u n (Err Ended) left = ((rest : List (Tree × Tree)) → pair_compared S (term ns t) (term ns u) n rest ≡ None) × (left ≡ 0)
Meets S ns t u n (Err NoMemory) left = Unit {0}

-- the comparison `due` is under way, and the weak head forms of this pair are to be compared next
pub record IsOpenPair (S : PlainSignature) (ns : List Node) (due : Units Bool) (steps : List Step) (p : OpenPair) : Type 0 where
  pub way : IsUnderWay S ns due (pair_compared S (term ns p.first) (term ns p.second) p.before) p.before steps
  pub first : p.first.0 < length ns
  pub second : p.second.0 < length ns
  pub differ : term ns p.first ≡ term ns p.second → ⊥
  pub some : 0 < p.before

-- the comparison `due` is told, or waits
abbrev pub GivesCompared : PlainSignature → Units Bool → List Node → Result Compared Stop → List Step → ℕ → Type 0
GivesCompared S due ns (Ok (Told alike)) steps left = due ≡ Some (alike, left)
GivesCompared S due ns (Ok (Asks p)) steps left = IsOpenPair S ns due steps p × (left + 1 ≡ p.before)
GivesCompared S due ns (Err Ended) steps left = (due ≡ None) × (left ≡ 0)
GivesCompared S due ns (Err NoMemory) steps left = Unit {0}

-- a unit was taken where it waits
abbrev pub asks_rank : Compared → ℕ
asks_rank (Told alike) = 0
asks_rank (Asks p) = 1
