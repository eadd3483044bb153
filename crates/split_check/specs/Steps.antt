-- For proofs: what is due of the steps of a typing, and what a typing comes to by its steps.
use Rattle.std.specs.Prelude.{ℕ, ◌+◌, ◌-◌, ◌≡◌, ◌≤◌, List, ◌++◌, map}
use Rattle.dk_model.specs.Trees.{Tree}
use Rattle.dk_model.specs.Signatures.{PlainSignature}
use Rattle.dk_model.specs.Typing.{Judged, answer, refused, ended, checked}
use Rattle.dk_model.specs.declared.stop.TypeFault.{TypeFault}
use Rattle.dk_model.specs.declared.stop.TypeFault.TheVariants as faults
use Rattle.shared_term.specs.Storage.{stored_term}
use Rattle.shared_term.specs.declared.stored.Stored.{Stored}
use Rattle.infer_check.specs.Contexts.{rule_types, bound_types}
use Rattle.infer_check.specs.declared.context.Context.{Context}
use Rattle.split_parts.specs.Parts.{part, combined_behind, ended_with}
use Rattle.split_parts.specs.declared.part.PartOut.TheVariants.{Fine, Memory, Refused}
use Rattle.split_parts.specs.declared.part.PartResult.{PartResult}
use Rattle.split_check.specs.declared.step.Step.{Step}
use Rattle.split_check.specs.declared.step.Step.TheVariants.{Done, Check}

-- the types of the rule variables, and of the bound ones, the innermost first
abbrev pub sent_rule_types : Context Stored → List Tree
sent_rule_types c = rule_types (λ (u : Unit {0}) t. stored_term t) tt c

abbrev pub sent_bound_types : Context Stored → List Tree
sent_bound_types c = bound_types (λ (u : Unit {0}) t. stored_term t) tt c

-- what a step comes to with so many units
abbrev pub step_due : PlainSignature → ℕ → Step → PartResult
step_due S budget (Done r) = r
step_due S budget (Check p) = part budget (checked S (sent_rule_types p.context) (sent_bound_types p.context) (stored_term p.argument) (stored_term p.domain) budget)

abbrev pub steps_due : PlainSignature → ℕ → List Step → List PartResult
steps_due S budget steps = map (step_due S budget) steps

-- what an answer, and what a fault came to, with so many units left of the budget
abbrev pub fine_with : ℕ → ℕ → PartResult
fine_with budget left = record { out = Fine; units = budget - left }

abbrev pub fault_with : ℕ → TypeFault → ℕ → PartResult
fault_with budget (faults.Refused c) left = record { out = Refused c; units = budget - left }
fault_with budget faults.Ended left = ended_with budget
fault_with budget faults.NoMemory left = record { out = Memory; units = 0 }

-- what a typing and what is behind its answer come to, with T units for all
abbrev pub and_then : {A : Type 0} → ℕ → Judged A → (A → ℕ → PartResult) → PartResult
and_then T (answer a n) k = k a n
and_then T (refused c n) k = record { out = Refused c; units = T - n }
and_then T ended k = ended_with T

-- F with at most `budget` units is these results, each come to with the whole budget, and then G
abbrev pub Onward : {A : Type 0} → (ℕ → Judged A) → ℕ → List PartResult → (ℕ → Judged A) → Type 0
Onward {A} F budget ds G = (k : A → ℕ → PartResult) (n s T : ℕ) (rest : List PartResult) → n ≤ budget → n + s ≡ T
    → ((i u : ℕ) → i ≤ n → i + u ≡ T → combined_behind u rest T ≡ and_then T (G i) k) → combined_behind s (ds ++ rest) T ≡ and_then T (F n) k

-- F is these results, and nothing is behind them
abbrev pub Stops : {A : Type 0} → (ℕ → Judged A) → ℕ → List PartResult → Type 0
Stops {A} F budget ds = (k : A → ℕ → PartResult) (n s T : ℕ) (rest : List PartResult) → n ≤ budget → n + s ≡ T → combined_behind s (ds ++ rest) T ≡ and_then T (F n) k
