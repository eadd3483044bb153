-- For proofs: equations that are pending, and what a step on one gives.
use Rattle.std.specs.Prelude.{ℕ, ◌≡◌, ◌&&◌, Bool, Option, Some, None, Result, Ok, Err, List, [], ◌∷◌, ◌++◌, Vec}
use Rattle.std.specs.declared.alloc.Global.{Global}
use Rattle.dk_model.specs.Trees.{Tree}
use Rattle.dk_model.specs.Signatures.{PlainSignature}
use Rattle.dk_model.specs.Spines.{head}
use Rattle.dk_model.specs.Bindings.{Bindings as PlainBindings, under}
use Rattle.dk_model.specs.Evaluation.{whnf_of, comparison_of}
use Rattle.dk_model.specs.Typing.{Judged, answer, after}
use Rattle.dk_model.specs.Solving.{Solver, is_rigid_head, rigid_parts, Equation as PlainEquation, clash, heads_apart, parts_or, each_solved, equation_solved, solved}
use Rattle.dk_model.specs.declared.code.Code.TheVariants.{E34}
use Rattle.dk_model.specs.declared.stop.TypeFault.{TypeFault}
use Rattle.dk_model.specs.declared.stop.TypeFault.TheVariants.{Refused, Ended, NoMemory}
use Rattle.infer_check.specs.Given.{Fails}
use Rattle.rule_check.specs.declared.equation.Equation.{Equation}
use Rattle.rule_check.specs.declared.found.Bindings.{Bindings}
use Rattle.rule_check.specs.Levels.{IsFree}
use Rattle.rule_check.specs.Founds.{terms_of, OwnsBindings}

module _ {R T : Type 0} (denotes : R → T → Tree) (r : R) where
  abbrev pub pair_of : Equation T → Tree × Tree
  pair_of e = (denotes r e.one, denotes r e.other)

  -- the pairs of equations that are pending, of which the last one is due first
  abbrev pub pending : List (Equation T) → List (Tree × Tree)
  pending [] = []
  pending (e ∷ es) = pending es ++ pair_of e ∷ []

module _ {R T : Type 0} (owns : R → T → Type 0) (r : R) where
  pub record OwnsEquation (e : Equation T) : Type 0 where
    pub one : owns r e.one
    pub other : owns r e.other

  abbrev pub OwnsEquations : List (Equation T) → Type 0
  OwnsEquations [] = Unit {0}
  OwnsEquations (e ∷ es) = OwnsEquation e × OwnsEquations es

-- the parts, with these behind them
abbrev pub behind : List (Tree × Tree) → Option (List (Tree × Tree)) → Option (List (Tree × Tree))
behind done None = None
behind done (Some ps) = Some (ps ++ done)

-- of two heads that have no parts in common
abbrev pub set_apart : PlainSignature → Tree → Tree → PlainEquation
set_apart S t u = heads_apart (is_rigid_head S (head t) && is_rigid_head S (head u))

-- the equations of the parts of two terms, with these behind them
abbrev pub divided : PlainSignature → Tree → Tree → List (Tree × Tree) → PlainEquation
divided S t u done = parts_or (set_apart S t u) (behind done (rigid_parts S t u))

-- whether two terms are convertible
abbrev pub same_due : PlainSignature → Tree → Tree → ℕ → Judged Bool
same_due S t u n = after (comparison_of S n t u) (λ b m. answer b m)

abbrev pub GivesSame : Judged Bool → Result Bool TypeFault → ℕ → Type 0
GivesSame due (Ok b) left = due ≡ answer b left
GivesSame due (Err fault) left = Fails fault left due

-- the weak head forms of two terms under bindings
abbrev pub heads_due : PlainSignature → PlainBindings → Tree → Tree → ℕ → Judged (Tree × Tree)
heads_due S s t u n = after (whnf_of S n t) (λ v m. after (whnf_of S m u) (λ w i. answer (under s v, under s w) i))

-- both sides mention no rule variable that is bound
pub record AreBothFree {R T : Type 0} (denotes : R → T → Tree) (b : Bindings T) (r : R) (e : Equation T) : Type 0 where
  pub one : IsFree (terms_of denotes r b) (denotes r e.one)
  pub other : IsFree (terms_of denotes r b) (denotes r e.other)

module _ {R T : Type 0} (owns : R → T → Type 0) (denotes : R → T → Tree) where
  -- both sides under bindings
  pub record AreBothUnder (old : R) (b : Bindings T) (e : Equation T) (r : R) (x : Equation T) : Type 0 where
    pub one : denotes r x.one ≡ under (terms_of denotes old b) (denotes old e.one)
    pub other : denotes r x.other ≡ under (terms_of denotes old b) (denotes old e.other)
    pub own : OwnsEquation owns r x

  -- both sides, with the units left
  abbrev pub GivesPair : Judged (Tree × Tree) → R → Result (Equation T) TypeFault → ℕ → Type 0
  GivesPair due r (Ok e) left = (due ≡ answer (pair_of denotes r e) left) × OwnsEquation owns r e
  GivesPair due r (Err fault) left = Fails fault left due

  -- the equations that one comes to, whatever solves them, or that its heads clash
  abbrev pub Divides : PlainEquation → R → Result (Vec (Equation T) Global) TypeFault → Type 0
  Divides due r (Ok es) = ((Q : Solver) (s : PlainBindings) (n : ℕ) → equation_solved Q s due n ≡ each_solved Q (pending denotes r es.items) s n) × OwnsEquations owns r es.items
  Divides due r (Err (Refused c)) = (due ≡ clash) × (c ≡ E34)
  Divides due r (Err Ended) = ⊥
  Divides due r (Err NoMemory) = Unit {0}

  -- the same, where rule variables may be bound
  abbrev pub StepsTo : PlainBindings → PlainEquation → R → Bindings T → Result (Vec (Equation T) Global) TypeFault → Type 0
  StepsTo s due r b (Ok es) = ((Q : Solver) (n : ℕ) → equation_solved Q s due n ≡ each_solved Q (pending denotes r es.items) (terms_of denotes r b) n) × OwnsEquations owns r es.items × OwnsBindings owns denotes r b
  StepsTo s due r b (Err (Refused c)) = (due ≡ clash) × (c ≡ E34)
  StepsTo s due r b (Err Ended) = ⊥
  StepsTo s due r b (Err NoMemory) = Unit {0}

  -- the equations that are still to be solved, with the units left
  abbrev pub GivesEquations : PlainSignature → Judged PlainBindings → R → Bindings T → Result (Vec (Equation T) Global) TypeFault → ℕ → Type 0
  GivesEquations S due r b (Ok es) left = (due ≡ each_solved (solved S) (pending denotes r es.items) (terms_of denotes r b) left) × OwnsEquations owns r es.items × OwnsBindings owns denotes r b
  GivesEquations S due r b (Err fault) left = Fails fault left due
