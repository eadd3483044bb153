-- For proofs: selections over terms of a pool, and those that wait for the weak head form of a term.
use Rattle.std.specs.Prelude.{ℕ, ◌≡◌, ◌<◌, ◌+◌, ◌-◌, Option, Some, None, Bool, List, [], ◌∷◌, length, if◌then◌else◌}
use Rattle.dk_model.specs.Trees.{Tree, symbol}
use Rattle.dk_model.specs.Signatures.{PlainRule, PlainSignature}
use Rattle.dk_model.specs.SymbolRules.{rules_of}
use Rattle.dk_model.specs.Units.{Units, bind}
use Rattle.dk_model.specs.Selection.{Selected}
use Rattle.dk_model.specs.Evaluation.{whnf_of}
use Rattle.dk_model.specs.Equations.{after_selection}
use Rattle.shared_term.specs.declared.id.TermId.{TermId}
use Rattle.shared_term.specs.Pools.{Node, term, Extends}
use Rattle.rule_match.specs.declared.matcher.Answer.{Answer}
use Rattle.rule_match.specs.declared.matcher.Answer.TheVariants.{Begin, Value, Yes, No, Normal}
use Rattle.rule_match.specs.declared.matcher.Matcher.{Matcher}
use Rattle.rule_match.specs.Selecting.{IsMatcher, Fits, TakesValue, Stands, IsStart, left_with}
use Rattle.conversion.specs.declared.compare.Step.{Step}
use Rattle.conversion.specs.declared.compare.OpenPair.{OpenPair}
use Rattle.conversion.specs.declared.normal.Frame.{Frame}
use Rattle.conversion.specs.declared.normal.OpenPart.{OpenPart}
use Rattle.conversion.specs.declared.pauses.Waiter.{Waiter}
use Rattle.conversion.specs.declared.pauses.Purpose.{Purpose}
use Rattle.conversion.specs.declared.pauses.Purpose.TheVariants.{Column, Compares, Normalises}
use Rattle.conversion.specs.declared.pauses.Pause.{Pause}
use Rattle.conversion.specs.declared.selection.Selection.{Selection}
use Rattle.conversion.specs.Machine.{AreWithin, behind, wound}
use Rattle.conversion.specs.Pending.{IsOpenPair}
use Rattle.conversion.specs.Waiting.{IsOpenPart}

-- a selection from the rules of its symbol, over terms of a pool of so many nodes, with an answer of the kind it asked for
pub record IsSelection (S : PlainSignature) (n : ℕ) (s : Selection) : Type 0 where
  pub matcher : IsMatcher n s.matcher
  pub answer : Fits n s.matcher s.answer
  pub stands : Stands (rules_of S s.symbol) s.matcher

-- a selection from these rules before the arguments of a stack, at its start
pub record StartsOver (rules : List PlainRule) (k : ℕ) (ids : List TermId) (s : Selection) : Type 0 where
  pub named : s.symbol ≡ k
  pub answer : s.answer ≡ Begin
  pub starts : IsStart rules ids s.matcher

-- what is left of it
abbrev pub selected : PlainSignature → List Node → Selection → ℕ → Units (Option Selected)
selected S ns s n = left_with S (rules_of S s.symbol) ns s.matcher s.answer n

-- the weak head form of the symbol of a selection before arguments, whose turn took its unit already
abbrev pub rewritten_by : PlainSignature → List Node → Selection → List TermId → ℕ → Units Tree
rewritten_by S ns s ids n = bind (selected S ns s n) (after_selection S (wound (symbol s.symbol) (behind ns ids)))

-- a selection that waited, with its answer
abbrev pub answered : Waiter → Answer → Selection
answered w a = record { symbol = w.symbol; matcher = w.matcher; answer = a }

-- the weak head form `due` of the symbol of a selection that waits: it goes on with the term that is asked for, wherever a
-- larger pool has it; where there is none, it ends
pub record GoesOnWith (S : PlainSignature) (ns : List Node) (w : Waiter) (told : TermId → Answer) (asked due : Units Tree) : Type 0 where
  pub ends : asked ≡ None → due ≡ None
  pub goes : (new : List Node) (v : TermId) (n : ℕ) → Extends ns new → asked ≡ Some (term new v, n) → due ≡ rewritten_by S new (answered w (told v)) w.stack.items n

-- the same where two terms are asked for to be alike
pub record GoesOnWhether (S : PlainSignature) (ns : List Node) (w : Waiter) (asked : Units Bool) (due : Units Tree) : Type 0 where
  pub ends : asked ≡ None → due ≡ None
  pub goes : (new : List Node) (alike : Bool) (n : ℕ) → Extends ns new → asked ≡ Some (alike, n)
      → due ≡ rewritten_by S new (answered w (if alike then Yes else No)) w.stack.items n

-- a pair waits for the weak head form of this term from so many units on: for the first one, or for the second one
abbrev pub AwaitsPair : PlainSignature → List Node → OpenPair → Option TermId → TermId → ℕ → Type 0
AwaitsPair S ns p None t n = (t ≡ p.first) × (n + 1 ≡ p.before)
AwaitsPair S ns p (Some x) t n = (t ≡ p.second) × (x.0 < length ns) × (whnf_of S (p.before - 1) (term ns p.first) ≡ Some (term ns x, n))

-- a selection waits for a comparison, which waits for the weak head form of a term
pub record ComparesFor (S : PlainSignature) (ns : List Node) (w : Waiter) (steps : List Step) (p : OpenPair) (x : Option TermId) (t : TermId) (n : ℕ) (due : Units Tree) : Type 0 where
  pub alike : Units Bool
  pub open_pair : IsOpenPair S ns alike steps p
  pub awaits : AwaitsPair S ns p x t n
  pub further : GoesOnWhether S ns w alike due

-- the same with a normal form
pub record NormalisesFor (S : PlainSignature) (ns : List Node) (w : Waiter) (frames : List Frame) (p : OpenPart) (t : TermId) (n : ℕ) (due : Units Tree) : Type 0 where
  pub normal : Units Tree
  pub open_part : IsOpenPart S ns normal frames p
  pub asked : t ≡ p.part
  pub start : n + 1 ≡ p.before
  pub further : GoesOnWith S ns w (λ v. Normal v) normal due

-- what a selection waits for by way of the weak head form of a term, from so many units on
abbrev pub WaitsFor : PlainSignature → List Node → Waiter → Purpose → TermId → ℕ → Units Tree → Type 0
WaitsFor S ns w Column t n due = GoesOnWith S ns w (λ v. Value v) (whnf_of S n (term ns t)) due
WaitsFor S ns w (Compares steps p x) t n due = ComparesFor S ns w steps.items p x t n due
WaitsFor S ns w (Normalises frames p) t n due = NormalisesFor S ns w frames.items p t n due

abbrev pub Continues : PlainSignature → List Node → Pause → Units Tree → Type 0
Continues S ns p due = WaitsFor S ns p.waiter p.purpose p.asked p.start due

-- what it waits for: the weak head form of a term, from the units that there were
abbrev pub awaited : PlainSignature → List Node → Pause → Units Tree
awaited S ns p = whnf_of S p.start (term ns p.asked)

-- some weak head form is that of its symbol
abbrev pub IsAwaited : PlainSignature → List Node → Pause → Type 0
IsAwaited S ns p = (due : Units Tree) × Continues S ns p due

-- a selection from the rules of its symbol, over terms of a pool of so many nodes, with the arguments
pub record IsWaiter (S : PlainSignature) (n : ℕ) (w : Waiter) : Type 0 where
  pub matcher : IsMatcher n w.matcher
  pub stands : Stands (rules_of S w.symbol) w.matcher
  pub stack : AreWithin n w.stack.items

-- each answer fits
abbrev pub TakesAlike : Matcher → Type 0
TakesAlike m = (n : ℕ) (alike : Bool) → Fits n m (if alike then Yes else No)

abbrev pub TakesNormal : Matcher → Type 0
TakesNormal m = (n : ℕ) (v : TermId) → v.0 < n → Fits n m (Normal v)

abbrev pub TakesAnswer : Matcher → Purpose → Type 0
TakesAnswer m Column = TakesValue m
TakesAnswer m (Compares steps p x) = TakesAlike m
TakesAnswer m (Normalises frames p) = TakesNormal m

-- the terms of a selection that waits are terms of a pool of so many nodes
pub record IsPause (S : PlainSignature) (n : ℕ) (p : Pause) : Type 0 where
  pub waiter : IsWaiter S n p.waiter
  pub fits : TakesAnswer p.waiter.matcher p.purpose
  pub asked : p.asked.0 < n

abbrev pub ArePauses : PlainSignature → ℕ → List Pause → Type 0
ArePauses S n [] = Unit {0}
ArePauses S n (p ∷ ps) = IsPause S n p × ArePauses S n ps

-- each of these selections waits for what the next one gives, the last one for `due`, and the first one gives `whole`
abbrev pub Await : PlainSignature → List Node → Units Tree → List Pause → Units Tree → Type 0
Await S ns whole [] due = due ≡ whole
Await S ns whole (p ∷ ps) due = Continues S ns p whole × Await S ns (awaited S ns p) ps due
