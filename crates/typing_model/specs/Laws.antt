-- For callers: what the laws say: the answers of evaluation and of typing have the meaning that reduction and
-- derivations give them.
use Rattle.std.specs.Prelude.{ℕ, ◌≡◌, Option, Some, Ok, true, List, [], ◌∷◌, ◌++◌}
use Rattle.dk_model.specs.PlainTerms.{Tree}
use Rattle.dk_model.specs.PlainEntries.{PlainRule, PlainSignature}
use Rattle.dk_model.specs.WellFormed.{IsSignature}
use Rattle.dk_model.specs.PlainCommands.{PlainScopedRule, PlainCommand, declare}
use Rattle.dk_model.specs.Shapes.{shape_of}
use Rattle.dk_model.specs.TypingOver.{Evaluator, agreed, answer, after, next, inferred, checked}
use Rattle.dk_model.specs.RuleTypingOver.{rule_checked}
use Rattle.dk_model.specs.CommandTypingOver.{command_checked}
use Rattle.dk_model.specs.Bindings.{Bindings, under}
use Rattle.dk_model.specs.ByUnits.{by_units}
use Rattle.dk_model.specs.Spines.{head_symbol}
use Rattle.dk_model.specs.Selection.{Selected}
use Rattle.dk_model.specs.Evaluation.{whnf_of, comparison_of, normal_of, columns, rows, rewritten}
use Rattle.dk_model.specs.Equations.{selection_of}
use Rattle.dk_model.specs.Verdicts.{verdict, inferred_type, entry_of}
use Rattle.dk_model.specs.declared.code.Code.TheVariants.{E34}
use Rattle.dk_model.specs.declared.code.Verdict.TheVariants.{Accepted}
use Rattle.dk_model.specs.declared.signature.SymSort.{SymSort}
use Rattle.typing_model.specs.Steps.{ReducesTo, AreJoinable}
use Rattle.typing_model.specs.Derivations.{Context, HasType, Fits, Resolves, RuleHasDerivation, HasDerivation}
use Rattle.typing_model.specs.Conditions.{IsNumbered, HasNoAnnotations}

-- a term reduces to its weak head form
abbrev pub WhnfReduces : PlainSignature → Type 0
WhnfReduces S = (n m : ℕ) (t u : Tree) → whnf_of S n t ≡ Some (u, m) → ReducesTo S t u

-- a term reduces to its normal form
abbrev pub NormalReduces : PlainSignature → Type 0
NormalReduces S = (n m : ℕ) (t u : Tree) → normal_of S n t ≡ Some (u, m) → ReducesTo S t u

-- where a selection takes a rule of the head symbol, the term reduces to the rule's right side under the captures, applied to
-- the arguments that its patterns left over
abbrev pub SelectionReduces : PlainSignature → Type 0
SelectionReduces S = (n m k : ℕ) (t : Tree) (taken : Selected) → head_symbol t ≡ Some k
    → selection_of S n (columns S k t) (rows S k t) ≡ Some (Some taken, m) → ReducesTo S t (rewritten t taken)

-- terms that the comparison finds alike are joinable
abbrev pub ComparisonJoins : PlainSignature → Type 0
ComparisonJoins S = (n m : ℕ) (t u : Tree) → comparison_of S n t u ≡ Some (true, m) → AreJoinable S t u

-- an evaluation whose answers are reducts, which finds only terms the same that are joinable, and solves equations only by
-- bindings to which they resolve, whatever is left to spend
pub record Reduces {X : Type 0} (S : PlainSignature) (E : Evaluator X) : Type 0 where
  pub whnf : (n m : X) (t u : Tree) → E.whnf n t ≡ Some (u, m) → ReducesTo S t u
  pub same : (n m : X) (t u : Tree) → E.same n t u ≡ Some (true, m) → AreJoinable S t u
  pub normal : (n m : X) (t u : Tree) → E.normal n t ≡ Some (u, m) → ReducesTo S t u
  pub solve : (n m : X) (s r : Bindings) (t u : Tree) → E.solve n s t u ≡ answer r m → Resolves S s ((t, u) ∷ []) r

-- a term has the type that inference answers
abbrev pub InferredHasType : {X : Type 0} → PlainSignature → Evaluator X → Type 0
InferredHasType {X} S E = (types : List Tree) (context : Context) (n m : X) (t T : Tree) → inferred E S types context t n ≡ answer T m → HasType S types context t T

-- a term fits the type against which checking accepts it
abbrev pub CheckedFits : {X : Type 0} → PlainSignature → Evaluator X → Type 0
CheckedFits {X} S E = (types : List Tree) (context : Context) (n m : X) (t T : Tree) (u : Unit {0}) → checked E S types context t T n ≡ answer u m → Fits S types context t T

-- a command that the check accepts has a derivation
abbrev pub AcceptedHasDerivation : {X : Type 0} → PlainSignature → Evaluator X → Type 0
AcceptedHasDerivation {X} S E = (command : PlainCommand) (budget : X) → verdict (command_checked E S command budget) ≡ Accepted → HasDerivation S command

-- a declaration, definition or theorem that the check accepts has a derivation
abbrev pub DeclarationHasDerivation : {X : Type 0} → PlainSignature → Evaluator X → Type 0
DeclarationHasDerivation {X} S E = (sort : SymSort) (typ body : Option Tree) (budget : X) → verdict (command_checked E S (declare sort typ body) budget) ≡ Accepted
    → HasDerivation S (declare sort typ body)

-- a rule whose shape is typed has a derivation
abbrev pub TypedRuleHasDerivation : {X : Type 0} → PlainSignature → Evaluator X → Type 0
TypedRuleHasDerivation {X} S E = (rule : PlainScopedRule) (shape : PlainRule) (n m : X) (u : Unit {0}) → shape_of rule ≡ Ok shape → rule_checked E S shape n ≡ answer u m → RuleHasDerivation S rule

-- evaluation with units, where an equation is only solved if its sides are convertible, so that no rule variable is bound
abbrev pub by_conversion : PlainSignature → Evaluator ℕ
by_conversion S = record {
  whnf = whnf_of S;
  same = comparison_of S;
  normal = normal_of S;
  solve = λ n s t u. next (after (comparison_of S n (under s t) (under s u)) (agreed E34)) (λ v m. answer s m);
}

-- a command that is accepted without binding a rule variable is accepted, and leaves as many units
abbrev pub StaysAccepted : PlainSignature → Type 0
StaysAccepted S = (command : PlainCommand) (n m : ℕ) (u : Unit {0}) → command_checked (by_conversion S) S command n ≡ answer u m → command_checked (by_units S) S command n ≡ answer u m

-- a signature stays one with the entry of a further command
abbrev pub StaysSignature : PlainSignature → Type 0
StaysSignature S = (command : PlainCommand) (budget : ℕ) → IsSignature S → IsSignature (S ++ (entry_of S command (inferred_type S command budget) ∷ []))

-- a signature stays numbered with the entry of a further command, whatever type its body has
abbrev pub StaysNumbered : PlainSignature → Type 0
StaysNumbered S = (command : PlainCommand) (typ : Option Tree) → IsNumbered S → IsNumbered (S ++ (entry_of S command typ ∷ []))

-- a numbered signature without annotations stays without them
abbrev pub StaysPlain : PlainSignature → Type 0
StaysPlain S = (command : PlainCommand) (budget : ℕ) → IsNumbered S → HasNoAnnotations S
    → HasNoAnnotations (S ++ (entry_of S command (inferred_type S command budget) ∷ []))

-- no context gives the term a type
abbrev pub HasNoType : PlainSignature → Tree → Type 0
HasNoType S t = (types : List Tree) (context : Context) (T : Tree) → ¬ HasType S types context t T
