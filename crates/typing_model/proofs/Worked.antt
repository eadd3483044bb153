-- Worked cases: what has no type, what a condition asks for, and a theorem by a rule with a repeated variable.
use Rattle.std.proofs.Common.{List, [], ◌∷◌, Some, None, refl, arith}
use Rattle.dk_model.specs.Trees.{Tree, star, kind, symbol, variable, rule_variable, apply, bare, product}
use Rattle.dk_model.specs.Signatures.{rule_variable_pattern, PlainRule, symbol_entry, rules_entry, PlainSignature}
use Rattle.dk_model.specs.Scoping.{left_symbol, left_rule_variable, left_wildcard, left_apply, PlainScopedRule, PlainCommand, declare, rule_command}
use Rattle.dk_model.specs.declared.signature.SymSort.TheVariants.{Static, Definable, Theorem}
use Rattle.typing_model.specs.Steps.{at_rule_variable, no_arguments, one_argument, beta, by_rule, no_step, one_step, no_condition, one_condition}
use Rattle.typing_model.specs.PlainSteps.{Step, AreMet}
use Rattle.typing_model.specs.Derivations.{HasType, RuleHasDerivation, HasDerivation}
use Rattle.typing_model.specs.Conditions.{IsNumbered, HasNoAnnotations}
use Rattle.dk_model.specs.Typing.{by_units}
use Rattle.typing_model.proofs.Rules.{units_reduce}
use Rattle.typing_model.proofs.RuleTyping.{rule_derives}
use Rattle.typing_model.proofs.Commands.{accepted_derives}

module _ (S : PlainSignature) (types : List Tree) where
  pub kind_has_no_type : (context : List Tree) (T : Tree) → HasType S types context kind T → ⊥
  kind_has_no_type context T h = elim h [ ]

  pub bare_has_no_type : (context : List Tree) (b T : Tree) → HasType S types context (bare b) T → ⊥
  bare_has_no_type context b T h = elim h [ ]

pub condition_needs_height : (S : PlainSignature) (t u : Tree) (rest : List (Tree × Tree)) → AreMet S 0 ((t, u) ∷ rest) → ⊥
condition_needs_height S t u rest (one_condition lt s r m) = absurd (omega arith)

-- nat : Type. z : nat. def same : nat -> nat -> nat. [x] same x x --> x. P : nat -> Type. p : P z.
abbrev same_rule : PlainRule
same_rule = record { head = 2; vars = 1; pats = rule_variable_pattern 0 [] ∷ rule_variable_pattern 0 [] ∷ []; notes = None ∷ []; right = rule_variable 0 }

abbrev repeated : PlainSignature
repeated = symbol_entry Static star None ∷ symbol_entry Static (symbol 0) None ∷ symbol_entry Definable (product (symbol 0) (product (symbol 0) (symbol 0))) None
    ∷ rules_entry (same_rule ∷ []) ∷ symbol_entry Static (product (symbol 0) star) None ∷ symbol_entry Static (apply (symbol 4) (symbol 1)) None ∷ []

abbrev same : Tree → Tree → Tree
same a b = apply (apply (symbol 2) a) b

-- the two occurrences may differ, where they are joinable at a height below
pub same_steps : Step repeated 1 (same (apply (bare (variable 0)) (symbol 1)) (symbol 1)) (apply (bare (variable 0)) (symbol 1))
same_steps = by_rule 2 same_rule (apply (bare (variable 0)) (symbol 1) ∷ symbol 1 ∷ []) _ (0, omega arith, refl)
    (one_argument (at_rule_variable refl) (one_argument (at_rule_variable refl) no_arguments))
    (one_condition {below = 0} (omega arith) (one_step beta no_step) no_step no_condition)

numbered : IsNumbered repeated
numbered = (((omega arith, (omega arith, tt)), tt), tt)

-- thm t : P (same z z) := p.
abbrev theorem : PlainCommand
theorem = declare Theorem (Some (apply (symbol 4) (same (symbol 1) (symbol 1)))) (Some (symbol 5))

unannotated : HasNoAnnotations repeated
unannotated = ((tt, tt), ((tt, tt), (((tt, (tt, tt)), tt), ((tt, tt), (((tt, tt), tt), (((tt, tt), tt), tt))))))

pub theorem_derives : HasDerivation repeated theorem
theorem_derives = accepted_derives repeated (by_units repeated) (units_reduce repeated numbered) unannotated theorem 100 refl

-- [x, y : nat] same x y --> y
abbrev right_one : PlainScopedRule
right_one = record {
  vars = 2;
  notes = None ∷ Some (symbol 0) ∷ [];
  left = left_apply (left_apply (left_symbol 2) (left_rule_variable 0)) (left_rule_variable 1);
  right = rule_variable 1;
}

pub right_one_derives : RuleHasDerivation repeated right_one
right_one_derives = rule_derives repeated (by_units repeated) (units_reduce repeated numbered) unannotated right_one _ 4 0 tt refl refl

-- [x] same _ x --> x
abbrev past_wildcard : PlainScopedRule
past_wildcard = record {
  vars = 1;
  notes = None ∷ [];
  left = left_apply (left_apply (left_symbol 2) left_wildcard) (left_rule_variable 0);
  right = rule_variable 0;
}

pub past_wildcard_derives : RuleHasDerivation repeated past_wildcard
past_wildcard_derives = rule_derives repeated (by_units repeated) (units_reduce repeated numbered) unannotated past_wildcard _ 3 0 tt refl refl

-- both in one command
abbrev two_rules : PlainCommand
two_rules = rule_command (right_one ∷ past_wildcard ∷ [])

pub rules_have_derivation : HasDerivation repeated two_rules
rules_have_derivation = accepted_derives repeated (by_units repeated) (units_reduce repeated numbered) unannotated two_rules 7 refl
