-- Worked counts, by computation.
use Rattle.std.proofs.Common.{ℕ, zero, suc, ◌≡◌, Some, None, true, [], ◌∷◌, refl}
use Rattle.dk_model.specs.Trees.{Tree, star, symbol, variable, rule_variable, apply, bare, annotated, product}
use Rattle.dk_model.specs.Signatures.{no_patterns, more_patterns, rule_variable_pattern, symbol_pattern, symbol_entry, rules_entry, PlainSignature}
use Rattle.dk_model.specs.Scoping.{PlainLeft, left_symbol, left_rule_variable, left_variable, left_abstraction, left_apply, PlainScopedRule, PlainCommand, declare, rule_command}
use Rattle.dk_model.specs.Evaluation.{whnf_of, comparison_of, normal_of}
use Rattle.dk_model.specs.Typing.{answer, ended, checked}
use Rattle.dk_model.specs.Verdicts.{verdict_of, entry_of, body_type}
use Rattle.dk_model.specs.declared.signature.SymSort.TheVariants.{Static, Definable, Theorem}
use Rattle.dk_model.specs.declared.code.Verdict.TheVariants.{Accepted, Refused, Ended}
use Rattle.dk_model.specs.declared.code.Code.TheVariants.{E20, E21, E22, E23, E24, E25, E30, E31, E32, E33}

-- nat : Type. z : nat. s : nat -> nat. def plus : nat -> nat -> nat.
-- [n] plus z n --> n  [m, n] plus (s m) n --> s (plus m n).
-- eq : nat -> nat -> Type. refl : n : nat -> eq n n.
abbrev pub numbers : PlainSignature
numbers = symbol_entry Static star None ∷ symbol_entry Static (symbol 0) None ∷ symbol_entry Static (product (symbol 0) (symbol 0)) None
    ∷ symbol_entry Definable (product (symbol 0) (product (symbol 0) (symbol 0))) None
    ∷ rules_entry (record { head = 3; vars = 1; pats = symbol_pattern 1 no_patterns ∷ rule_variable_pattern 0 [] ∷ []; notes = None ∷ []; right = rule_variable 0 }
    ∷ record {
      head = 3;
      vars = 2;
      pats = symbol_pattern 2 (more_patterns (rule_variable_pattern 0 []) no_patterns) ∷ rule_variable_pattern 1 [] ∷ [];
      notes = None ∷ None ∷ [];
      right = apply (symbol 2) (apply (apply (symbol 3) (rule_variable 0)) (rule_variable 1));
    } ∷ [])
    ∷ symbol_entry Static (product (symbol 0) (product (symbol 0) star)) None
    ∷ symbol_entry Static (product (symbol 0) (apply (apply (symbol 5) (variable 0)) (variable 0))) None ∷ []

abbrev pub numeral : ℕ → Tree
numeral zero = symbol 1
numeral (suc k) = apply (symbol 2) (numeral k)

abbrev pub plus : Tree → Tree → Tree
plus a b = apply (apply (symbol 3) a) b

abbrev eq : Tree → Tree → Tree
eq a b = apply (apply (symbol 5) a) b

pub two_and_two_turns : whnf_of numbers 3 (plus (numeral 2) (numeral 2)) ≡ Some (apply (symbol 2) (plus (numeral 1) (numeral 2)), 0)
two_and_two_turns = refl

pub two_and_two_ends : whnf_of numbers 2 (plus (numeral 2) (numeral 2)) ≡ None
two_and_two_ends = refl

pub four_is_two_and_two : comparison_of numbers 16 (numeral 4) (plus (numeral 2) (numeral 2)) ≡ Some (true, 0)
four_is_two_and_two = refl

pub four_ends : comparison_of numbers 15 (numeral 4) (plus (numeral 2) (numeral 2)) ≡ None
four_ends = refl

pub four_normal : normal_of numbers 100 (plus (numeral 2) (numeral 2)) ≡ Some (numeral 4, 84)
four_normal = refl

-- a numeral of k against nat takes 2k + 1
pub numeral_0 : checked numbers [] [] (numeral 0) (symbol 0) 1 ≡ answer tt 0
numeral_0 = refl

pub numeral_4 : checked numbers [] [] (numeral 4) (symbol 0) 9 ≡ answer tt 0
numeral_4 = refl

pub numeral_4_ends : checked numbers [] [] (numeral 4) (symbol 0) 8 ≡ ended
numeral_4_ends = refl

-- thm two : eq (plus 2 2) 4 := refl 4. takes 55
abbrev two : PlainCommand
two = declare Theorem (Some (eq (plus (numeral 2) (numeral 2)) (numeral 4))) (Some (apply (symbol 6) (numeral 4)))

pub two_accepted : verdict_of numbers two 55 ≡ Accepted
two_accepted = refl

pub two_ended : verdict_of numbers two 54 ≡ Ended
two_ended = refl

-- nat : Type. z : nat. thm t : nat := z. takes 2
abbrev pub nat_z : PlainSignature
nat_z = symbol_entry Static star None ∷ symbol_entry Static (symbol 0) None ∷ []

pub theorem_accepted : verdict_of nat_z (declare Theorem (Some (symbol 0)) (Some (symbol 1))) 2 ≡ Accepted
theorem_accepted = refl

pub theorem_ended : verdict_of nat_z (declare Theorem (Some (symbol 0)) (Some (symbol 1))) 1 ≡ Ended
theorem_ended = refl

-- a : Type. b : Type. x : a. thm t : b := x.
abbrev two_types : PlainSignature
two_types = symbol_entry Static star None ∷ symbol_entry Static star None ∷ symbol_entry Static (symbol 0) None ∷ []

pub another_type : verdict_of two_types (declare Theorem (Some (symbol 1)) (Some (symbol 2))) 100 ≡ Refused E21
another_type = refl

-- thm t : Type := Type.
pub type_in_type : verdict_of [] (declare Theorem (Some star) (Some star)) 100 ≡ Refused E21
type_in_type = refl

-- a : Type. def b : Type := a. x : a. thm t : b := x. takes 5; with thm b it is refused
abbrev defined : PlainSignature
defined = symbol_entry Static star None ∷ entry_of [] (declare Definable (Some star) (Some (symbol 0))) None ∷ symbol_entry Static (symbol 0) None ∷ []

abbrev proved : PlainSignature
proved = symbol_entry Static star None ∷ entry_of [] (declare Theorem (Some star) (Some (symbol 0))) None ∷ symbol_entry Static (symbol 0) None ∷ []

abbrev unfolds : PlainCommand
unfolds = declare Theorem (Some (symbol 1)) (Some (symbol 2))

pub definition_unfolds : verdict_of defined unfolds 5 ≡ Accepted
definition_unfolds = refl

pub definition_ends : verdict_of defined unfolds 4 ≡ Ended
definition_ends = refl

pub theorem_stands : verdict_of proved unfolds 100 ≡ Refused E21
theorem_stands = refl

-- nat : Type. z : nat. and one command more
pub applied_not_product : verdict_of nat_z (declare Theorem (Some (symbol 0)) (Some (apply (symbol 1) (symbol 1)))) 100 ≡ Refused E20
applied_not_product = refl

pub not_a_sort : verdict_of nat_z (declare Static (Some (symbol 1)) None) 100 ≡ Refused E22
not_a_sort = refl

pub bare_without_type : verdict_of [] (declare Definable None (Some (bare (variable 0)))) 100 ≡ Refused E23
bare_without_type = refl

pub bare_against_no_product : verdict_of nat_z (declare Theorem (Some (symbol 0)) (Some (bare (variable 0)))) 100 ≡ Refused E24
bare_against_no_product = refl

pub body_is_kind : verdict_of nat_z (declare Definable None (Some (annotated (symbol 0) star))) 100 ≡ Refused E25
body_is_kind = refl

pub applied_body_is_kind : verdict_of nat_z (declare Theorem (Some (symbol 0)) (Some (apply (annotated (symbol 0) star) (symbol 1)))) 100 ≡ Refused E25
applied_body_is_kind = refl

-- a : Type. x : a. def y := x.
pub definition_without_type : body_type two_types (symbol 2) 100 ≡ answer (symbol 0) 100
definition_without_type = refl

-- def id (x : a) : a := x. and then: id c : a
pub identity : verdict_of two_types (declare Definable (Some (product (symbol 0) (symbol 0))) (Some (annotated (symbol 0) (variable 0)))) 100 ≡ Accepted
identity = refl

-- ---- rules

abbrev rule : ℕ → PlainLeft → Tree → PlainScopedRule
rule vars left right = record { vars = vars; notes = []; left = left; right = right }

-- z : Type. [] z --> z.
pub head_not_definable : verdict_of nat_z (rule_command (rule 0 (left_symbol 1) (symbol 1) ∷ [])) 100 ≡ Refused E30
head_not_definable = refl

-- [x] x --> nat.
pub head_no_symbol : verdict_of nat_z (rule_command (rule 1 (left_rule_variable 0) (symbol 0) ∷ [])) 100 ≡ Refused E31
head_no_symbol = refl

-- the rules are looked at one after the other
pub first_rule_first : verdict_of nat_z (rule_command (rule 0 (left_symbol 1) (symbol 1) ∷ rule 1 (left_rule_variable 0) (symbol 0) ∷ [])) 100 ≡ Refused E30
first_rule_first = refl

-- plus is symbol 3: [F] plus (x => F x x) --> F.
pub argument_twice : verdict_of numbers (rule_command (rule 1 (left_apply (left_symbol 3) (left_abstraction (left_apply (left_apply (left_rule_variable 0) (left_variable 0)) (left_variable 0)))) (rule_variable 0) ∷ [])) 100 ≡ Refused E32
argument_twice = refl

-- [x, y] plus x --> y.
pub variable_missing : verdict_of numbers (rule_command (rule 2 (left_apply (left_symbol 3) (left_rule_variable 0)) (rule_variable 1) ∷ [])) 100 ≡ Refused E33
variable_missing = refl

-- [m, n] plus (s m) n --> s (plus m n). takes 11
abbrev successor : PlainCommand
successor = rule_command (rule 2 (left_apply (left_apply (left_symbol 3) (left_apply (left_symbol 2) (left_rule_variable 0))) (left_rule_variable 1)) (apply (symbol 2) (plus (rule_variable 0) (rule_variable 1))) ∷ [])

pub rule_accepted : verdict_of numbers successor 11 ≡ Accepted
rule_accepted = refl

pub rule_ends : verdict_of numbers successor 10 ≡ Ended
rule_ends = refl

pub rule_kept : entry_of numbers successor None ≡ rules_entry (record {
  head = 3;
  vars = 2;
  pats = symbol_pattern 2 (more_patterns (rule_variable_pattern 0 []) no_patterns) ∷ rule_variable_pattern 1 [] ∷ [];
  notes = [];
  right = apply (symbol 2) (plus (rule_variable 0) (rule_variable 1));
} ∷ [])
rule_kept = refl
