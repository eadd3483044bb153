-- Worked certificates, by computation.
use Rattle.std.proofs.Common.{List, [], ◌∷◌, ◌≡◌, Some, None, refl}
use Rattle.dk_model.specs.Trees.{Tree, star, symbol, variable, rule_variable, apply, bare, product}
use Rattle.dk_model.specs.Signatures.{rule_variable_pattern, guard_pattern, PlainRule, symbol_entry, rules_entry, PlainEntry, PlainSignature}
use Rattle.dk_model.specs.Scoping.{PlainLeft, left_symbol, left_rule_variable, left_apply, PlainScopedRule, PlainCommand, declare, rule_command}
use Rattle.dk_model.specs.declared.signature.SymSort.TheVariants.{Static, Definable, Theorem}
use Rattle.checked_steps.specs.Items.{ItemSteps, beta_step, rule_step, no_steps, more_steps, no_joins, more_joins, ItemWord, left_bound, right_bound, in_parts, let_go, Item, reduction, joining, equation}
use Rattle.checked_steps.specs.Taken.{steps_taken}
use Rattle.checked_steps.specs.Checked.{IsChecked}

-- r 0
abbrev r0 : Item
r0 = reduction no_steps

-- e 0 0 and a word
abbrev e00 : ItemWord → Item
e00 w = equation w no_steps no_steps

-- ---- nat : Type. z : nat. thm t : nat := z.

abbrev nat : PlainEntry
nat = symbol_entry Static star None

abbrev z : PlainEntry
z = symbol_entry Static (symbol 0) None

abbrev theorem : PlainCommand
theorem = declare Theorem (Some (symbol 0)) (Some (symbol 1))

nat_checked : IsChecked [] (declare Static (Some star) None) (r0 ∷ [])
nat_checked = refl

z_checked : IsChecked (nat ∷ []) (declare Static (Some (symbol 0)) None) (r0 ∷ [])
z_checked = refl

theorem_checked : IsChecked (nat ∷ z ∷ []) theorem (r0 ∷ joining no_steps no_steps ∷ [])
theorem_checked = refl

-- without its `j` line, and with one left over
join_missing : ¬ IsChecked (nat ∷ z ∷ []) theorem (r0 ∷ [])
join_missing e = cc

item_left_over : ¬ IsChecked (nat ∷ z ∷ []) theorem (r0 ∷ joining no_steps no_steps ∷ r0 ∷ [])
item_left_over e = cc

-- ---- a : Type. def b : Type := a. x : a. thm t : b := x.

abbrev row_a : PlainSignature
row_a = symbol_entry Static star None ∷ symbol_entry Definable star (Some (symbol 0)) ∷ symbol_entry Static (symbol 0) None ∷ []

abbrev unfolded : PlainCommand
unfolded = declare Theorem (Some (symbol 1)) (Some (symbol 2))

-- r 0, j 0 1 and f 0 0 0
row_a_checked : IsChecked row_a unfolded (r0 ∷ joining no_steps (more_steps (rule_step 0 0 no_joins) no_steps) ∷ [])
row_a_checked = refl

-- the step on the other side, at a place that isn't there, by a rule that isn't there, as a beta step
on_the_left : ¬ IsChecked row_a unfolded (r0 ∷ joining (more_steps (rule_step 0 0 no_joins) no_steps) no_steps ∷ [])
on_the_left e = cc

wrong_place : ¬ IsChecked row_a unfolded (r0 ∷ joining no_steps (more_steps (rule_step 1 0 no_joins) no_steps) ∷ [])
wrong_place e = cc

wrong_rule : ¬ IsChecked row_a unfolded (r0 ∷ joining no_steps (more_steps (rule_step 0 1 no_joins) no_steps) ∷ [])
wrong_rule e = cc

no_beta : ¬ IsChecked row_a unfolded (r0 ∷ joining no_steps (more_steps (beta_step 0) no_steps) ∷ [])
no_beta e = cc

-- ---- nat, z, s, vec, nil, cons, def tail, and [n, m, x, v] tail n (cons m x v) --> v

abbrev s : Tree → Tree
s t = apply (symbol 2) t

abbrev vec : Tree → Tree
vec t = apply (symbol 3) t

abbrev static : Tree → PlainEntry
static t = symbol_entry Static t None

abbrev lists : PlainSignature
lists = static star ∷ static (symbol 0) ∷ static (product (symbol 0) (symbol 0)) ∷ static (product (symbol 0) star) ∷ static (vec (symbol 1))
    ∷ static (product (symbol 0) (product (symbol 0) (product (vec (variable 1)) (vec (s (variable 2))))))
    ∷ symbol_entry Definable (product (symbol 0) (product (vec (s (variable 0))) (vec (variable 1)))) None ∷ []

abbrev on : PlainLeft → PlainLeft → PlainLeft
on f a = left_apply f a

abbrev tail_rule : PlainScopedRule
tail_rule = record {
  vars = 4;
  notes = None ∷ None ∷ None ∷ None ∷ [];
  left = on (on (left_symbol 6) (left_rule_variable 0)) (on (on (on (left_symbol 5) (left_rule_variable 1)) (left_rule_variable 2)) (left_rule_variable 3));
  right = rule_variable 3;
}

-- five r 0, e 0 0 t, e 0 0 t, e 0 0 l, j 0 0
tail_checked : IsChecked lists (rule_command (tail_rule ∷ []))
    (r0 ∷ r0 ∷ r0 ∷ r0 ∷ r0 ∷ e00 in_parts ∷ e00 in_parts ∷ e00 left_bound ∷ joining no_steps no_steps ∷ [])
tail_checked = refl

-- the right variable isn't bound where the left one may be, and an equation of one head isn't dropped
tail_bound_right : ¬ IsChecked lists (rule_command (tail_rule ∷ []))
    (r0 ∷ r0 ∷ r0 ∷ r0 ∷ r0 ∷ e00 in_parts ∷ e00 in_parts ∷ e00 right_bound ∷ joining no_steps no_steps ∷ [])
tail_bound_right e = cc

tail_dropped : ¬ IsChecked lists (rule_command (tail_rule ∷ [])) (r0 ∷ r0 ∷ r0 ∷ r0 ∷ r0 ∷ e00 let_go ∷ joining no_steps no_steps ∷ [])
tail_dropped e = cc

-- the equation of the parts isn't there
tail_part_missing : ¬ IsChecked lists (rule_command (tail_rule ∷ [])) (r0 ∷ r0 ∷ r0 ∷ r0 ∷ r0 ∷ e00 in_parts ∷ e00 in_parts ∷ joining no_steps no_steps ∷ [])
tail_part_missing e = cc

-- ---- nat : Type. z : nat. def same : nat -> nat -> nat. [x] same x x --> x. P : nat -> Type. p : P z. thm t : P (same z z) := p.

abbrev same_rule : PlainRule
same_rule = record { head = 2; vars = 1; pats = rule_variable_pattern 0 [] ∷ rule_variable_pattern 0 [] ∷ []; notes = None ∷ []; right = rule_variable 0 }

abbrev repeated : PlainSignature
repeated = nat ∷ z ∷ symbol_entry Definable (product (symbol 0) (product (symbol 0) (symbol 0))) None
    ∷ rules_entry (same_rule ∷ []) ∷ static (product (symbol 0) star) ∷ static (apply (symbol 4) (symbol 1)) ∷ []

abbrev by_condition : PlainCommand
by_condition = declare Theorem (Some (apply (symbol 4) (apply (apply (symbol 2) (symbol 1)) (symbol 1)))) (Some (symbol 5))

-- the items before the last one: `P`'s type; its argument's function, twice, with the two arguments; the argument; the sort
abbrev last_join : ItemSteps → List Item
last_join xs = r0 ∷ r0 ∷ joining no_steps no_steps ∷ r0 ∷ joining no_steps no_steps ∷ joining no_steps no_steps ∷ r0 ∷ joining no_steps xs ∷ []

-- f 2 0 1, and 0 0: the rule has one condition, which needs no step
condition_joined : IsChecked repeated by_condition (last_join (more_steps (rule_step 2 0 (more_joins no_steps no_steps no_joins)) no_steps))
condition_joined = refl

-- its condition left out, and one too many
condition_skipped : ¬ IsChecked repeated by_condition (last_join (more_steps (rule_step 2 0 no_joins) no_steps))
condition_skipped e = cc

condition_too_many : ¬ IsChecked repeated by_condition (last_join (more_steps (rule_step 2 0 (more_joins no_steps no_steps (more_joins no_steps no_steps no_joins))) no_steps))
condition_too_many e = cc

-- ---- nat : Type. z : nat. def f : nat -> nat -> nat -> nat. [x] f x {x} x --> x.

abbrev guarded_rule : PlainRule
guarded_rule = record { head = 2; vars = 1; pats = rule_variable_pattern 0 [] ∷ guard_pattern (rule_variable 0) ∷ rule_variable_pattern 0 [] ∷ []; notes = None ∷ []; right = rule_variable 0 }

abbrev guarded : PlainSignature
guarded = nat ∷ z ∷ symbol_entry Definable (product (symbol 0) (product (symbol 0) (product (symbol 0) (symbol 0)))) None ∷ rules_entry (guarded_rule ∷ []) ∷ []

-- f z ((y => y) z) z
abbrev redex_guarded : Tree
redex_guarded = apply (apply (apply (symbol 2) (symbol 1)) (apply (bare (variable 0)) (symbol 1))) (symbol 1)

-- the later occurrence comes before the guard, which stands before it
guard_last : steps_taken guarded (more_steps (rule_step 0 0 (more_joins no_steps no_steps (more_joins (more_steps (beta_step 0) no_steps) no_steps no_joins))) no_steps) redex_guarded ≡ Some (symbol 1)
guard_last = refl

guard_first : steps_taken guarded (more_steps (rule_step 0 0 (more_joins (more_steps (beta_step 0) no_steps) no_steps (more_joins no_steps no_steps no_joins))) no_steps) redex_guarded ≡ None
guard_first = refl
