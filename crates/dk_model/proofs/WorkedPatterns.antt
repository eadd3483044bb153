-- Worked counts of rules with abstractions, repeated variables and guards, by computation.
use Rattle.std.proofs.Common.{ℕ, ◌≡◌, Some, None, List, [], ◌∷◌, ◌++◌, refl}
use Rattle.dk_model.specs.Trees.{Tree, star, symbol, variable, rule_variable, apply, bare, product}
use Rattle.dk_model.specs.Signatures.{Pattern, no_patterns, rule_variable_pattern, guard_pattern, symbol_pattern, abstraction_pattern, PlainRule, PlainEntry, symbol_entry, rules_entry, PlainSignature}
use Rattle.dk_model.specs.Scoping.{PlainCommand, declare}
use Rattle.dk_model.specs.Evaluation.{whnf_of, normal_of}
use Rattle.dk_model.specs.Verdicts.{verdict_of}
use Rattle.dk_model.specs.declared.signature.SymSort.TheVariants.{Static, Definable, Theorem}
use Rattle.dk_model.specs.declared.code.Verdict.TheVariants.{Accepted, Refused, Ended}
use Rattle.dk_model.specs.declared.code.Code.TheVariants.{E21}

abbrev static : Tree → PlainEntry
static A = symbol_entry Static A None

abbrev definable : Tree → PlainEntry
definable A = symbol_entry Definable A None

abbrev rule : ℕ → ℕ → List Pattern → Tree → PlainRule
rule k vars ps t = record { head = k; vars = vars; pats = ps; notes = []; right = t }

abbrev arrow : Tree → Tree → Tree
arrow a b = product a b

abbrev two : Tree → Tree → Tree → Tree
two f a b = apply (apply f a) b

abbrev theorem : Tree → Tree → PlainCommand
theorem A t = declare Theorem (Some A) (Some t)

-- o : Type. c : o. d : o. def sw : (o -> o -> o) -> o -> o -> o. [F] sw (x => y => F x y) --> a => b => F b a.
-- p : o -> o -> o. eq : o -> o -> Type. r : x : o -> eq x x.
abbrev o : Tree
o = symbol 0

abbrev oo : Tree
oo = arrow o (arrow o o)

abbrev switching : PlainSignature
switching = static star ∷ static o ∷ static o ∷ definable (arrow oo oo)
    ∷ rules_entry (rule 3 1 (abstraction_pattern (abstraction_pattern (rule_variable_pattern 0 (1 ∷ 0 ∷ []))) ∷ []) (bare (bare (two (rule_variable 0) (variable 0) (variable 1)))) ∷ [])
    ∷ static oo ∷ static (arrow o (arrow o star)) ∷ static (product o (two (symbol 6) (variable 0) (variable 0))) ∷ []

-- sw (x => y => p x y) c d
abbrev switched : Tree
switched = two (apply (symbol 3) (bare (bare (two (symbol 5) (variable 1) (variable 0))))) (symbol 1) (symbol 2)

abbrev p_of : ℕ → ℕ → Tree
p_of a b = two (symbol 5) (symbol a) (symbol b)

-- a turn, two columns, and four contractions before the turn that stands
pub switched_turns : whnf_of switching 8 switched ≡ Some (p_of 2 1, 0)
switched_turns = refl

pub switched_ends : whnf_of switching 7 switched ≡ None
switched_ends = refl

-- thm t : eq (sw (x => y => p x y) c d) (p d c) := r (p d c).
abbrev switched_is : ℕ → ℕ → PlainCommand
switched_is a b = theorem (two (symbol 6) switched (p_of a b)) (apply (symbol 7) (p_of a b))

pub switched_accepted : verdict_of switching (switched_is 2 1) 43 ≡ Accepted
switched_accepted = refl

pub switched_budget : verdict_of switching (switched_is 2 1) 42 ≡ Ended
switched_budget = refl

pub not_switched : verdict_of switching (switched_is 1 2) 100 ≡ Refused E21
not_switched = refl

-- o : Type. c : o. def k : o -> o. [y] k y --> c. def q : (o -> o) -> Type. a : Type. ca : a. [F] q (y => F) --> a.
abbrev escaping : PlainEntry → List PlainRule → PlainSignature
escaping k rs = static star ∷ static o ∷ k ∷ rules_entry rs ∷ definable (arrow (arrow o o) star) ∷ static star ∷ static (symbol 5)
    ∷ rules_entry (rule 4 1 (abstraction_pattern (rule_variable_pattern 0 []) ∷ []) (symbol 5) ∷ []) ∷ []

-- thm t : q (y => k y) := ca.
abbrev escaped : PlainCommand
escaped = theorem (apply (symbol 4) (bare (apply (symbol 2) (variable 0)))) (symbol 6)

abbrev constant : PlainSignature
constant = escaping (definable (arrow o o)) (rule 2 1 (rule_variable_pattern 0 [] ∷ []) (symbol 1) ∷ [])

pub normal_part : verdict_of constant escaped 14 ≡ Accepted
normal_part = refl

pub normal_part_ends : verdict_of constant escaped 13 ≡ Ended
normal_part_ends = refl

pub part_mentions : verdict_of (escaping (static (arrow o o)) []) escaped 100 ≡ Refused E21
part_mentions = refl

-- o : Type. c : o. d : o. a : Type. ca : a.
abbrev before : List PlainEntry → PlainSignature
before es = static star ∷ static o ∷ static o ∷ static star ∷ static (symbol 3) ∷ es

-- def e : o -> o -> Type. [x] e x x --> a.
abbrev repeating : PlainSignature
repeating = before (definable (arrow o (arrow o star)) ∷ rules_entry (rule 5 1 (rule_variable_pattern 0 [] ∷ rule_variable_pattern 0 [] ∷ []) (symbol 3) ∷ []) ∷ [])

pub repeated : verdict_of repeating (theorem (two (symbol 5) (symbol 1) (symbol 1)) (symbol 4)) 10 ≡ Accepted
repeated = refl

pub repeated_ends : verdict_of repeating (theorem (two (symbol 5) (symbol 1) (symbol 1)) (symbol 4)) 9 ≡ Ended
repeated_ends = refl

pub not_repeated : verdict_of repeating (theorem (two (symbol 5) (symbol 1) (symbol 2)) (symbol 4)) 11 ≡ Refused E21
not_repeated = refl

-- def g : o -> Type. [] g {c} --> a.
abbrev guarding : PlainSignature
guarding = before (definable (arrow o star) ∷ rules_entry (rule 5 0 (guard_pattern (symbol 1) ∷ []) (symbol 3) ∷ []) ∷ [])

pub guarded : verdict_of guarding (theorem (apply (symbol 5) (symbol 1)) (symbol 4)) 8 ≡ Accepted
guarded = refl

pub guarded_ends : verdict_of guarding (theorem (apply (symbol 5) (symbol 1)) (symbol 4)) 7 ≡ Ended
guarded_ends = refl

pub not_guarded : verdict_of guarding (theorem (apply (symbol 5) (symbol 2)) (symbol 4)) 9 ≡ Refused E21
not_guarded = refl

-- def h : o -> (o -> o) -> Type. [x] h x (y => {x}) --> a.
-- a guard is shifted to its place: thm t : z : o -> h z (y => z) := z => ca. and not: thm t : z : o -> h z (y => y) := z => ca.
abbrev shifting : PlainSignature
shifting = before (definable (arrow o (arrow (arrow o o) star)) ∷ rules_entry (rule 5 1 (rule_variable_pattern 0 [] ∷ abstraction_pattern (guard_pattern (rule_variable 0)) ∷ []) (symbol 3) ∷ []) ∷ [])

abbrev below_guard : ℕ → PlainCommand
below_guard k = theorem (product o (two (symbol 5) (variable 0) (bare (variable k)))) (bare (symbol 4))

pub guard_shifted : verdict_of shifting (below_guard 1) 100 ≡ Accepted
guard_shifted = refl

pub guard_not_met : verdict_of shifting (below_guard 0) 100 ≡ Refused E21
guard_not_met = refl

-- def w : o. [] w --> w. def e : o -> o -> o -> Type. [x] e {w} x x --> a. thm t : e c c d := ca.
-- the repeated variable is compared before the guard, which wouldn't end
abbrev ordered : PlainSignature
ordered = before (definable o ∷ rules_entry (rule 5 0 [] (symbol 5) ∷ []) ∷ definable (arrow o (arrow o (arrow o star)))
    ∷ rules_entry (rule 7 1 (guard_pattern (symbol 5) ∷ rule_variable_pattern 0 [] ∷ rule_variable_pattern 0 [] ∷ []) (symbol 3) ∷ []) ∷ [])

pub repeated_first : verdict_of ordered (theorem (apply (two (symbol 7) (symbol 1) (symbol 1)) (symbol 2)) (symbol 4)) 100 ≡ Refused E21
repeated_first = refl

-- o : Type. c : o. d : o. s : o -> o. def e : o -> o. [x] e x --> c. def f : (o -> o) -> o -> o.
-- [y] f (x => c) y --> c  [F] f (x => F) {c} --> F  [F, y] f (x => F) y --> F.
-- a part that was normalised for a row that failed stays so for the next row
abbrev sharing : PlainSignature
sharing = static star ∷ static o ∷ static o ∷ static (arrow o o) ∷ definable (arrow o o)
    ∷ rules_entry (rule 4 1 (rule_variable_pattern 0 [] ∷ []) (symbol 1) ∷ []) ∷ definable (arrow (arrow o o) (arrow o o))
    ∷ rules_entry (rule 6 1 (abstraction_pattern (symbol_pattern 1 no_patterns) ∷ rule_variable_pattern 0 [] ∷ []) (symbol 1)
    ∷ rule 6 1 (abstraction_pattern (rule_variable_pattern 0 []) ∷ guard_pattern (symbol 1) ∷ []) (rule_variable 0)
    ∷ rule 6 2 (abstraction_pattern (rule_variable_pattern 0 []) ∷ rule_variable_pattern 1 [] ∷ []) (rule_variable 0) ∷ []) ∷ []

-- f (x => s (e x)) d
abbrev shared : Tree
shared = two (symbol 6) (bare (apply (symbol 3) (apply (symbol 4) (variable 0)))) (symbol 2)

pub part_stays_normal : normal_of sharing 15 shared ≡ Some (apply (symbol 3) (symbol 1), 0)
part_stays_normal = refl

pub part_stays_normal_ends : normal_of sharing 14 shared ≡ None
part_stays_normal_ends = refl

-- eq : o -> o -> Type. r : x : o -> eq x x. thm t : eq (f (x => s (e x)) d) (s c) := r (s c).
abbrev with_equality : PlainSignature
with_equality = sharing ++ static (arrow o (arrow o star)) ∷ static (product o (two (symbol 8) (variable 0) (variable 0))) ∷ []

abbrev shared_is : PlainCommand
shared_is = theorem (two (symbol 8) shared (apply (symbol 3) (symbol 1))) (apply (symbol 9) (apply (symbol 3) (symbol 1)))

pub shared_accepted : verdict_of with_equality shared_is 39 ≡ Accepted
shared_accepted = refl

pub shared_ends : verdict_of with_equality shared_is 38 ≡ Ended
shared_ends = refl

-- the weak head forms of docs/evaluation.md
pub constant_part : whnf_of constant 6 (apply (symbol 4) (bare (apply (symbol 2) (variable 0)))) ≡ Some (symbol 5, 0)
constant_part = refl

pub repeated_part : whnf_of repeating 3 (two (symbol 5) (symbol 1) (symbol 1)) ≡ Some (symbol 3, 0)
repeated_part = refl

pub guard_fails : whnf_of guarding 4 (apply (symbol 5) (symbol 2)) ≡ Some (apply (symbol 5) (symbol 2), 0)
guard_fails = refl
