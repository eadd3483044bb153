-- Worked counts of rule typing where equations are solved, by computation.
use Rattle.std.proofs.Common.{ℕ, ◌≡◌, Option, Some, None, List, [], ◌∷◌, refl}
use Rattle.dk_model.specs.Trees.{Tree, star, symbol, variable, rule_variable, apply, bare, annotated, product}
use Rattle.dk_model.specs.Signatures.{Pattern, no_patterns, more_patterns, rule_variable_pattern, wildcard_pattern, guard_pattern, symbol_pattern, variable_pattern, abstraction_pattern, symbol_entry, rules_entry, PlainRule, PlainEntry, PlainSignature}
use Rattle.dk_model.specs.Typing.{answer, refused, ended}
use Rattle.dk_model.specs.RuleTyping.{rule_checked}
use Rattle.dk_model.specs.declared.signature.SymSort.TheVariants.{Static, Definable}
use Rattle.dk_model.specs.declared.code.Code.TheVariants.{E20, E21, E23, E34, E35}

abbrev static : Tree → PlainEntry
static t = symbol_entry Static t None

abbrev definable : Tree → PlainEntry
definable t = symbol_entry Definable t None

abbrev rule_of : ℕ → ℕ → List Pattern → List (Option Tree) → Tree → PlainRule
rule_of k vars ps notes right = record { head = k; vars = vars; pats = ps; notes = notes; right = right }

abbrev v1 : ℕ → Pattern
v1 k = rule_variable_pattern k []

abbrev p1 : ℕ → Pattern → Pattern
p1 k p = symbol_pattern k (more_patterns p no_patterns)

abbrev p2 : ℕ → Pattern → Pattern → Pattern
p2 k p q = symbol_pattern k (more_patterns p (more_patterns q no_patterns))

abbrev p3 : ℕ → Pattern → Pattern → Pattern → Pattern
p3 k p q r = symbol_pattern k (more_patterns p (more_patterns q (more_patterns r no_patterns)))

-- nat : Type. z : nat. s : nat -> nat. vec : nat -> Type.
abbrev with_vec : PlainSignature → PlainSignature
with_vec S = static star ∷ static (symbol 0) ∷ static (product (symbol 0) (symbol 0)) ∷ static (product (symbol 0) star) ∷ S

abbrev s : Tree → Tree
s t = apply (symbol 2) t

abbrev vec : Tree → Tree
vec t = apply (symbol 3) t

-- tail : n : nat -> vec (s n) -> vec n
abbrev tail_type : Tree
tail_type = product (symbol 0) (product (vec (s (variable 0))) (vec (variable 1)))

-- nil : vec z. cons : n : nat -> nat -> vec n -> vec (s n). def tail.
abbrev lists : PlainSignature
lists = with_vec (static (vec (symbol 1)) ∷ static (product (symbol 0) (product (symbol 0) (product (vec (variable 1)) (vec (s (variable 2)))))) ∷ definable tail_type ∷ [])

-- [n, m, x, v] tail n (cons m x v) --> v
abbrev tail_rule : PlainRule
tail_rule = rule_of 6 4 (v1 0 ∷ p3 5 (v1 1) (v1 2) (v1 3) ∷ []) [] (rule_variable 3)

pub tail_takes_30 : rule_checked lists tail_rule 30 ≡ answer tt 0
tail_takes_30 = refl

pub tail_ends : rule_checked lists tail_rule 29 ≡ ended
tail_ends = refl

-- def tail. [n] tail n nil --> nil
abbrev with_nil : PlainSignature
with_nil = with_vec (static (vec (symbol 1)) ∷ definable tail_type ∷ [])

abbrev nil_rule : PlainRule
nil_rule = rule_of 5 1 (v1 0 ∷ symbol_pattern 4 no_patterns ∷ []) [] (symbol 4)

pub nil_clashes : rule_checked with_nil nil_rule 15 ≡ refused E34 0
nil_clashes = refl

pub nil_ends : rule_checked with_nil nil_rule 14 ≡ ended
nil_ends = refl

-- def p : nat -> nat. c : n : nat -> vec (p n). d : n : nat -> vec n. def tail. [n, m] tail n (c m) --> d n
abbrev dropped_pair : PlainSignature
dropped_pair = with_vec (definable (product (symbol 0) (symbol 0)) ∷ static (product (symbol 0) (vec (apply (symbol 4) (variable 0)))) ∷ static (product (symbol 0) (vec (variable 0))) ∷ definable tail_type ∷ [])

abbrev dropped_rule : PlainRule
dropped_rule = rule_of 7 2 (v1 0 ∷ p1 5 (v1 1) ∷ []) [] (apply (symbol 6) (rule_variable 0))

pub dropped_takes_19 : rule_checked dropped_pair dropped_rule 19 ≡ answer tt 0
dropped_takes_19 = refl

pub dropped_ends : rule_checked dropped_pair dropped_rule 18 ≡ ended
dropped_ends = refl

-- [n, x, v] tail n (cons n x v) --> v: no equation is needed
pub same_takes_8 : rule_checked lists (rule_of 6 3 (v1 0 ∷ p3 5 (v1 0) (v1 1) (v1 2) ∷ []) [] (rule_variable 2)) 8 ≡ answer tt 0
same_takes_8 = refl

-- [x, v] tail _ (cons _ x v) --> v: wildcards are bound too
pub wildcards_take_30 : rule_checked lists (rule_of 6 2 (wildcard_pattern ∷ p3 5 wildcard_pattern (v1 0) (v1 1) ∷ []) [] (rule_variable 1)) 30 ≡ answer tt 0
wildcards_take_30 = refl

pub wildcards_end : rule_checked lists (rule_of 6 2 (wildcard_pattern ∷ p3 5 wildcard_pattern (v1 0) (v1 1) ∷ []) [] (rule_variable 1)) 29 ≡ ended
wildcards_end = refl

-- [n, x, v : vec z] tail n (cons z x v) --> v
pub noted_takes_32 : rule_checked lists (rule_of 6 3 (v1 0 ∷ p3 5 (symbol_pattern 1 no_patterns) (v1 1) (v1 2) ∷ []) (None ∷ None ∷ Some (vec (symbol 1)) ∷ []) (rule_variable 2)) 32 ≡ answer tt 0
noted_takes_32 = refl

-- def same : n : nat -> m : nat -> vec n -> vec m -> nat. [n, m, v] same n m v v --> n: a later occurrence
abbrev later_signature : PlainSignature
later_signature = with_vec (definable (product (symbol 0) (product (symbol 0) (product (vec (variable 1)) (product (vec (variable 1)) (symbol 0))))) ∷ [])

abbrev later_rule : PlainRule
later_rule = rule_of 4 3 (v1 0 ∷ v1 1 ∷ v1 2 ∷ v1 2 ∷ []) [] (rule_variable 0)

pub later_takes_18 : rule_checked later_signature later_rule 18 ≡ answer tt 0
later_takes_18 = refl

pub later_ends : rule_checked later_signature later_rule 17 ≡ ended
later_ends = refl

-- o : Type. c : (o -> o) -> Type. mk : f : (o -> o) -> c f. def g : c (x : o => x) -> o -> o. [f] g (mk f) --> f:
-- an abstraction in the right side, which is checked and not inferred
abbrev abstraction_bound : PlainSignature
abstraction_bound = static star ∷ static (product (product (symbol 0) (symbol 0)) star) ∷ static (product (product (symbol 0) (symbol 0)) (apply (symbol 1) (variable 0)))
    ∷ definable (product (apply (symbol 1) (bare (variable 0))) (product (symbol 0) (symbol 0))) ∷ []

pub abstraction_takes_17 : rule_checked abstraction_bound (rule_of 3 1 (p1 2 (v1 0) ∷ []) [] (rule_variable 0)) 17 ≡ answer tt 0
abstraction_takes_17 = refl

-- the same applied, [f, x] g (mk f) x --> f x, is a bare abstraction applied
pub abstraction_applied : rule_checked abstraction_bound (rule_of 3 2 (p1 2 (v1 0) ∷ v1 1 ∷ []) [] (apply (rule_variable 0) (rule_variable 1))) 100 ≡ refused E23 84
abstraction_applied = refl

-- def tail : n : nat -> vec (s n) -> nat -> vec n. [n, m, x, v] tail n (cons m x v) {m} --> v: a guard under the bindings
abbrev guarded : PlainSignature
guarded = with_vec (static (vec (symbol 1)) ∷ static (product (symbol 0) (product (symbol 0) (product (vec (variable 1)) (vec (s (variable 2))))))
    ∷ definable (product (symbol 0) (product (vec (s (variable 0))) (product (symbol 0) (vec (variable 2))))) ∷ [])

pub guard_takes_32 : rule_checked guarded (rule_of 6 4 (v1 0 ∷ p3 5 (v1 1) (v1 2) (v1 3) ∷ guard_pattern (rule_variable 1) ∷ []) [] (rule_variable 3)) 32 ≡ answer tt 0
guard_takes_32 = refl

-- fam : (nat -> nat) -> Type. mk : n : nat -> fam (x : nat => n). def g : fam (x : nat => x) -> nat. [m] g (mk m) --> z:
-- a rule variable isn't bound to a variable under a binder
abbrev under_binder : PlainSignature
under_binder = with_vec (static (product (product (symbol 0) (symbol 0)) star) ∷ static (product (symbol 0) (apply (symbol 4) (bare (variable 1)))) ∷ definable (product (apply (symbol 4) (bare (variable 0))) (symbol 0)) ∷ [])

pub binder_takes_27 : rule_checked under_binder (rule_of 6 1 (p1 5 (v1 0) ∷ []) [] (symbol 1)) 27 ≡ answer tt 0
binder_takes_27 = refl
