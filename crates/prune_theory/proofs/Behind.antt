-- The test for commands that stand behind what they mention tells just that.
use Rattle.std.proofs.Common.{ℕ, zero, suc, List, [], ◌∷◌, length, slice_get, slice_index_or, Contains, ◌≡◌, ◌<◌, ◌≤◌, ◌+◌, Bool, true, false, Some, refl, ap, sym, subst, map, ◌∙◌, arith, if◌then◌else◌}
use Rattle.std.specs.Prelude.{nat_lt, ◌↔◌}
use Rattle.std.proofs.lemmas.Bool.{ltb-true, lt-ltb}
use Rattle.dk_model.specs.PlainCommands.{PlainCommand}
use Rattle.prune_theory.specs.Mentions.{symbols_of, MentionBefore}
use Rattle.dk_model.specs.Scoping.{plain_command}
use Rattle.dk_model.specs.declared.scoped.Scoped.{Scoped}
use Rattle.prune_theory.specs.Before.{all_below, all_before}

-- a test with another behind it
then_true : (a b : Bool) → (if a then b else false) ≡ true → (a ≡ true) × (b ≡ true)
then_true true b e = (refl, e)
then_true false b e = absurd cc

true_then : (a b : Bool) → a ≡ true → b ≡ true → (if a then b else false) ≡ true
true_then true b e f = f
true_then false b e f = absurd cc

first_in : (k : ℕ) (ks : List ℕ) → Contains (k ∷ ks) k
first_in k ks = (0, omega arith, refl)

rest_in : (k : ℕ) (ks : List ℕ) (j : ℕ) → Contains ks j → Contains (k ∷ ks) j
rest_in k ks j m = (suc m.0, let l : m.0 < length ks = m.1 in omega arith, m.2)

below_all : (n : ℕ) (ks : List ℕ) → all_below n ks ≡ true → (j : ℕ) → Contains ks j → j < n
below_all n [] e j m = absurd (let l : m.0 < 0 = m.1 in omega arith)
below_all n (k ∷ ks) e j (zero, l, f) = subst (λ z. z < n) f (ltb-true k n (then_true (nat_lt k n) (all_below n ks) e).0)
below_all n (k ∷ ks) e j (suc i, l, f) = below_all n ks (then_true (nat_lt k n) (all_below n ks) e).1 j (i, omega arith, f)

all_below_is : (n : ℕ) (ks : List ℕ) → ((j : ℕ) → Contains ks j → j < n) → all_below n ks ≡ true
all_below_is n [] h = refl
all_below_is n (k ∷ ks) h = true_then (nat_lt k n) (all_below n ks) (lt-ltb k n (h k (first_in k ks))) (all_below_is n ks (λ j m. h j (rest_in k ks j m)))

before_all : (n : ℕ) (cs : List PlainCommand) → all_before n cs ≡ true → (i j : ℕ) (c : PlainCommand) → slice_get cs i ≡ Some c → Contains (symbols_of c) j → j < n + i
before_all n [] e i j c g m = absurd cc
before_all n (d ∷ cs) e zero j c g m = let l : j < n = below_all n (symbols_of d) (then_true (all_below n (symbols_of d)) (all_before (suc n) cs) e).0 j (subst (λ z. Contains (symbols_of z) j) (let r : c ≡ d = cc in r) m) in omega arith
before_all n (d ∷ cs) e (suc i) j c g m = let l : j < suc n + i = before_all (suc n) cs (then_true (all_below n (symbols_of d)) (all_before (suc n) cs) e).1 i j c g m in omega arith

all_before_is : (n : ℕ) (cs : List PlainCommand) → ((i j : ℕ) (c : PlainCommand) → slice_get cs i ≡ Some c → Contains (symbols_of c) j → j < n + i) → all_before n cs ≡ true
all_before_is n [] h = refl
all_before_is n (d ∷ cs) h = true_then (all_below n (symbols_of d)) (all_before (suc n) cs) (all_below_is n (symbols_of d) (λ j m. let l : j < n + 0 = h 0 j d refl m in omega arith))
    (all_before_is (suc n) cs (λ i j c g m. let l : j < n + suc i = h (suc i) j c g m in omega arith))

pub before_decides : (cs : List PlainCommand) (b : Bool) → all_before 0 cs ≡ b → (b ≡ true) ↔ MentionBefore cs
before_decides cs b e = (
  (λ f i j c g m. let l : j < 0 + i = before_all 0 cs (e ∙ f) i j c g m in omega arith),
  (λ h. sym e ∙ all_before_is 0 cs (λ i j c g m. let l : j < i = h i j c g m in omega arith)),
)

-- no command is left to look at
pub none_left : (n : ℕ) (rest cs : List Scoped) → length rest ≡ 0 → all_before n (map plain_command rest) ≡ all_before 0 (map plain_command cs) → (true ≡ true) ↔ MentionBefore (map plain_command cs)
none_left n [] cs l e = before_decides (map plain_command cs) true (sym e)
none_left n (x ∷ rest) cs l e = absurd (omega arith)

-- the next one mentions what doesn't stand before it
pub one_behind : (n : ℕ) (c : Scoped) (rest cs : List Scoped) → false ≡ all_below n (symbols_of (plain_command c)) → all_before n (map plain_command (c ∷ rest)) ≡ all_before 0 (map plain_command cs) → (false ≡ true) ↔ MentionBefore (map plain_command cs)
one_behind n c rest cs f e = before_decides (map plain_command cs) false (sym e ∙ ap (λ (b : Bool). if b then all_before (suc n) (map plain_command rest) else false) (sym f))
