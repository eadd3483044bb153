-- For proofs: bindings whose terms mention rule variables that were bound behind them.
use Rattle.std.specs.Prelude.{ℕ, zero, suc, ◌<◌, ◌≤◌, Bool, true, ◌≡◌, ◌⊎◌, List, [], ◌∷◌, Option, Some, None, map, length, Vec}
use Rattle.std.specs.declared.alloc.Global.{Global}
use Rattle.dk_model.specs.Trees.{Tree, star, kind, symbol, variable, rule_variable, apply, bare, annotated, product}
use Rattle.dk_model.specs.Bounds.{IsClosedAt}
use Rattle.dk_model.specs.Captures.{capture_at}
use Rattle.dk_model.specs.Bindings.{Bindings, under, with_binding, mentions_rule_variable}

-- a term with the bindings put into it as often
abbrev pub rounds : Bindings → ℕ → Tree → Tree
rounds s zero t = t
rounds s (suc n) t = under s (rounds s n t)

abbrev pub option_rounds : Bindings → ℕ → Option Tree → Option Tree
option_rounds s n None = None
option_rounds s n (Some t) = Some (rounds s n t)

-- the bindings put into each of them as often
abbrev pub resolved : ℕ → Bindings → Bindings
resolved n s = map (option_rounds s n) s

-- how many levels stand behind the first
abbrev pub behind_first : {A : Type 0} → List A → ℕ
behind_first [] = zero
behind_first (l ∷ ls) = length ls

-- the term mentions no rule variable that is bound
abbrev pub IsFree : Bindings → Tree → Type 0
IsFree s star = Unit {0}
IsFree s kind = Unit {0}
IsFree s (symbol k) = Unit {0}
IsFree s (variable k) = Unit {0}
IsFree s (rule_variable k) = capture_at s k ≡ None
IsFree s (apply f a) = IsFree s f × IsFree s a
IsFree s (bare b) = IsFree s b
IsFree s (annotated n b) = IsFree s n × IsFree s b
IsFree s (product a b) = IsFree s a × IsFree s b

-- the bindings put into what a rule variable is bound to
abbrev pub with_rounds : Bindings → ℕ → Option Tree → Bindings
with_rounds s k None = s
with_rounds s k (Some u) = with_binding s k (under s u)

abbrev pub put_into : Bindings → ℕ → Bindings
put_into s k = with_rounds s k (capture_at s k)

-- the same for each of these, one after the other
abbrev pub put_into_each : Bindings → List ℕ → Bindings
put_into_each s [] = s
put_into_each s (k ∷ ks) = put_into_each (put_into s k) ks

-- whether the number is one of these
abbrev pub Has : List ℕ → ℕ → Type 0
Has [] k = ⊥
Has (j ∷ js) k = (j ≡ k) ⊎ Has js k

-- the numbers of a level, if there is one
abbrev pub numbers_of : Option (Vec ℕ Global) → List ℕ
numbers_of None = []
numbers_of (Some l) = l.items

-- whether the number is in the level that so many stand behind
abbrev pub IsAt : List (Vec ℕ Global) → ℕ → ℕ → Type 0
IsAt [] k n = ⊥
IsAt (l ∷ ls) k n = (Has l.items k × (n ≡ length ls)) ⊎ IsAt ls k n

-- what is bound mentions only such bound rule variables as rank lower
abbrev pub IsRanked : (ℕ → ℕ) → Bindings → Type 0
IsRanked rank s = (v k : ℕ) (u w : Tree) → capture_at s k ≡ Some u → mentions_rule_variable v u ≡ true → capture_at s v ≡ Some w → rank v < rank k

-- bindings of which each stands in the level of its rank
pub record AreLevelled (f : ℕ → Bool) (ls : List (Vec ℕ Global)) (s : Bindings) : Type 0 where
  pub rank : ℕ → ℕ
  pub ranked : IsRanked rank s
  pub levelled : (k : ℕ) (u : Tree) → capture_at s k ≡ Some u → IsAt ls k (rank k)
  pub closed : (k : ℕ) (u : Tree) → capture_at s k ≡ Some u → IsClosedAt 0 u
  pub covered : (j k : ℕ) (u : Tree) → capture_at s k ≡ Some u → mentions_rule_variable j u ≡ true → f j ≡ true

-- the number is put into the last level
pub record IsPlaced (ls : List (Vec ℕ Global)) (k : ℕ) (ms : List (Vec ℕ Global)) : Type 0 where
  pub kept : (j n : ℕ) → IsAt ls j n → IsAt ms j n
  pub placed : IsAt ms k 0

abbrev pub lowered : ℕ → ℕ
lowered zero = zero
lowered (suc n) = n

-- the last two levels are joined
pub record IsJoined (ls ms : List (Vec ℕ Global)) : Type 0 where
  pub kept : (j n : ℕ) → IsAt ls j n → IsAt ms j (lowered n)
  pub fewer : 2 ≤ length ls → length ms < length ls

-- the level before the last
pub record IsBeforeLast (ls : List (Vec ℕ Global)) (js : List ℕ) : Type 0 where
  pub there : (j : ℕ) → IsAt ls j 1 → Has js j
  pub two : 2 ≤ length ls
