-- For proofs: that what a reducer remembers is so, over one signature.
use Rattle.std.specs.Prelude.{◌≡◌, ℕ, ◌<◌, Option, Some, None, List, [], length, get_or, slice_get}
use Rattle.dk_model.specs.Trees.{Tree, star}
use Rattle.dk_model.specs.Signatures.{PlainRule, PlainSignature}
use Rattle.dk_model.specs.SymbolRules.{rules_of}
use Rattle.dk_model.specs.Taking.{Takes}
use Rattle.dk_model.specs.Evaluation.{whnf_of, comparison_of, normal_of}
use Rattle.shared_term.specs.declared.id.TermId.{TermId}
use Rattle.shared_term.specs.Pools.{Node, term, terms}
use Rattle.conversion.specs.declared.table.Table.{Table}
use Rattle.conversion.specs.declared.state.Value.{Value}
use Rattle.conversion.specs.declared.state.Answer.{Answer}
use Rattle.conversion.specs.declared.state.Head.{Head}
use Rattle.conversion.specs.declared.state.Head.TheVariants.{Stands, Unfolds}
use Rattle.conversion.specs.declared.state.PoolReducer.{PoolReducer}
use Rattle.conversion.specs.Tables.{Remembers}
use Rattle.conversion.specs.Trees.{AreTrees}

-- the right side of the rule at a place among those of a symbol
abbrev pub right_at : PlainSignature → ℕ → ℕ → Option Tree
right_at S k i = elim (slice_get (rules_of S k) i) [ None ↦ None | Some rule ↦ Some rule.right ]

-- the right side of a rule, in a pool
pub record IsLoaded (S : PlainSignature) (ns : List Node) (k i : ℕ) (id : TermId) : Type 0 where
  pub there : id.0 < length ns
  pub is : right_at S k i ≡ Some (term ns id)

pub record AreLoaded (S : PlainSignature) (ns : List Node) (t : Table TermId) : Type 0 where
  pub each : (k i : ℕ) (id : TermId) → Remembers t k i id → IsLoaded S ns k i id

-- a body as a rule of its symbol
abbrev pub unfolding_rule : ℕ → Tree → PlainRule
unfolding_rule k b = record { head = k; vars = 0; pats = []; notes = []; right = b }

-- a symbol without rules, or with a body in a pool
abbrev pub IsHead : PlainSignature → List Node → ℕ → Head → Type 0
IsHead S ns k Stands = slice_get (rules_of S k) 0 ≡ None
IsHead S ns k (Unfolds b) = (b.0 < length ns) × (slice_get (rules_of S k) 0 ≡ Some (unfolding_rule k (term ns b)))

pub record AreHeads (S : PlainSignature) (ns : List Node) (t : Table Head) : Type 0 where
  pub each : (k j : ℕ) (h : Head) → Remembers t k j h → IsHead S ns k h

-- the weak head form of the term at a place, and the units that it takes
pub record IsValue (S : PlainSignature) (ns : List Node) (i : ℕ) (v : Value) : Type 0 where
  pub of : i < length ns
  pub gives : v.id.0 < length ns
  pub takes : Takes (λ n. whnf_of S n (get_or (terms ns) i star)) (term ns v.id) v.units

pub record AreValues (S : PlainSignature) (ns : List Node) (t : Table Value) : Type 0 where
  pub each : (i j : ℕ) (v : Value) → Remembers t i j v → IsValue S ns i v

-- the normal form of the term at a place, and the units that it takes
pub record IsNormal (S : PlainSignature) (ns : List Node) (i : ℕ) (v : Value) : Type 0 where
  pub of : i < length ns
  pub gives : v.id.0 < length ns
  pub takes : Takes (λ n. normal_of S n (get_or (terms ns) i star)) (term ns v.id) v.units

pub record AreNormals (S : PlainSignature) (ns : List Node) (t : Table Value) : Type 0 where
  pub each : (i j : ℕ) (v : Value) → Remembers t i j v → IsNormal S ns i v

-- whether the terms at two places are convertible, and the units that this takes
pub record IsAnswer (S : PlainSignature) (ns : List Node) (i j : ℕ) (a : Answer) : Type 0 where
  pub of : i < length ns
  pub of_other : j < length ns
  pub takes : Takes (λ n. comparison_of S n (get_or (terms ns) i star) (get_or (terms ns) j star)) a.alike a.units

pub record AreAnswers (S : PlainSignature) (ns : List Node) (t : Table Answer) : Type 0 where
  pub each : (i j : ℕ) (a : Answer) → Remembers t i j a → IsAnswer S ns i j a

-- what the reducer remembers is so over this signature
pub record Serves (S : PlainSignature) (r : PoolReducer) : Type 0 where
  pub loaded : AreLoaded S r.pool r.loaded
  pub heads : AreHeads S r.pool r.heads
  pub values : AreValues S r.pool r.values
  pub normals : AreNormals S r.pool r.normals
  pub answers : AreAnswers S r.pool r.answers
  pub trees : AreTrees S r.trees
