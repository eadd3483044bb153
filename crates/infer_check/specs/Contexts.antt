-- For callers: a context as trees, and that its types are a reducer's.
use Rattle.std.specs.Prelude.{List, [], ◌∷◌, ◌++◌, map}
use Rattle.dk_model.specs.Trees.{Tree}
use Rattle.signature_log.specs.Reducers.{AreOwned}
use Rattle.infer_check.specs.declared.context.Context.{Context}

-- the context with one more variable, of this type
abbrev pub with_bound : {T : Type 0} → Context T → T → Context T
with_bound c t = record { rule_vars = c.rule_vars; bound = c.bound ++ t ∷ [] }

-- the terms that a list's last to first stand for
abbrev pub innermost_first : {R T : Type 0} → (R → T → Tree) → R → List T → List Tree
innermost_first denotes r [] = []
innermost_first denotes r (t ∷ ts) = innermost_first denotes r ts ++ denotes r t ∷ []

-- the types of the rule variables
abbrev pub rule_types : {R T : Type 0} → (R → T → Tree) → R → Context T → List Tree
rule_types denotes r c = map (denotes r) c.rule_vars

-- the types of the bound variables, the innermost first
abbrev pub bound_types : {R T : Type 0} → (R → T → Tree) → R → Context T → List Tree
bound_types denotes r c = innermost_first denotes r c.bound

-- that the types of a context are the reducer's
pub record OwnsContext {R T : Type 0} (owns : R → T → Type 0) (r : R) (c : Context T) : Type 0 where
  pub rule_vars : AreOwned owns r c.rule_vars
  pub bound : AreOwned owns r c.bound
