-- For proofs: the node of a number, and a term with another node there: what acts at a place, in two steps.
use Rattle.std.specs.Prelude.{ℕ, ◌-◌, Option, Some, None, if◌then◌else◌, eqb, nat_lt}
use Rattle.dk_model.specs.PlainTerms.{Tree, apply, bare, annotated, product}
use Rattle.checked_steps.specs.Matching.{nodes}

-- the node of this number
abbrev pub node_at : ℕ → Tree → Option Tree
node_at p (apply f a) = if eqb p 0 then Some (apply f a) else (if nat_lt (p - 1) (nodes f) then node_at (p - 1) f else node_at ((p - 1) - nodes f) a)
node_at p (bare b) = if eqb p 0 then Some (bare b) else node_at (p - 1) b
node_at p (annotated n b) = if eqb p 0 then Some (annotated n b) else (if nat_lt (p - 1) (nodes n) then node_at (p - 1) n else node_at ((p - 1) - nodes n) b)
node_at p (product a b) = if eqb p 0 then Some (product a b) else (if nat_lt (p - 1) (nodes a) then node_at (p - 1) a else node_at ((p - 1) - nodes a) b)
node_at p t = if eqb p 0 then Some t else None

-- the term with u in the place of the node of this number
abbrev pub with_node : ℕ → Tree → Tree → Tree
with_node p (apply f a) u = if eqb p 0 then u else (if nat_lt (p - 1) (nodes f) then apply (with_node (p - 1) f u) a else apply f (with_node ((p - 1) - nodes f) a u))
with_node p (bare b) u = if eqb p 0 then u else bare (with_node (p - 1) b u)
with_node p (annotated n b) u = if eqb p 0 then u else (if nat_lt (p - 1) (nodes n) then annotated (with_node (p - 1) n u) b else annotated n (with_node ((p - 1) - nodes n) b u))
with_node p (product a b) u = if eqb p 0 then u else (if nat_lt (p - 1) (nodes a) then product (with_node (p - 1) a u) b else product a (with_node ((p - 1) - nodes a) b u))
with_node p t u = if eqb p 0 then u else t
