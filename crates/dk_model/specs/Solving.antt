-- Trusted: the equation of two types is solved by binding rule variables, with its units (docs/typing.md).
use Rattle.std.specs.Prelude.{ℕ, zero, suc, Option, Some, None, Bool, true, false, ◌&&◌, not, if◌then◌else◌, List, [], ◌∷◌}
use Rattle.dk_model.specs.PlainTerms.{Tree, star, kind, symbol, variable, rule_variable, apply, bare, annotated, product}
use Rattle.dk_model.specs.PlainEntries.{PlainSignature}
use Rattle.dk_model.specs.Spines.{head, pairs_of}
use Rattle.dk_model.specs.Shapes.{is_definable}
use Rattle.dk_model.specs.Evaluation.{whnf_of, comparison_of}
use Rattle.dk_model.specs.Bindings.{Bindings, under, bound, may_bind}
use Rattle.dk_model.specs.TypingOver.{JudgedIn, answer, refused, ended, after, next}
use Rattle.dk_model.specs.declared.code.Code.TheVariants.{E34}

-- the bindings once an equation is solved, from those before, its two sides and the units that may be spent
abbrev pub Solver : Type 0
Solver = Bindings → Tree → Tree → ℕ → JudgedIn ℕ Bindings

-- a head whose parts are equal where the terms are: a static symbol, a theorem, a bound variable, a product, an abstraction
abbrev pub has_parts : PlainSignature → Tree → Bool
has_parts S (symbol k) = not (is_definable S k)
has_parts S (variable k) = true
has_parts S (product a b) = true
has_parts S (bare b) = true
has_parts S t = false

-- a head that no reduction and no binding changes
abbrev pub is_rigid_head : PlainSignature → Tree → Bool
is_rigid_head S star = true
is_rigid_head S kind = true
is_rigid_head S t = has_parts S t

-- the rule variable that the term is, where it may be bound to the other
abbrev pub binder_of : Tree → Tree → Option ℕ
binder_of (rule_variable k) u = if may_bind k u then Some k else None
binder_of t u = None

-- the parts of two terms with the same rigid head and as many arguments
abbrev pub rigid_parts : PlainSignature → Tree → Tree → Option (List (Tree × Tree))
rigid_parts S t u = if has_parts S (head t) then pairs_of t u else None

-- what an equation of two weak head forms is: a binding, the equations of their parts, a fault, or nothing
pub data Equation : Type 0 where
  binds : ℕ → Tree → Equation
  parts : List (Tree × Tree) → Equation
  clash : Equation
  nothing : Equation

-- of two heads that aren't one, or have other arguments
abbrev pub heads_apart : Bool → Equation
heads_apart true = clash
heads_apart false = nothing

abbrev pub parts_or : Equation → Option (List (Tree × Tree)) → Equation
parts_or e None = e
parts_or e (Some ps) = parts ps

abbrev pub binds_or : Equation → Tree → Option ℕ → Equation
binds_or e u None = e
binds_or e u (Some k) = binds k u

-- the left rule variable is bound where both may be
abbrev pub equation_of : PlainSignature → Tree → Tree → Equation
equation_of S t u = binds_or (binds_or (parts_or (heads_apart (is_rigid_head S (head t) && is_rigid_head S (head u))) (rigid_parts S t u)) t (binder_of u t)) u (binder_of t u)

-- each pair by `Q`, from left to right
abbrev pub each_solved : Solver → List (Tree × Tree) → Bindings → ℕ → JudgedIn ℕ Bindings
each_solved Q [] s n = answer s n
each_solved Q (p ∷ ps) s n = next (Q s p.0 p.1 n) (λ r m. each_solved Q ps r m)

abbrev pub equation_solved : Solver → Bindings → Equation → ℕ → JudgedIn ℕ Bindings
equation_solved Q s (binds k u) n = answer (bound s k u) n
equation_solved Q s (parts ps) n = each_solved Q ps s n
equation_solved Q s clash n = refused E34 n
equation_solved Q s nothing n = answer s n

-- the weak head forms of two terms under the bindings, under these again
abbrev pub heads_solved : PlainSignature → Solver → Solver
heads_solved S Q s t u n = after (whnf_of S n (under s t)) (λ v m. after (whnf_of S m (under s u)) (λ w i. equation_solved Q s (equation_of S (under s v) (under s w)) i))

abbrev pub unless_same : JudgedIn ℕ Bindings → Bindings → Bool → ℕ → JudgedIn ℕ Bindings
unless_same x s true n = answer s n
unless_same x s false n = x

-- convertible under the bindings, or solved by the weak head forms; the fuel bounds the nesting, and is enough where it is
-- the number of units, since each comparison takes one
abbrev pub solved_with : ℕ → PlainSignature → Solver
solved_with zero S s t u n = ended
solved_with (suc f) S s t u n = after (comparison_of S n (under s t) (under s u)) (λ same m. unless_same (heads_solved S (solved_with f S) s t u m) s same m)

abbrev pub solved : PlainSignature → Solver
solved S s t u n = solved_with n S s t u n
