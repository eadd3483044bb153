-- For callers: what a walk makes of a term: each change is a function of trees, by the number of binders above.
use Rattle.std.specs.Prelude.{ℕ, ◌+◌, ◌<◌, List, [], ◌∷◌, length, map, eqb, slice_get, Option, Some, None, Bool, nat_lt, not, ◌&&◌, ◌-◌, if◌then◌else◌}
use Rattle.dk_model.specs.Trees.{Tree, apply, annotated, product, variable, bare}
use Rattle.dk_model.specs.Substitution.{shift, substitute}
use Rattle.dk_model.specs.Erasure.{erased}
use Rattle.dk_model.specs.Captures.{filled, renamed, is_in}
use Rattle.dk_model.specs.declared.NodeOf.TheVariants.{App, Abs, Prod}
use Rattle.shared_term.specs.declared.id.TermId.{TermId}
use Rattle.shared_term.specs.declared.change.Change.{Change}
use Rattle.shared_term.specs.declared.change.Change.TheVariants.{Shift, Substitute, SubstituteAll, Erase, Fill, Rename, Raise}
use Rattle.shared_term.specs.declared.change.Goal.{Goal}
use Rattle.shared_term.specs.declared.change.Given.{Given}
use Rattle.shared_term.specs.declared.change.Pair.{Pair}
use Rattle.shared_term.specs.declared.change.Pair.TheVariants.{Application, Abstraction, Product}
use Rattle.shared_term.specs.Pools.{Node, term}

-- the terms of captures
abbrev pub captured_terms : List Node → List (Option TermId) → List (Option Tree)
captured_terms ns [] = []
captured_terms ns (None ∷ cs) = None ∷ captured_terms ns cs
captured_terms ns (Some i ∷ cs) = Some (term ns i) ∷ captured_terms ns cs

-- each capture is a term of the pool
abbrev pub AreCaptures : ℕ → List (Option TermId) → Type 0
AreCaptures n [] = Unit {0}
AreCaptures n (None ∷ cs) = AreCaptures n cs
AreCaptures n (Some i ∷ cs) = (i.0 < n) × AreCaptures n cs

-- the capture of a rule variable
abbrev pub capture_id : List (Option TermId) → ℕ → Option TermId
capture_id cs k = elim (slice_get cs k) [ None ↦ None | Some o ↦ o ]

-- whether the variable under `u` binders is one of the `d` that the pattern binds, and no argument
abbrev pub is_other : ℕ → ℕ → List ℕ → ℕ → Bool
is_other u d xs k = (not (nat_lt k u) && nat_lt (k - u) d) && not (is_in (k - u) xs)

-- the term with each such variable one more: another term exactly where there is one
abbrev pub others_raised : ℕ → ℕ → List ℕ → Tree → Tree
others_raised u d xs (variable k) = variable (if is_other u d xs k then k + 1 else k)
others_raised u d xs (apply f a) = apply (others_raised u d xs f) (others_raised u d xs a)
others_raised u d xs (bare b) = bare (others_raised (u + 1) d xs b)
others_raised u d xs (annotated n b) = annotated (others_raised u d xs n) (others_raised (u + 1) d xs b)
others_raised u d xs (product a b) = product (others_raised u d xs a) (others_raised (u + 1) d xs b)
others_raised u d xs t = t

-- what stands so many before the last one of a list
abbrev pub from_last : {T : Type 0} → List T → ℕ → Option T
from_last [] k = None
from_last (x ∷ xs) k = if eqb k (length xs) then Some x else from_last xs k

-- a variable under `d` binders, where these take the place of as many variables, the last one that of variable `d`
abbrev pub all_substituted_variable : ℕ → List Tree → ℕ → Tree
all_substituted_variable d us k =
    if nat_lt k d then variable k else elim (from_last us (k - d)) as (λ _. Tree) [ None ↦ variable (k - length us) | Some u ↦ shift 0 d u ]

-- several terms in the place of variables, all at once, the last one in that of variable `d`
abbrev pub substitute_all : ℕ → List Tree → Tree → Tree
substitute_all d us (variable k) = all_substituted_variable d us k
substitute_all d us (apply f a) = apply (substitute_all d us f) (substitute_all d us a)
substitute_all d us (bare b) = bare (substitute_all (d + 1) us b)
substitute_all d us (annotated n b) = annotated (substitute_all d us n) (substitute_all (d + 1) us b)
substitute_all d us (product a b) = product (substitute_all d us a) (substitute_all (d + 1) us b)
substitute_all d us t = t

-- each is a term of the pool
abbrev pub AreTerms : ℕ → List TermId → Type 0
AreTerms n [] = Unit {0}
AreTerms n (u ∷ us) = (u.0 < n) × AreTerms n us

-- what becomes of a tree that stands under `d` binders
abbrev pub changed : List Node → Given → Change → ℕ → Tree → Tree
changed ns g (Shift by) d t = shift d by t
changed ns g (Substitute u) d t = substitute d (term ns u) t
changed ns g SubstituteAll d t = substitute_all d (map (term ns) g.terms.now) t
changed ns g Erase d t = erased t
changed ns g Fill d t = filled (captured_terms ns g.captures.now) d t
changed ns g Rename d t = renamed d g.bound g.arguments.now t
changed ns g Raise d t = others_raised d g.bound g.arguments.now t

-- the terms that the change looks up are in the pool
abbrev pub IsKnown : ℕ → Given → Change → Type 0
IsKnown n g (Substitute u) = u.0 < n
IsKnown n g SubstituteAll = AreTerms n g.terms.now
IsKnown n g Fill = AreCaptures n g.captures.now
IsKnown n g c = Unit {0}

-- the change looks nothing up but by a term of the pool, so its results stay right from call to call
abbrev pub IsLasting : Change → Type 0
IsLasting SubstituteAll = ⊥
IsLasting Fill = ⊥
IsLasting Rename = ⊥
IsLasting Raise = ⊥
IsLasting c = Unit {0}

abbrev pub IsErase : Change → Type 0
IsErase Erase = Unit {0}
IsErase c = ⊥

-- the goal can be asked for
abbrev pub IsAsked : ℕ → Given → Goal → Type 0
IsAsked n g goal = (goal.id.0 < n) × IsKnown n g goal.change

-- the tree that the goal asks for
abbrev pub wanted : List Node → Given → Goal → Tree
wanted ns g goal = changed ns g goal.change goal.depth (term ns goal.id)

-- a tree of two parts
abbrev pub joined : Pair → Tree → Tree → Tree
joined Application x y = apply x y
joined Abstraction x y = annotated x y
joined Product x y = product x y

abbrev pub joined_node : Pair → TermId → TermId → Node
joined_node Application x y = App x y
joined_node Abstraction x y = Abs (Some x) y
joined_node Product x y = Prod x y

-- how many binders the second part stands under
abbrev pub under : Pair → ℕ → ℕ
under Application d = d
under Abstraction d = d + 1
under Product d = d + 1

abbrev pub part : Goal → TermId → ℕ → Goal
part goal id depth = record { change = goal.change; id = id; depth = depth }
