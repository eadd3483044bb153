-- Trusted: what steps and equations give: substitution, instances and single steps, and no strategy (docs/certificates.md).
use Rattle.std.specs.Prelude.{ℕ, Option, Some, None, Bool, true, false, ◌&&◌, if◌then◌else◌, List, [], ◌∷◌, slice_get}
use Rattle.dk_model.specs.PlainTerms.{Tree, apply, bare}
use Rattle.dk_model.specs.Substitution.{substitute, equal}
use Rattle.dk_model.specs.PlainEntries.{PlainRule, PlainSignature}
use Rattle.dk_model.specs.Spines.{arguments, head_symbol}
use Rattle.dk_model.specs.SymbolRules.{rules_of}
use Rattle.dk_model.specs.Bindings.{Bindings, under, bound}
use Rattle.dk_model.specs.Solving.{Equation, binds, parts, nothing, binder_of, equation_of}
use Rattle.dk_model.specs.RuleTypingOver.{patterns_of}
use Rattle.typing_model.specs.Steps.{Part, capture, instantiated}
use Rattle.checked_steps.specs.Matching.{all_matched, to_join, at_place}
use Rattle.checked_steps.specs.Items.{ItemStep, beta_step, rule_step, ItemSteps, no_steps, more_steps, ItemJoins, no_joins, more_joins, ItemWord, same_now, left_bound, right_bound, in_parts, let_go}

abbrev pub and_then : {A B : Type 0} → Option A → (A → Option B) → Option B
and_then None g = None
and_then (Some a) g = g a

-- whether both are terms, and the same one letter by letter
abbrev pub both_same : Option Tree → Option Tree → Bool
both_same (Some t) (Some u) = equal t u
both_same None o = false
both_same (Some t) None = false

-- beta at the root
abbrev pub contracted : Tree → Option Tree
contracted (apply (bare b) a) = Some (substitute 0 a b)
contracted t = None

-- the right side of a rule with these parts, where `met` says that their conditions are joined
abbrev pub fired_with : (List (Tree × Tree) → Bool) → PlainRule → List Part → Option Tree
fired_with met r ps = if met (to_join ps) then Some (instantiated (capture ps) 0 r.right) else None

-- the rule of this number of the symbol at the head, at the root: its patterns match all arguments
abbrev pub fired : PlainSignature → ℕ → (List (Tree × Tree) → Bool) → Tree → Option Tree
fired S number met t = and_then (head_symbol t) (λ k. and_then (slice_get (rules_of S k) number) (λ r. and_then (all_matched 0 (patterns_of r.pats) (arguments t)) (fired_with met r)))

-- ---- equations

-- the bindings after an equation, and the equations that stand in its place
abbrev pub Solved : Type 0
Solved = Bindings × List (Tree × Tree)

abbrev pub if_same : Bindings → Tree → Tree → Option Solved
if_same s v w = if equal v w then Some (s, []) else None

abbrev pub if_bound : Bindings → Equation → Option Solved
if_bound s (binds k x) = Some (bound s k x, [])
if_bound s e = None

abbrev pub if_parts : Bindings → Equation → Option Solved
if_parts s (parts ps) = Some (s, ps)
if_parts s e = None

abbrev pub if_nothing : Bindings → Equation → Option Solved
if_nothing s nothing = Some (s, [])
if_nothing s e = None

-- whether the left side is a rule variable that may be bound to the right one
abbrev pub is_left : Tree → Tree → Bool
is_left v w = elim (binder_of v w) [ None ↦ false | Some k ↦ true ]

module _ (S : PlainSignature) where
  abbrev mutual
    -- the term after a step; None where the step can't be taken
    pub step_taken : ItemStep → Tree → Option Tree
    step_taken (beta_step place) t = at_place contracted place t
    step_taken (rule_step place number js) t = at_place (fired S number (all_joined js)) place t

    pub steps_taken : ItemSteps → Tree → Option Tree
    steps_taken no_steps t = Some t
    steps_taken (more_steps x xs) t = and_then (step_taken x t) (steps_taken xs)

    -- each pair, in order, is joined by its steps
    pub all_joined : ItemJoins → List (Tree × Tree) → Bool
    all_joined no_joins [] = true
    all_joined no_joins (c ∷ cs) = false
    all_joined (more_joins xs ys js) [] = false
    all_joined (more_joins xs ys js) (c ∷ cs) = both_same (steps_taken xs c.0) (steps_taken ys c.1) && all_joined js cs

  -- by this word, of the equation of v and w; a right side is bound where the left one may not be
  abbrev pub word_taken : ItemWord → Bindings → Tree → Tree → Option Solved
  word_taken same_now s v w = if_same s v w
  word_taken left_bound s v w = if is_left v w then if_bound s (equation_of S v w) else None
  word_taken right_bound s v w = if is_left v w then None else if_bound s (equation_of S v w)
  word_taken in_parts s v w = if_parts s (equation_of S v w)
  word_taken let_go s v w = if_nothing s (equation_of S v w)

  -- the equation of t and u: both sides under the bindings take their steps, and are taken under the bindings again
  abbrev pub equation_taken : ItemWord → ItemSteps → ItemSteps → Bindings → Tree → Tree → Option Solved
  equation_taken w xs ys s t u =
      and_then (steps_taken xs (under s t)) (λ a. and_then (steps_taken ys (under s u)) (λ b. word_taken w s (under s a) (under s b)))
