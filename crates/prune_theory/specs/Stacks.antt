-- For proofs: a term or a left side as a head beside a stack of its arguments, of which the first one lies on top.
use Rattle.std.specs.Prelude.{ℕ, ◌+◌, List, [], ◌∷◌, ◌++◌, map}
use Rattle.std.specs.Borrow.{Bor}
use Rattle.dk_model.specs.PlainTerms.{Tree}
use Rattle.dk_model.specs.PlainCommands.{PlainLeft, left_symbol, left_guard, left_abstraction, left_apply}
use Rattle.dk_model.specs.Scoping.{plain_left}
use Rattle.dk_model.specs.declared.scoped.Left.{Left}
use Rattle.prune_theory.specs.Mentions.{term_symbols, left_symbols}

-- the symbols of the terms of a stack, from the top
abbrev pub stack_symbols : List Tree → List ℕ
stack_symbols [] = []
stack_symbols (t ∷ ts) = stack_symbols ts ++ term_symbols t

abbrev pub left_stack_symbols : List PlainLeft → List ℕ
left_stack_symbols [] = []
left_stack_symbols (l ∷ ls) = left_stack_symbols ls ++ left_symbols l

-- the head applied to the arguments of a stack, whose last item is the first argument
abbrev pub left_wound : PlainLeft → List PlainLeft → PlainLeft
left_wound h [] = h
left_wound h (l ∷ ls) = left_apply (left_wound h ls) l

-- how many nodes a left side has, a guard counting as one
abbrev pub left_size : PlainLeft → ℕ
left_size (left_abstraction l) = left_size l + 1
left_size (left_apply f a) = left_size f + left_size a + 1
left_size l = 1

abbrev pub left_total : List PlainLeft → ℕ
left_total [] = 0
left_total (l ∷ ls) = left_size l + left_total ls

-- the left sides behind references
abbrev pub lefts_behind : List (Bor Left) → List PlainLeft
lefts_behind ls = map (λ l. plain_left l.now) ls
