-- For proofs: one equation of those that are left, by evaluation with units and by steps.
use Rattle.std.specs.Prelude.{ℕ, Option, [], if◌then◌else◌}
use Rattle.dk_model.specs.PlainTerms.{Tree}
use Rattle.dk_model.specs.PlainEntries.{PlainSignature}
use Rattle.dk_model.specs.Bindings.{Bindings, under, bound}
use Rattle.dk_model.specs.Evaluation.{whnf_of, comparison_of}
use Rattle.dk_model.specs.Solving.{Equation, binds, parts, clash, nothing, equation_of}
use Rattle.dk_model.specs.TypingOver.{JudgedIn, answer, refused, after}
use Rattle.dk_model.specs.declared.code.Code.TheVariants.{E34}
use Rattle.checked_steps.specs.Items.{ItemWord, ItemSteps}
use Rattle.checked_steps.specs.Taken.{Solved, and_then, steps_taken, word_taken}

-- the bindings after an equation of two weak head forms, and the equations that stand in its place
abbrev pub replaced : Bindings → Equation → ℕ → JudgedIn ℕ Solved
replaced s (binds k u) n = answer (bound s k u, []) n
replaced s (parts ps) n = answer (s, ps) n
replaced s clash n = refused E34 n
replaced s nothing n = answer (s, []) n

module _ (S : PlainSignature) where
  -- the same of two terms under the bindings
  abbrev pub by_heads : Bindings → Tree → Tree → ℕ → JudgedIn ℕ Solved
  by_heads s t u n = after (whnf_of S n t) (λ v m. after (whnf_of S m u) (λ w i. replaced s (equation_of S (under s v) (under s w)) i))

  -- the same of two terms that may be convertible under the bindings
  abbrev pub one_solved : Bindings → Tree → Tree → ℕ → JudgedIn ℕ Solved
  one_solved s t u n = after (comparison_of S n (under s t) (under s u)) (λ same m. if same then answer (s, []) m else by_heads s (under s t) (under s u) m)

  -- the equation of two sides that are under the bindings, by their steps
  abbrev pub sides_taken : ItemWord → ItemSteps → ItemSteps → Bindings → Tree → Tree → Option Solved
  sides_taken x xs ys s t u = and_then (steps_taken S xs t) (λ v. and_then (steps_taken S ys u) (λ w. word_taken S x s (under s v) (under s w)))
