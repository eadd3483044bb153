-- Trusted: the items of a certificate as plain data (docs/certificates.md). The counts that its text has are lengths here.
use Rattle.std.specs.Prelude.{ℕ}

mutual
  -- a step at the node of this number: beta; or a rule of the symbol there, by its number among these, with what joins its
  -- conditions
  pub data ItemStep : Type 0 where
    beta_step : ℕ → ItemStep
    rule_step : ℕ → ℕ → ItemJoins → ItemStep

  pub data ItemSteps : Type 0 where
    no_steps : ItemSteps
    more_steps : ItemStep → ItemSteps → ItemSteps

  -- for each condition the steps of its two sides, to one term
  pub data ItemJoins : Type 0 where
    no_joins : ItemJoins
    more_joins : ItemSteps → ItemSteps → ItemJoins → ItemJoins

-- how an equation is solved, after steps of both sides: they are the same now, the left or the right one is bound, it is solved
-- in its parts, each by a later item, or it is dropped
pub data ItemWord : Type 0 where
  same_now : ItemWord
  left_bound : ItemWord
  right_bound : ItemWord
  in_parts : ItemWord
  let_go : ItemWord

-- an item stands for one evaluation that typing asks for: a form of a term, or that two terms are the same; or for one equation,
-- of two types or of two parts
pub data Item : Type 0 where
  reduction : ItemSteps → Item
  joining : ItemSteps → ItemSteps → Item
  equation : ItemWord → ItemSteps → ItemSteps → Item
