-- For callers: the left sides of a symbol's rules, as the code holds them.
use Rattle.std.specs.Prelude.{ℕ, ◌≡◌, List, [], ◌∷◌, map, length, max}
use Rattle.dk_model.specs.Signatures.{PlainRule}
use Rattle.dk_model.specs.Matrix.{cell}
use Rattle.rule_match.specs.declared.side.Side.{Side}
use Rattle.rule_match.specs.declared.walk.LeftSide.{LeftSide}
use Rattle.rule_match.specs.Rows.{kept_cell, pattern_cell}

-- the left side of this rule
pub record IsSide (r : PlainRule) (s : Side) : Type 0 where
  pub patterns : map kept_cell s.patterns.items ≡ map cell r.pats
  pub vars : s.vars ≡ r.vars

-- those of these rules, in order
abbrev pub AreSides : List PlainRule → List Side → Type 0
AreSides [] [] = Unit {0}
AreSides [] (s ∷ ss) = ⊥
AreSides (r ∷ rs) [] = ⊥
AreSides (r ∷ rs) (s ∷ ss) = IsSide r s × AreSides rs ss

-- the greatest number of patterns
abbrev pub widest : List PlainRule → ℕ
widest [] = 0
widest (r ∷ rs) = max (length r.pats) (widest rs)

-- the left side of this rule, where it stands
pub record IsLeftSide (r : PlainRule) (s : LeftSide) : Type 0 where
  pub patterns : map pattern_cell s.patterns.now ≡ map cell r.pats
  pub vars : s.vars ≡ r.vars

-- those of these rules, in order
abbrev pub AreLeftSides : List PlainRule → List LeftSide → Type 0
AreLeftSides [] [] = Unit {0}
AreLeftSides [] (s ∷ ss) = ⊥
AreLeftSides (r ∷ rs) [] = ⊥
AreLeftSides (r ∷ rs) (s ∷ ss) = IsLeftSide r s × AreLeftSides rs ss

-- a copy of a left side
abbrev pub IsCopy : LeftSide → Side → Type 0
IsCopy l s = (map kept_cell s.patterns.items ≡ map pattern_cell l.patterns.now) × (s.vars ≡ l.vars)

-- those of these left sides, in order
abbrev pub AreCopies : List LeftSide → List Side → Type 0
AreCopies [] [] = Unit {0}
AreCopies [] (s ∷ ss) = ⊥
AreCopies (l ∷ ls) [] = ⊥
AreCopies (l ∷ ls) (s ∷ ss) = IsCopy l s × AreCopies ls ss
