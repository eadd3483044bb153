-- For callers: a made text as they see it.
use Rattle.std.specs.Prelude.{ℕ, List, drop, map, reverse}

-- its bytes, those that aren't read yet, those that weren't each time that it was put aside, the last time first, and how
-- many openings failed
pub record TextState : Type 0 where
  pub bytes : List ℕ
  pub left : List ℕ
  pub aside : List (List ℕ)
  pub missed : ℕ

-- what is left from each of these places on, the last one first
abbrev pub rests : List ℕ → List ℕ → List (List ℕ)
rests bytes places = map (λ at. drop at bytes) (reverse places)
