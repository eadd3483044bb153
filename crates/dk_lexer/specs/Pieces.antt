-- For callers: pieces put together, and the place behind some bytes.
use Rattle.std.specs.Prelude.{ℕ, ◌+◌, List, [], ◌∷◌, ◌++◌, if◌then◌else◌, ◌==◌}
use Rattle.dk_lexer.specs.declared.place.Place.{Place}
use Rattle.dk_lexer.specs.Tokens.{behind}

abbrev pub joined : List (List ℕ) → List ℕ
joined [] = []
joined (piece ∷ pieces) = piece ++ joined pieces

-- the place behind some bytes
abbrev pub place_behind : Place → List ℕ → Place
place_behind here [] = here
place_behind here (b ∷ bs) = place_behind (behind here b) bs

-- the newlines among some bytes
abbrev pub newlines : List ℕ → ℕ
newlines [] = 0
newlines (b ∷ bs) = (if b == 10 then 1 else 0) + newlines bs
