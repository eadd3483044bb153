-- For proofs: the place behind some bytes.
use Rattle.std.specs.Prelude.{ℕ, List, [], ◌∷◌}
use Rattle.dk_lexer.specs.declared.place.Place.{Place}
use Rattle.dk_lexer.specs.Tokens.{behind}

abbrev pub place_behind : Place → List ℕ → Place
place_behind here [] = here
place_behind here (b ∷ bs) = place_behind (behind here b) bs
