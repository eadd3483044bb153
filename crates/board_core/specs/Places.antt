-- Trusted: where in a theory something stands.
use Rattle.std.specs.Prelude.{ℕ, []}
use Rattle.board_core.specs.declared.event.Place.{Place}

-- a line of the file that is checked
abbrev pub in_file : ℕ → Place
in_file line = record { line = line; «module» = [] }
