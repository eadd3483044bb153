-- For proofs: the groups that a parser keeps, as plain data.
use Rattle.std.specs.Prelude.{ℕ, List, [], max}
use Rattle.dk_terms.specs.declared.terminal.Terminal.{Terminal}
use Rattle.dk_terms.specs.Views.{stacked_on}
use Rattle.dk_parser.specs.declared.standing.Group.{Group}
use Rattle.dk_parser.specs.declared.standing.Side.{Side}
use Rattle.dk_parser.specs.declared.standing.Side.TheVariants as side
use Rattle.dk_parser.specs.Levels as levels
use Rattle.dk_parser.specs.Levels.{Standing, argument_in, arrows_of, groups_behind, level_of, standing_behind}

abbrev pub plain_group : Group → levels.Group
plain_group g = record { arrows = g.arrows; atoms = g.atoms }

abbrev pub plain_groups : List Group → List levels.Group
plain_groups gs = stacked_on plain_group [] gs

abbrev pub open_arrows : List Group → ℕ
open_arrows gs = arrows_of (plain_groups gs)

abbrev pub plain_side : Side → levels.Side
plain_side side.Head = levels.in_head
plain_side side.BehindHead = levels.behind_head
plain_side side.Left = levels.on_left

-- the level that a terminal stands on, or the number of the argument that it begins, whichever is greater
abbrev pub load : Standing → Terminal → ℕ
load s x = max (level_of (standing_behind s x)) (argument_in s x)

-- a terminal that moves the groups alone
abbrev pub grouped : Standing → Terminal → Standing
grouped s x = record { params = s.params; side = s.side; groups = groups_behind s.groups x }
