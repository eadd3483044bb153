-- For callers: how the code holds rows, as the plain data of a selection (docs/evaluation.md).
use Rattle.std.specs.Prelude.{ℕ, ◌≡◌, ◌<◌, List, [], ◌∷◌, ◌++◌, map, get_or}
use Rattle.std.specs.declared.vec.Vec.{Vec}
use Rattle.std.specs.declared.alloc.Global.{Global}
use Rattle.dk_model.specs.Trees.{star}
use Rattle.dk_model.specs.Signatures.{Pattern, PlainRule, pattern_by}
use Rattle.dk_model.specs.Matrix.{blank, cell}
use Rattle.dk_model.specs.Matrix.{Cell as PlainCell, Row as PlainRow}
use Rattle.dk_model.specs.declared.signature.Pat.{Pat}
use Rattle.shared_term.specs.declared.stored.Stored.{Stored}
use Rattle.shared_term.specs.Storage.{stored_term}
use Rattle.rule_match.specs.declared.cell.Cell.{Cell}
use Rattle.rule_match.specs.declared.cell.Cell.TheVariants.{Blank, Pattern as Asks}
use Rattle.rule_match.specs.declared.cell.KeptCell.{KeptCell}
use Rattle.rule_match.specs.declared.cell.KeptCell.TheVariants.{Blank as KeptBlank, Pattern as Keeps}
use Rattle.rule_match.specs.declared.cell.Row.{Row}
use Rattle.rule_match.specs.declared.cell.KeptRow.{KeptRow}

-- a pattern over stored terms
abbrev pub stored_pattern : Pat Stored → Pattern
stored_pattern = pattern_by stored_term

abbrev pub pattern_cell : Pat Stored → PlainCell
pattern_cell p = cell (stored_pattern p)

abbrev pub plain_cell : Cell → PlainCell
plain_cell Blank = blank
plain_cell (Asks p) = pattern_cell p.now

abbrev pub kept_cell : KeptCell → PlainCell
kept_cell KeptBlank = blank
kept_cell (Keeps p) = pattern_cell p

-- stands where a list has no rule at a place
abbrev pub no_rule : PlainRule
no_rule = record { head = 0; vars = 0; pats = []; notes = []; right = star }

-- none of these rules is what stands where there is no rule: each is of another symbol
abbrev pub AreNamed : List PlainRule → Type 0
AreNamed [] = Unit {0}
AreNamed (r ∷ rs) = (0 < r.head) × AreNamed rs

-- the rule at a place among a symbol's rules
abbrev pub rule_at : List PlainRule → ℕ → PlainRule
rule_at rules i = get_or rules i no_rule

-- a row, as one of a symbol with these rules
abbrev pub row : List PlainRule → Row → PlainRow
row rules r = record { cells = map plain_cell r.cells.items; rule = rule_at rules r.at }

abbrev pub kept_row : List PlainRule → KeptRow → PlainRow
kept_row rules r = record { cells = map kept_cell r.cells.items; rule = rule_at rules r.at }

-- that these cells were put behind the old ones
abbrev pub Appends : Vec Cell Global → Vec Cell Global → List PlainCell → Type 0
Appends old new more = map plain_cell new.items ≡ map plain_cell old.items ++ more
