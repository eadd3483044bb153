-- Trusted: what the books of a theory are read as, each under the module that it has (docs/modules.md).
use Rattle.std.specs.Prelude.{ℕ, Bool, true, false, List, [], ◌∷◌, ◌++◌, Option, map}
use Rattle.std.specs.List.{flat_map}
use Rattle.dk_model.specs.declared.code.Code.{Code}
use Rattle.dk_parser.specs.Modules.{modules_of}
use Rattle.dk_parser.specs.Modules.{is_directive}
use Rattle.dk_parser.specs.Written.{WrittenCommand}

-- a book by its module, or the file's own, which has none
abbrev pub Key : Type 0
Key = Option (List ℕ)

-- how a book ends: behind its last command; at a fault with its line; or where a read failed, while a command at this line was due
pub data BookTail : Type 0 where
  whole : BookTail
  fault : ℕ → Code → BookTail
  unread : ℕ → BookTail

-- the commands and directives of a book, in order, and its end
pub record BookReading : Type 0 where
  pub items : List WrittenCommand
  pub tail : BookTail

-- what is known of a book: it couldn't be opened, or what it is read as
pub data Opened : Type 0 where
  unopened : Opened
  opened : BookReading → Opened

abbrev pub Library : Type 0
Library = Key → Opened

-- ---- the steps of a book

-- one step of a book: it needs a module, for a directive or for a command at this line; or it has this command
pub data BookStep : Type 0 where
  need : Bool → ℕ → List ℕ → BookStep
  put : WrittenCommand → BookStep

-- what a directive doesn't have, and a command has behind its needs
abbrev pub command_step : Bool → WrittenCommand → List BookStep
command_step true c = []
command_step false c = put c ∷ []

-- the modules that a command or directive needs, in the order of their places, and then the command
abbrev pub steps_of : WrittenCommand → List BookStep
steps_of c = map (need (is_directive c.form) c.line) (modules_of c.form) ++ command_step (is_directive c.form) c

abbrev pub steps_in : List WrittenCommand → List BookStep
steps_in items = flat_map steps_of items
