-- For proofs: what holds of the book of a file while its commands are checked.
use Rattle.std.specs.Prelude.{◌≡◌, ◌<◌, true, false, All, length}
use Rattle.std.specs.List.{list_any}
use Rattle.board_core.specs.Events.{is_seal}
use Rattle.tree_program.specs.declared.tried.Tried.{Tried}
use Rattle.tree_program.specs.declared.trial.Trial.{Trial}

-- the book isn't sealed, and each job is settled and has its title
pub record IsOpen (tried : Tried) : Type 0 where
  pub unsealed : list_any is_seal tried.book.events ≡ false
  pub settled : All (λ j. j.1 ≡ true) tried.book.jobs
  pub titled : length tried.titles ≡ length tried.book.jobs

-- the book is open, and the commands can be counted
pub record GoesOn (trial : Trial) : Type 0 where
  pub is_open : IsOpen trial.tried
  pub few : trial.most < 4294967294
