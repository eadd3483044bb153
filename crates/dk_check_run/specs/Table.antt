-- Trusted: the table of the commands, a line for each.
use Rattle.std.specs.Prelude.{◌≡◌, ℕ, Option}
use Rattle.dk_model.specs.declared.limits.Limits.{Limits}
use Rattle.command_line.specs.Requests.{Request, to_certify, to_check, to_make, to_prune, to_recheck, to_replay}
use Rattle.book_reader.specs.Shelves.{ShelfState}
use Rattle.dk_check_run.specs.Run.{SinkState, text_with}
use Rattle.dk_check_run.specs.Certify as certify
use Rattle.dk_check_run.specs.Check as check
use Rattle.dk_check_run.specs.Make as make
use Rattle.dk_check_run.specs.Prune as prune
use Rattle.dk_check_run.specs.Recheck as recheck
use Rattle.dk_check_run.specs.Replay as replay
use Rattle.dk_check_run.specs.Rows.{Answers, Row, WritesRow}

abbrev pub rows_of : Limits → Request → Row
rows_of limits (to_check q) old new cause status text = check.IsDue limits q (text_with q) old new cause status text
rows_of limits (to_make q) old new cause status text = (new ≡ old) × make.IsDue limits q cause status text
rows_of limits (to_certify q) old new cause status text = certify.IsDue limits q old new cause status text
rows_of limits (to_recheck q) old new cause status text = recheck.IsDue limits q old new cause status text
rows_of limits (to_prune q) old new cause status text = prune.IsDue limits q old new cause status text
rows_of limits (to_replay q) old new cause status text = replay.IsDue limits q old new cause status text

-- a row of the command was written
abbrev pub RunsCommand : Limits → Request → ShelfState → ShelfState → SinkState → SinkState → ℕ → Type 0
RunsCommand limits c = WritesRow (rows_of limits c)

-- what `run` answers
abbrev pub Runs : Limits → Option Request → ShelfState → ShelfState → SinkState → SinkState → ℕ → Type 0
Runs limits = Answers (rows_of limits)
