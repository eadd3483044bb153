-- For proofs: how the board is sealed where reading halts.
use Rattle.board_core.specs.declared.event.End.{End}
use Rattle.board_core.specs.declared.event.End.TheVariants as end
use Rattle.theory_walk.specs.Libraries.{Key}
use Rattle.file_report.specs.Reports.{place_of}
use Rattle.file_check.specs.declared.halt.Halt.{Halt}
use Rattle.file_check.specs.declared.halt.Halt.TheVariants as halt

-- where this is the book being read; a failed read has no line
abbrev pub end_at : Key → Halt → End
end_at book halt.Whole = end.Whole
end_at book halt.Stopped = end.Stopped
end_at book halt.Unread = end.Unread (place_of (record { book = book; line = 0 }))
end_at book (halt.Unopened m) = end.Unopened m
end_at book (halt.Fault line v) = end.Fault (place_of (record { book = book; line = line })) v
