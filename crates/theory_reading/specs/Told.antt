-- For proofs: what is told of how reading ended.
use Rattle.std.specs.Prelude.{◌+◌, List, length, Result, Ok, Err}
use Rattle.dk_model.specs.declared.scoped.Scoped.{Scoped}
use Rattle.theory_walk.specs.Libraries.{Key}
use Rattle.file_report.specs.Reports.{book_place, place_of}
use Rattle.book_reader.specs.declared.walker.WalkEnd.{WalkEnd}
use Rattle.book_reader.specs.declared.walker.WalkEnd.TheVariants as walk
use Rattle.theory_reading.specs.declared.reading.ReadingEnd.{ReadingEnd}
use Rattle.theory_reading.specs.declared.reading.ReadingEnd.TheVariants as end

-- where this is the book being read, behind these commands
abbrev pub told_of : Key → List Scoped → WalkEnd → Result (List Scoped) ReadingEnd
told_of book cs walk.Whole = Ok cs
told_of book cs (walk.Refused line code) = Err (end.Refused (length cs + 1) (place_of (record { book = book; line = line })) code)
told_of book cs walk.Unread = Err (end.Unread (length cs + 1) (book_place book))
told_of book cs (walk.Unopened m line) = Err (end.Unopened m)
told_of book cs (walk.NoMemory line) = Err end.NoMemory
