-- For callers: how much more may come of a walk. Each turn takes some of it, so a walk comes to its end.
use Rattle.std.specs.Prelude.{ℕ, ◌+◌, ◌-◌, ◌*◌, Option, Some, None, length, vec_len}
use Rattle.std.specs.List.{sum_by}
use Rattle.file_reader.specs.Rooms.{room_of}
use Rattle.book_reader.specs.declared.walker.Frame.{Frame}
use Rattle.book_reader.specs.declared.walker.Item.{Item}
use Rattle.book_reader.specs.declared.walker.Walker.{Walker}

-- the needs of a command or directive that are still to be gone through, and then itself
abbrev pub room_of_item : Option Item → ℕ
room_of_item None = 0
room_of_item (Some item) = vec_len item.needs + 1

-- what is at hand of an open book, its other commands and directives, each with more room than its needs take, and its end
abbrev pub room_of_book : Frame → ℕ
room_of_book f = room_of_item f.item + room_of f.reader * 18446744073709551616 + 1

-- more than the room of a book of which nothing was read: a reader's room is 2 ^ 97 at most, and each unit of it counts 2 ^ 64 here
abbrev pub room_of_module : ℕ
room_of_module = 158456325028528675187087900672 * 18446744073709551616 + 2

-- the modules that may still be opened, and the books that are open
abbrev pub room_of_walk : Walker → ℕ
room_of_walk w =
    (w.root.most.modules - length w.opened) * room_of_module + (room_of_book w.top + sum_by room_of_book w.below.items)
