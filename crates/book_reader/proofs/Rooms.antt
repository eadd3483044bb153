-- What the parts of a turn take of the room of a walk.
use Rattle.std.proofs.Common.{◌≡◌, ◌<◌, ◌≤◌, ◌+◌, ◌-◌, ◌*◌, Vec, Global, ℕ, List, [], ◌∷◌, ◌++◌, ap, ◌∙◌, arith}
use Rattle.std.proofs.lemmas.List.Sums.{sum_by_push}
use Rattle.std.specs.Prelude.{vec_len}
use Rattle.std.specs.List.{sum_by}
use Rattle.book_reader.specs.declared.walker.Frame.{Frame}
use Rattle.book_reader.specs.Rooms.{room_of_book, room_of_module}

-- a list of names in memory is shorter than what an item takes of its book's room
pub needs_small : (needs : Vec (List ℕ) Global) → vec_len needs < 9223372036854775808
needs_small needs = let ok = needs.ok in let small = needs.small in omega (arith, ok, small)

-- a book is put behind others
pub room_pushed : (fs gs : List Frame) (f : Frame) → fs ≡ gs ++ f ∷ [] → sum_by room_of_book fs ≡ sum_by room_of_book gs + room_of_book f
room_pushed fs gs f is = ap (sum_by room_of_book) is ∙ sum_by_push room_of_book gs f

-- a module was opened: there is one fewer, and its book has less room than it had
pub room_opened : (most known more : ℕ) (new top below old : ℕ) → more ≡ known + 1 → known < most → new ≤ 2923003274661805836407369665432566039311865085953 → old ≡ below + top
    → (most - more) * room_of_module + (new + old) ≤ (most - known) * room_of_module + (top + below)
room_opened most known more new top below old is fewer small same = omega (arith, is, fewer, small, same)

-- a command or directive was read: its needs are fewer than what it takes of its book's room
pub room_read : (modules rest : ℕ) (before after needs : ℕ) → after < before → needs < 9223372036854775808
    → modules + (needs + 1 + after * 18446744073709551616 + 1 + rest) < modules + (0 + before * 18446744073709551616 + 1 + rest)
room_read modules rest before after needs less small = omega (arith, less, small)
