-- For callers: how much more may come of a book. Each command and each directive takes some of it.
use Rattle.std.specs.Prelude.{ℕ, ◌+◌, ◌-◌, ◌*◌, ◌<◌, ◌≤◌, Option, Some, None, length}
use Rattle.file_reader.specs.declared.reader.Reader.{Reader}

-- the bytes that may still be given, each with more room than it takes where it is carried; then those that are carried
abbrev pub room_of : Reader → ℕ
room_of r = (8589934592 - r.given) * 2 + length r.carried

-- fewer bytes are carried behind a token, a command or a directive, and no more where there was none
abbrev pub HasFewer : {A : Type 0} → Option A → ℕ → ℕ → Type 0
HasFewer (Some it) before now = now < before
HasFewer None before now = now ≤ before
