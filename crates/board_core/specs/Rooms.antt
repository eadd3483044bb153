-- For proofs: the room for one more job.
use Rattle.std.specs.Prelude.{◌≡◌, ℕ, ◌+◌, ◌*◌, ◌≤◌, [], vec_capacity}
use Rattle.std.specs.VecDeque.{deque_capacity}
use Rattle.board_core.specs.declared.room.Lists.{Lists}
use Rattle.board_core.specs.declared.room.Room.{Room}
use Rattle.board_core.specs.declared.room.Room.TheVariants.{Enough, Wider, Refused}
use Rattle.board_core.specs.Kept.{IsPowerOfTwo}

module _ {J : Type 0} where
  pub record IsEmpty (l : Lists J) : Type 0 where
    pub jobs : l.jobs.items ≡ []
    pub waiting : l.waiting.items ≡ []
    pub verdicts : l.verdicts.items ≡ []
    pub history : l.history.items ≡ []

  -- places for so many jobs, and for three events each and the seal
  pub record HasPlaces (places : ℕ) (l : Lists J) : Type 0 where
    pub jobs : places ≤ vec_capacity l.jobs
    pub waiting : places ≤ deque_capacity l.waiting
    pub verdicts : places ≤ vec_capacity l.verdicts
    pub history : 3 * places + 1 ≤ vec_capacity l.history

  -- a book that has so many jobs has a place, or these lists are twice as long, or neither
  abbrev pub IsRoomBehind : ℕ → Room J → Type 0
  IsRoomBehind count Enough = ¬ IsPowerOfTwo count
  IsRoomBehind count (Wider lists) = IsPowerOfTwo count × IsEmpty lists × HasPlaces (2 * count) lists
  IsRoomBehind count Refused = Unit {0}
