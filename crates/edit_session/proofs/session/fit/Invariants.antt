use Rattle.std.proofs.Common.{◌≡◌, ◌≤◌, ◌+◌, length, map}
use Rattle.edit_session.specs.Held.{plain_slot}
use Rattle.edit_session.specs.Sessions.{texts_of}
use Rattle.edit_session.specs.Texts.{bytes_of}
use Rattle.edit_session.proofs.session.fit.Given as goal

abbrev pub invariant-loop-slot : goal.invariant-loop-slot
invariant-loop-slot l = record {
  sum : length (bytes_of (texts_of (map plain_slot l.fn.slots))) + l.left ≡ length (bytes_of (texts_of (map plain_slot l.rest))) + l.fn.room;
  small : l.left ≤ l.fn.room;
}

abbrev pub decreases-loop-slot : goal.decreases-loop-slot
decreases-loop-slot l = length l.rest
