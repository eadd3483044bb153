-- The texts so far, and those at the places that are left.
use Rattle.std.proofs.Common.{◌≡◌, ◌++◌, length, map}
use Rattle.std.specs.Arc.{arc_value}
use Rattle.edit_session.specs.Grounds.{texts_at, texts_in}
use Rattle.edit_session.proofs.grounds.texts_at.Given as goal

abbrev pub invariant-loop-place : goal.invariant-loop-place
invariant-loop-place l = map arc_value l.texts.items ++ texts_at (texts_in l.slots) l.rest ≡ texts_at (texts_in l.slots) l.fn.places

abbrev pub decreases-loop-place : goal.decreases-loop-place
decreases-loop-place l = length l.rest
