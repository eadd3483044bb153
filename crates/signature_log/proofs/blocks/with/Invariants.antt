use Rattle.std.proofs.Common.{◌≡◌, take, ◌+◌}
use Rattle.signature_log.proofs.blocks.with.Given as goal

-- the places so far, a step for each
abbrev pub invariant-loop-place : goal.invariant-loop-place
invariant-loop-place g l = (l.all.items ≡ take l.place-index l.places) × (l.steps ≡ l.fn.steps + l.place-index)
