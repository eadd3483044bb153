use Rattle.std.proofs.Common.{◌≡◌, take}
use Rattle.signature_log.proofs.rule_list.spread.Given as goal

-- the places so far
abbrev pub invariant-loop-place : goal.invariant-loop-place
invariant-loop-place g l = l.many ≡ take l.place-index l.few
