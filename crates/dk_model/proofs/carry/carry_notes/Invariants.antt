use Rattle.std.proofs.Common.{◌≡◌, map, take}
use Rattle.dk_model.specs.Signatures.{maybe_by}
use Rattle.dk_model.proofs.carry.carry_notes.Given as goal

abbrev pub invariant-loop-note : goal.invariant-loop-note
invariant-loop-note g l = map (maybe_by g.C.Carry.made_tree) l.carried ≡ map (maybe_by g.C.Carry.read_tree) (take l.note-index l.notes)
