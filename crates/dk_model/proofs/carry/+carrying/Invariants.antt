use Rattle.std.proofs.Common.{◌≡◌, map, take}
use Rattle.dk_model.specs.Signatures.{pattern_by}
use Rattle.dk_model.proofs.carry.+carrying.Given as goal

abbrev pub invariant-carry_patterns-loop-pattern : goal.invariant-carry_patterns-loop-pattern
invariant-carry_patterns-loop-pattern g l = map (pattern_by g.C.Carry.made_tree) l.carried ≡ map (pattern_by g.C.Carry.read_tree) (take l.pattern-index l.patterns)
