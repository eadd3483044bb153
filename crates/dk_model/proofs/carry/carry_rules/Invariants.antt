use Rattle.std.proofs.Common.{◌≡◌, map, take}
use Rattle.dk_model.specs.Signatures.{rule_by}
use Rattle.dk_model.proofs.carry.carry_rules.Given as goal

abbrev pub invariant-loop-rule : goal.invariant-loop-rule
invariant-loop-rule g l = map (rule_by g.C.Carry.made_tree) l.carried ≡ map (rule_by g.C.Carry.read_tree) (take l.rule-index l.rules)
