use Rattle.std.proofs.Common.{◌≡◌, ◌≤◌, length, map}
use Rattle.dk_model.specs.Signatures.{plain_rule}
use Rattle.dk_model.specs.RuleTyping.{rules_typed}
use Rattle.signature_log.specs.Versions.{entries_of}
use Rattle.infer_check.specs.Walks.{Follows}
use Rattle.command_check.proofs.verdict.type_rules.Given as goal

abbrev pub invariant-loop-rule : goal.invariant-loop-rule
invariant-loop-rule g l = record {
  same : rules_typed (entries_of l.fn.version) (map plain_rule l.rest) l.left ≡ rules_typed (entries_of l.fn.version) (map plain_rule l.fn.rules) l.fn.left;
  follows : Follows g.R.Reducer.owns g.R.Reducer.denotes g.R.Reducer.serves (entries_of l.fn.version) l.fn.r l.r;
  spent : l.left ≤ l.fn.left;
}

abbrev pub decreases-loop-rule : goal.decreases-loop-rule
decreases-loop-rule g l = length l.rest
