use Rattle.std.proofs.Common.{◌≡◌, ◌≤◌, length, map}
use Rattle.dk_model.specs.Signatures.{maybe_tree}
use Rattle.dk_model.specs.RuleTyping.{notes_agree}
use Rattle.signature_log.specs.Versions.{entries_of}
use Rattle.signature_log.specs.Reducers.{OwnsSomes}
use Rattle.infer_check.specs.Walks.{Follows}
use Rattle.rule_check.specs.Founds.{types_of, terms_of}
use Rattle.rule_check.specs.Clauses.{notes_due}
use Rattle.rule_check.proofs.sides.check_notes.Given as goal

abbrev pub invariant-loop-note : goal.invariant-loop-note
invariant-loop-note g l = record {
  same : notes_agree (entries_of l.fn.version) (terms_of g.R.Reducer.denotes l.fn.r l.fn.found.bindings) (map maybe_tree l.rest) (types_of g.R.Reducer.denotes l.fn.r l.known) l.left
      ≡ notes_due g.R.Reducer.denotes (entries_of l.fn.version) l.fn.r (map maybe_tree l.fn.notes) l.fn.found l.fn.left;
  known : OwnsSomes g.R.Reducer.owns l.fn.r l.known;
  follows : Follows g.R.Reducer.owns g.R.Reducer.denotes g.R.Reducer.serves (entries_of l.fn.version) l.fn.r l.r;
  spent : l.left ≤ l.fn.left;
}

abbrev pub decreases-loop-note : goal.decreases-loop-note
decreases-loop-note g l = length l.rest
