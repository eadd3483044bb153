use Rattle.std.proofs.Common.{◌≡◌, ◌≤◌, ◌+◌, ◌*◌}
use Rattle.dk_model.specs.Trees.{tree}
use Rattle.signature_log.specs.Versions.{entries_of}
use Rattle.dk_model.specs.Evaluation.{whnf_of}
use Rattle.told_steps.specs.Parts.{LeadsTo}
use Rattle.tree_evaluation.specs.Answers.{form_told}
use Rattle.tree_evaluation.proofs.evaluation.Evaluation.+evaluation.Given as goal

-- each call goes one level further in, or is of a lower rank

abbrev pub decreases-whnf : goal.decreases-whnf
decreases-whnf l = 3 * l.self.depth

abbrev pub decreases-turn : goal.decreases-turn
decreases-turn l = 3 * l.self.depth + 2

abbrev pub decreases-rewrite : goal.decreases-rewrite
decreases-rewrite l = 3 * l.self.depth + 1

abbrev pub decreases-same : goal.decreases-same
decreases-same l = 3 * l.self.depth

abbrev pub decreases-heads_same : goal.decreases-heads_same
decreases-heads_same l = 3 * l.self.depth

abbrev pub decreases-normal : goal.decreases-normal
decreases-normal l = 3 * l.self.depth

abbrev pub decreases-each_normal : goal.decreases-each_normal
decreases-each_normal l = 3 * l.self.depth

abbrev pub decreases-select : goal.decreases-select
decreases-select l = 3 * l.self.depth

abbrev pub decreases-select_by_value : goal.decreases-select_by_value
decreases-select_by_value l = 3 * l.self.depth + 1

abbrev pub decreases-row_taken : goal.decreases-row_taken
decreases-row_taken l = 3 * l.self.depth + 1

abbrev pub decreases-captures_of_row : goal.decreases-captures_of_row
decreases-captures_of_row l = 3 * l.self.depth

abbrev pub decreases-cell_captures : goal.decreases-cell_captures
decreases-cell_captures l = 3 * l.self.depth + 2

abbrev pub decreases-part_at : goal.decreases-part_at
decreases-part_at l = 3 * l.self.depth + 1

abbrev pub decreases-recorded : goal.decreases-recorded
decreases-recorded l = 3 * l.self.depth + 1

abbrev pub decreases-guards_hold : goal.decreases-guards_hold
decreases-guards_hold l = 3 * l.self.depth

abbrev pub decreases-guard_holds : goal.decreases-guard_holds
decreases-guard_holds l = 3 * l.self.depth + 1

-- the turns of a weak head form

abbrev pub invariant-whnf-loop-told : goal.invariant-whnf-loop-told
invariant-whnf-loop-told l = record {
  same : whnf_of (entries_of l.self.version.now) l.left (form_told l.told) ≡ whnf_of (entries_of l.fn.self.version.now) l.fn.left (tree l.fn.term);
  less : l.left ≤ l.fn.left;
  leads : LeadsTo (entries_of l.self.version.now) (tree l.fn.term) l.told;
}

abbrev pub decreases-whnf-loop-told : goal.decreases-whnf-loop-told
decreases-whnf-loop-told l = l.left
