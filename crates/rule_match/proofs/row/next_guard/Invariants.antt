use Rattle.std.proofs.Common.{◌≡◌, ℕ, Bool, map}
use Rattle.dk_model.specs.Trees.{Tree}
use Rattle.dk_model.specs.Units.{Units}
use Rattle.shared_term.specs.Pools.{Extends}
use Rattle.shared_term.specs.Changes.{captured_terms}
use Rattle.rule_match.specs.Rows.{plain_cell}
use Rattle.rule_match.specs.Columns.{plain}
use Rattle.rule_match.specs.Standing.{guards_from}
use Rattle.rule_match.proofs.row.next_guard.Given as goal

abbrev pub invariant-loop-at : goal.invariant-loop-at
invariant-loop-at l = record {
  same : (C : ℕ → Tree → Tree → Units Bool) (n : ℕ)
      → guards_from C (map plain_cell l.cells) (plain l.pool l.columns) l.at n (captured_terms l.pool l.captures)
      ≡ guards_from C (map plain_cell l.fn.cells) (plain l.fn.pool l.fn.columns) l.fn.from n (captured_terms l.fn.pool l.fn.captures);
  keeps : Extends l.fn.pool l.pool;
}
