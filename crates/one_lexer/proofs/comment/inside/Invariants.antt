use Rattle.std.proofs.Common.{◌≡◌, ◌≤◌, ◌+◌, ◌++◌, ℕ, List, length}
use Rattle.dk_lexer.specs.Spelling.{comment}
use Rattle.one_lexer.proofs.comment.inside.Given as goal

abbrev pub invariant-loop-byte : goal.invariant-loop-byte
invariant-loop-byte l = record {
  shorter : length l.rest ≤ length l.bytes;
  depth : l.open + length l.rest ≤ l.fn.depth + length l.bytes;
  same : (more : List ℕ) → comment l.fn.depth l.fn.last (l.bytes ++ more) ≡ comment l.open l.before (l.rest ++ more);
}

abbrev pub decreases-loop-byte : goal.decreases-loop-byte
decreases-loop-byte l = length l.rest
