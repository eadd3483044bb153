use Rattle.std.proofs.Common.{◌≡◌, ◌+◌, drop}
use Rattle.one_lexer.specs.Places.{place_behind}
use Rattle.one_lexer.proofs.next.advance.Given as goal

abbrev pub invariant-loop-byte : goal.invariant-loop-byte
invariant-loop-byte l = record {
  offset : l.place.offset ≡ l.fn.here.offset + l.byte-index;
  same : place_behind l.fn.here l.passed ≡ place_behind l.place (drop l.byte-index l.passed);
}
