use Rattle.std.proofs.Common.{◌≤◌, length, map}
use Rattle.std.specs.Prelude.{Some}
use Rattle.text_tests.proofs.books.played.Given as goal

abbrev pub invariant-loop-call : goal.invariant-loop-call
invariant-loop-call l = length (map Some l.shelf.aside) ≤ l.calls
