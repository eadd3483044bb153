use Rattle.std.proofs.Common.{◌≡◌, ℕ, ◌+◌, false, length}
use Rattle.std.specs.List.{list_any}
use Rattle.board_core.specs.Events.{is_seal}
use Rattle.board_core.specs.Machine.{HoldsNone}
use Rattle.text_tests.proofs.reports.put_jobs.Given as goal

abbrev pub invariant-loop-module : goal.invariant-loop-module
invariant-loop-module g l = record {
  line : length l.book.jobs + 11 ≡ l.line;
  unsealed : list_any is_seal l.book.events ≡ false;
  idle : (w : ℕ) → HoldsNone w l.book.events;
}
