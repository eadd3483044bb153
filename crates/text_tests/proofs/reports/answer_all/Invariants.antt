use Rattle.std.proofs.Common.{◌≡◌, ℕ, true, length}
use Rattle.std.specs.List.{list_any}
use Rattle.board_core.specs.Events.{is_seal}
use Rattle.board_core.specs.Machine.{HoldsNone}
use Rattle.text_tests.proofs.reports.answer_all.Given as goal

abbrev pub invariant-loop-turn : goal.invariant-loop-turn
invariant-loop-turn g l = record {
  sealed : list_any is_seal l.book.events ≡ true;
  idle : (w : ℕ) → HoldsNone w l.book.events;
  jobs : length l.book.jobs ≡ length l.initial.book.jobs;
}
