use Rattle.std.proofs.Common.{◌≡◌, ◌+◌, ◌++◌, ◌≤◌, ℕ, List, drop, length}
use Rattle.dk_io.specs.Gathered.{Moves}
use Rattle.verdict_book.specs.Places.{titled, total}
use Rattle.verdict_book.specs.Report.{lines_of}
use Rattle.verdict_book.specs.Titles.{lines_in}
use Rattle.verdict_book.proofs.book.put_titles.Given as goal

abbrev pub invariant-loop-spot : goal.invariant-loop-spot
invariant-loop-spot g l = record {
  number : l.number ≡ l.spot-index + 1;
  within : total (drop l.spot-index l.spot-items) ≤ length l.rest;
  before : (done : List ℕ) × Moves (g.K.Sink.taken l.initial.sink) l.initial.buffer (g.K.Sink.taken l.sink) l.buffer done
      × (lines_of l.quiet 1 (lines_in (titled l.titles.modules.now l.titles.texts.now l.spot-items)) ≡ done ++ lines_of l.quiet (l.spot-index + 1) (lines_in (titled l.titles.modules.now l.rest (drop l.spot-index l.spot-items))));
  faults : g.K.Sink.faults l.sink ≡ g.K.Sink.faults l.initial.sink;
}
