-- So many of those that are reached were looked at.
use Rattle.std.proofs.Common.{◌≡◌, ◌<◌, length}
use Rattle.std.specs.Prelude.{All}
use Rattle.edit_session.specs.Resting.{IsSearched}
use Rattle.edit_session.proofs.resting.Ways.from_last.Given as goal

abbrev pub invariant-loop-seen : goal.invariant-loop-seen
invariant-loop-seen l = record {
  search : All (λ m. m < l.self.mark) l.fn.marks.items → IsSearched l.self.mentions.now l.self.rules.now l.own l.self.mark l.marks.items l.reached.items l.seen;
  count : length l.marks.items ≡ length l.fn.marks.items;
}
