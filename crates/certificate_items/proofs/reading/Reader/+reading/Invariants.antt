use Rattle.std.proofs.Common.{◌≡◌, ◌+◌, ◌*◌}
use Rattle.certificate_items.specs.Texts.{step_count, join_count, steps_lines, joins_lines, BeginsWith}
use Rattle.certificate_items.specs.Views.{plain_steps, plain_joins}
use Rattle.certificate_items.proofs.reading.Reader.+reading.Given as goal

-- each call goes one level further in, or is of a lower rank

abbrev pub decreases-step : goal.decreases-step
decreases-step l = 5 * l.depth

abbrev pub decreases-steps : goal.decreases-steps
decreases-steps l = 5 * l.depth + 1

abbrev pub decreases-both : goal.decreases-both
decreases-both l = 5 * l.depth + 2

abbrev pub decreases-join : goal.decreases-join
decreases-join l = 5 * l.depth + 3

abbrev pub decreases-joins : goal.decreases-joins
decreases-joins l = 5 * l.depth + 4

abbrev pub invariant-steps-loop-at : goal.invariant-steps-loop-at
invariant-steps-loop-at l = record {
  begun : BeginsWith (steps_lines (plain_steps l.steps)) l.fn.self.rest.now l.self.rest.now;
  count : step_count (plain_steps l.steps) ≡ l._at;
}

abbrev pub invariant-joins-loop-at : goal.invariant-joins-loop-at
invariant-joins-loop-at l = record {
  begun : BeginsWith (joins_lines (plain_joins l.joins)) l.fn.self.rest.now l.self.rest.now;
  count : join_count (plain_joins l.joins) ≡ l._at;
}
