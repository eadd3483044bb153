use Rattle.std.proofs.Common.{[], ◌∷◌, ◌+◌, ◌∙◌, refl, drop}
use Rattle.certificate_lines.specs.declared.line.Line.TheVariants.{Joining, Rule}
use Rattle.certificate_items.specs.Texts.{step_lines, steps_lines, joins_lines, both_lines, join_lines}
use Rattle.certificate_items.specs.Views.{plain_step, plain_steps, plain_joins}
use Rattle.certificate_text.proofs.Texts.{lines_then, lines_stop, lines_short, rule_lines, both_parts, join_parts, none_put, more_put, put_stops, all_put, all_short, next_step, next_join, no_steps, no_joins}
use Rattle.certificate_text.proofs.item.+steps.Goals as goal

pub put_both-returns-in-Ok-clause-put : goal.put_both-returns-in-Ok-clause-put
put_both-returns-in-Ok-clause-put g t c = lines_then (both_lines (plain_steps c.args.join.now.first) (plain_steps c.args.join.now.second)) (steps_lines (plain_steps c.as_slice.result.now)) (steps_lines (plain_steps c.as_slice-in-Ok.result.now))
    (both_parts c.args.join.now.first c.args.join.now.second c.as_slice.result.now c.as_slice-in-Ok.result.now c.as_slice.ensures c.as_slice-in-Ok.ensures)
    c.in-Ok.ensures.put c.put_steps-in-Ok.ensures.put

pub put_both-returns-in-Ok-clause-short : goal.put_both-returns-in-Ok-clause-short
put_both-returns-in-Ok-clause-short g t c = lines_short c.put_steps-in-Ok.result (both_lines (plain_steps c.args.join.now.first) (plain_steps c.args.join.now.second)) (steps_lines (plain_steps c.as_slice.result.now)) (steps_lines (plain_steps c.as_slice-in-Ok.result.now))
    (both_parts c.args.join.now.first c.args.join.now.second c.as_slice.result.now c.as_slice-in-Ok.result.now c.as_slice.ensures c.as_slice-in-Ok.ensures)
    c.in-Ok.ensures.short c.put_steps-in-Ok.ensures.short

pub put_both-returns-in-Err-clause-put : goal.put_both-returns-in-Err-clause-put
put_both-returns-in-Err-clause-put g t c = lines_stop (both_lines (plain_steps c.args.join.now.first) (plain_steps c.args.join.now.second)) (steps_lines (plain_steps c.as_slice.result.now)) (steps_lines (plain_steps c.args.join.now.second))
    (both_parts c.args.join.now.first c.args.join.now.second c.as_slice.result.now c.args.join.now.second c.as_slice.ensures refl)
    c.in-Err.ensures.put

pub put_join-returns-in-Ok-clause-put : goal.put_join-returns-in-Ok-clause-put
put_join-returns-in-Ok-clause-put g t c = lines_then (join_lines (plain_steps c.args.join.now.first) (plain_steps c.args.join.now.second)) (Joining c.len.result c.len-2.result ∷ []) (both_lines (plain_steps c.args.join.now.first) (plain_steps c.args.join.now.second))
    (join_parts c.args.join.now.first c.args.join.now.second c.len.result c.len-2.result c.len.ensures c.len-2.ensures)
    c.in-Ok.ensures.put c.put_both.ensures.put

pub put_join-returns-in-Ok-clause-short : goal.put_join-returns-in-Ok-clause-short
put_join-returns-in-Ok-clause-short g t c = lines_short c.put_both.result (join_lines (plain_steps c.args.join.now.first) (plain_steps c.args.join.now.second)) (Joining c.len.result c.len-2.result ∷ []) (both_lines (plain_steps c.args.join.now.first) (plain_steps c.args.join.now.second))
    (join_parts c.args.join.now.first c.args.join.now.second c.len.result c.len-2.result c.len.ensures c.len-2.ensures)
    (c.put_line.ensures.short, tt) c.put_both.ensures.short

pub put_join-returns-in-Err-clause-put : goal.put_join-returns-in-Err-clause-put
put_join-returns-in-Err-clause-put g t c = lines_stop (join_lines (plain_steps c.args.join.now.first) (plain_steps c.args.join.now.second)) (Joining c.len.result c.len-2.result ∷ []) (both_lines (plain_steps c.args.join.now.first) (plain_steps c.args.join.now.second))
    (join_parts c.args.join.now.first c.args.join.now.second c.len.result c.len-2.result c.len.ensures c.len-2.ensures)
    c.in-Err.ensures.put

pub put_step-returns-in-Ok-clause-put : goal.put_step-returns-in-Ok-clause-put
put_step-returns-in-Ok-clause-put g t c = lines_then (step_lines (plain_step c.args.step.now)) (Rule c.in-Rule.place c.in-Rule.number c.len.result ∷ []) (joins_lines (plain_joins c.as_slice.result.now))
    (rule_lines c.args.step.now c.in-Rule.place c.in-Rule.number c.len.result c.in-Rule.joins c.in-Rule.is c.len.ensures c.as_slice.ensures)
    c.in-Ok.ensures.put c.put_joins.ensures.put

pub put_step-returns-in-Ok-clause-short : goal.put_step-returns-in-Ok-clause-short
put_step-returns-in-Ok-clause-short g t c = lines_short c.put_joins.result (step_lines (plain_step c.args.step.now)) (Rule c.in-Rule.place c.in-Rule.number c.len.result ∷ []) (joins_lines (plain_joins c.as_slice.result.now))
    (rule_lines c.args.step.now c.in-Rule.place c.in-Rule.number c.len.result c.in-Rule.joins c.in-Rule.is c.len.ensures c.as_slice.ensures)
    (c.put_line-in-Rule.ensures.short, tt) c.put_joins.ensures.short

pub put_step-returns-in-Err-clause-put : goal.put_step-returns-in-Err-clause-put
put_step-returns-in-Err-clause-put g t c = lines_stop (step_lines (plain_step c.args.step.now)) (Rule c.in-Rule.place c.in-Rule.number c.len.result ∷ []) (joins_lines (plain_joins c.in-Rule.joins))
    (rule_lines c.args.step.now c.in-Rule.place c.in-Rule.number c.len.result c.in-Rule.joins c.in-Rule.is c.len.ensures refl)
    c.in-Err.ensures.put

pub put_steps-loop-step-init : goal.put_steps-loop-step-init
put_steps-loop-step-init g t c = record { put = none_put _ _ _; faults = refl }

pub put_steps-loop-step-preserved : goal.put_steps-loop-step-preserved
put_steps-loop-step-preserved g t c = record {
  put = more_put c.loop-step.invariant.put (step_lines (plain_step c.step-item.result)) (steps_lines (plain_steps (drop (c.loop-step.step-index + 1) c.args.steps.now)))
      (next_step c.args.steps.now c.loop-step.step-index c.step-item.result c.loop-step-test.true c.step-item.is) c.in-Ok.ensures.put c.in-Ok.ensures.short;
  faults = c.in-Ok.ensures.cause.stands ∙ c.loop-step.invariant.faults;
}

pub put_steps-returns-in-Err-clause-put : goal.put_steps-returns-in-Err-clause-put
put_steps-returns-in-Err-clause-put g t c = put_stops c.loop-step.invariant.put (step_lines (plain_step c.step-item.result)) (steps_lines (plain_steps (drop (c.loop-step.step-index + 1) c.args.steps.now)))
    (next_step c.args.steps.now c.loop-step.step-index c.step-item.result c.loop-step-test.true c.step-item.is) c.in-Err.ensures.put

pub put_steps-returns-clause-put : goal.put_steps-returns-clause-put
put_steps-returns-clause-put g t c = all_put c.loop-step.invariant.put (no_steps c.args.steps.now c.loop-step.step-index c.loop-step-test.false)

pub put_steps-returns-clause-short : goal.put_steps-returns-clause-short
put_steps-returns-clause-short g t c = all_short c.loop-step.invariant.put (no_steps c.args.steps.now c.loop-step.step-index c.loop-step-test.false)

pub put_joins-loop-join-init : goal.put_joins-loop-join-init
put_joins-loop-join-init g t c = record { put = none_put _ _ _; faults = refl }

pub put_joins-loop-join-preserved : goal.put_joins-loop-join-preserved
put_joins-loop-join-preserved g t c = record {
  put = more_put c.loop-join.invariant.put (join_lines (plain_steps c.join-item.result.first) (plain_steps c.join-item.result.second)) (joins_lines (plain_joins (drop (c.loop-join.join-index + 1) c.args.joins.now)))
      (next_join c.args.joins.now c.loop-join.join-index c.join-item.result c.loop-join-test.true c.join-item.is) c.in-Ok.ensures.put c.in-Ok.ensures.short;
  faults = c.in-Ok.ensures.cause.stands ∙ c.loop-join.invariant.faults;
}

pub put_joins-returns-in-Err-clause-put : goal.put_joins-returns-in-Err-clause-put
put_joins-returns-in-Err-clause-put g t c = put_stops c.loop-join.invariant.put (join_lines (plain_steps c.join-item.result.first) (plain_steps c.join-item.result.second)) (joins_lines (plain_joins (drop (c.loop-join.join-index + 1) c.args.joins.now)))
    (next_join c.args.joins.now c.loop-join.join-index c.join-item.result c.loop-join-test.true c.join-item.is) c.in-Err.ensures.put

pub put_joins-returns-clause-put : goal.put_joins-returns-clause-put
put_joins-returns-clause-put g t c = all_put c.loop-join.invariant.put (no_joins c.args.joins.now c.loop-join.join-index c.loop-join-test.false)

pub put_joins-returns-clause-short : goal.put_joins-returns-clause-short
put_joins-returns-clause-short g t c = all_short c.loop-join.invariant.put (no_joins c.args.joins.now c.loop-join.join-index c.loop-join-test.false)
