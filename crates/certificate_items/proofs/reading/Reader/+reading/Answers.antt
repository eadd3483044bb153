use Rattle.std.proofs.Common.{◌≡◌, ◌+◌, Some, Err, ap, ◌∙◌, arith, sym as flip, subst as along}
use Rattle.certificate_lines.specs.declared.line.Line.TheVariants.{Joining, Beta, Rule}
use Rattle.certificate_items.specs.Texts.{step_count, join_count, steps_lines, joins_lines, BeginsWith}
use Rattle.certificate_items.specs.Views.{plain_joins, plain_steps}
use Rattle.certificate_items.proofs.Begins.{begins_none, begins_append}
use Rattle.certificate_items.proofs.Longer.{steps_counted, steps_go_on, no_more_steps, first_missing, second_missing, joins_counted, joins_go_on, no_more_joins}
use Rattle.certificate_items.proofs.Firsts.{some_is, passed, rule_begins, rule_missing, no_step, join_missing, no_join}
use Rattle.certificate_items.proofs.reading.Reader.+reading.Goals as goal

pub both-returns-in_err-first-clause-none : goal.both-returns-in_err-first-clause-none
both-returns-in_err-first-clause-none t c = λ e. first_missing c.args.first c.args.second c.args.self.now.rest.now
    (c.in_err-first.ensures.none (ap Err (passed c.from_residual.result c.in_err-first.field-0.0 c.from_residual.ensures.1 e)))

pub both-returns-in_err-second-clause-none : goal.both-returns-in_err-second-clause-none
both-returns-in_err-second-clause-none t c = λ e. second_missing c.in_ok-first.first c.args.first c.args.second c.args.self.now.rest.now c.steps.new.self.rest.now
    c.in_ok-first.ensures.count c.in_ok-first.ensures.ok
    (c.in_err-second.ensures.none (ap Err (passed c.from_residual-in_err-second.result c.in_err-second.field-0.0 c.from_residual-in_err-second.ensures.1 e)))

pub both-returns-clause-ok : goal.both-returns-clause-ok
both-returns-clause-ok t c = begins_append (steps_lines (plain_steps c.in_ok-first.first)) (steps_lines (plain_steps c.in_ok-second.second))
    c.args.self.now.rest.now c.steps.new.self.rest.now c.steps-2.new.self.rest.now c.in_ok-first.ensures.ok c.in_ok-second.ensures.ok

pub join-returns-in-Joining-clause-none : goal.join-returns-in-Joining-clause-none
join-returns-in-Joining-clause-none t c =
    let o : c.line.result ≡ Some (Joining c.in-Joining.first c.in-Joining.second) = (c.in-Some.is ∙ ap Some c.in-Joining.is) in
    λ e. join_missing c.in-Joining.first c.in-Joining.second c.line.result c.args.self.now.rest.now c.line.new.self.rest.now o
    (c.line.ensures.some, c.line.ensures.none) (c.both.ensures.none e)

pub join-returns-in_default-clause-none : goal.join-returns-in_default-clause-none
join-returns-in_default-clause-none t c = λ e. no_join c.line.result c.args.self.now.rest.now c.line.new.self.rest.now (c.line.ensures.some, c.line.ensures.none)
    (λ n m q. c.in_default.not-Some (Joining n m) q)

pub joins-loop-at-init : goal.joins-loop-at-init
joins-loop-at-init t c = record {
  begun = along (λ js. BeginsWith (joins_lines (plain_joins js)) c.args.self.now.rest.now c.args.self.now.rest.now) (flip c.new-joins.ensures) (begins_none c.args.self.now.rest.now);
  count = ap (λ js. join_count (plain_joins js)) c.new-joins.ensures;
}

pub joins-returns-in_err-join-clause-none : goal.joins-returns-in_err-join-clause-none
joins-returns-in_err-join-clause-none t c = λ e. no_more_joins c.loop-at.joins c.args.count c.args.self.now.rest.now c.loop-at.self.rest.now
    (omega (arith, c.loop-at.invariant.count, c.loop-at-test.true)) c.loop-at.invariant.begun
    (c.in_err-join.ensures.none (ap Err (passed c.from_residual.result c.in_err-join.field-0.0 c.from_residual.ensures.1 e)))

pub joins-loop-at-preserved : goal.joins-loop-at-preserved
joins-loop-at-preserved t c = record {
  begun = along (λ js. BeginsWith (joins_lines (plain_joins js)) c.args.self.now.rest.now c.join.new.self.rest.now) (flip c.in_ok-push.ensures.ok)
      (joins_go_on c.loop-at.joins c.in_ok-join.field-0 c.args.self.now.rest.now c.loop-at.self.rest.now c.join.new.self.rest.now c.loop-at.invariant.begun c.in_ok-join.ensures.ok);
  count = ap (λ js. join_count (plain_joins js)) c.in_ok-push.ensures.ok ∙ joins_counted c.loop-at.joins c.in_ok-join.field-0 ∙ ap (λ n. n + 1) c.loop-at.invariant.count;
}

pub joins-returns-clause-ok : goal.joins-returns-clause-ok
joins-returns-clause-ok t c = c.loop-at.invariant.begun

pub joins-returns-clause-count : goal.joins-returns-clause-count
joins-returns-clause-count t c = omega (arith, c.loop-at.invariant.count, c.loop-at-test.false, c.loop-at.auto._at-end)

pub step-returns-in_err-joins-in-Rule-clause-none : goal.step-returns-in_err-joins-in-Rule-clause-none
step-returns-in_err-joins-in-Rule-clause-none t c =
    let o : c.line.result ≡ Some (Rule c.in-Rule.place c.in-Rule.number c.in-Rule.conditions) = (c.in-Some.is ∙ ap Some c.in-Rule.is) in
    λ e. rule_missing c.in-Rule.place c.in-Rule.number c.in-Rule.conditions c.line.result c.args.self.now.rest.now c.line.new.self.rest.now o
    (c.line.ensures.some, c.line.ensures.none)
    (c.in_err-joins-in-Rule.ensures.none
    (ap Err (passed c.from_residual-in_err-joins-in-Rule.result c.in_err-joins-in-Rule.field-0.0 c.from_residual-in_err-joins-in-Rule.ensures.1 e)))

pub step-returns-in_ok-joins-in-Rule-clause-ok : goal.step-returns-in_ok-joins-in-Rule-clause-ok
step-returns-in_ok-joins-in-Rule-clause-ok t c =
    let o : c.line.result ≡ Some (Rule c.in-Rule.place c.in-Rule.number c.in-Rule.conditions) = (c.in-Some.is ∙ ap Some c.in-Rule.is) in
    rule_begins c.in-Rule.place c.in-Rule.number c.in-Rule.conditions c.in_ok-joins-in-Rule.joins c.line.result c.args.self.now.rest.now c.line.new.self.rest.now
    c.joins.new.self.rest.now o (c.line.ensures.some, c.line.ensures.none) c.in_ok-joins-in-Rule.ensures.ok c.in_ok-joins-in-Rule.ensures.count

pub step-returns-in_default-clause-none : goal.step-returns-in_default-clause-none
step-returns-in_default-clause-none t c = λ e. no_step c.line.result c.args.self.now.rest.now c.line.new.self.rest.now (c.line.ensures.some, c.line.ensures.none)
    (λ p q. c.in_default.not-Some (Beta p) q) (λ p n k q. c.in_default.not-Some (Rule p n k) q)

pub step-returns-in_default-line : goal.step-returns-in_default-line
step-returns-in_default-line t c = record {
  ok = tt;
  none = λ e. no_step c.line.result c.args.self.now.rest.now c.line.new.self.rest.now (c.line.ensures.some, c.line.ensures.none)
      (λ p q. c.in_default-line.not-Beta p (some_is (flip c.in-Some.is ∙ q))) (λ p n k q. c.in_default-line.not-Rule p n k (some_is (flip c.in-Some.is ∙ q)));
}

pub steps-loop-at-init : goal.steps-loop-at-init
steps-loop-at-init t c = record {
  begun = along (λ xs. BeginsWith (steps_lines (plain_steps xs)) c.args.self.now.rest.now c.args.self.now.rest.now) (flip c.new-steps.ensures) (begins_none c.args.self.now.rest.now);
  count = ap (λ xs. step_count (plain_steps xs)) c.new-steps.ensures;
}

pub steps-returns-in_err-step-clause-none : goal.steps-returns-in_err-step-clause-none
steps-returns-in_err-step-clause-none t c = λ e. no_more_steps c.loop-at.steps c.args.count c.args.self.now.rest.now c.loop-at.self.rest.now
    (omega (arith, c.loop-at.invariant.count, c.loop-at-test.true)) c.loop-at.invariant.begun
    (c.in_err-step.ensures.none (ap Err (passed c.from_residual.result c.in_err-step.field-0.0 c.from_residual.ensures.1 e)))

pub steps-loop-at-preserved : goal.steps-loop-at-preserved
steps-loop-at-preserved t c = record {
  begun = along (λ xs. BeginsWith (steps_lines (plain_steps xs)) c.args.self.now.rest.now c.step.new.self.rest.now) (flip c.in_ok-push.ensures.ok)
      (steps_go_on c.loop-at.steps c.in_ok-step.field-0 c.args.self.now.rest.now c.loop-at.self.rest.now c.step.new.self.rest.now c.loop-at.invariant.begun c.in_ok-step.ensures.ok);
  count = ap (λ xs. step_count (plain_steps xs)) c.in_ok-push.ensures.ok ∙ steps_counted c.loop-at.steps c.in_ok-step.field-0 ∙ ap (λ n. n + 1) c.loop-at.invariant.count;
}

pub steps-returns-clause-ok : goal.steps-returns-clause-ok
steps-returns-clause-ok t c = c.loop-at.invariant.begun

pub steps-returns-clause-count : goal.steps-returns-clause-count
steps-returns-clause-count t c = omega (arith, c.loop-at.invariant.count, c.loop-at-test.false, c.loop-at.auto._at-end)
