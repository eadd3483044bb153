use Rattle.std.proofs.Common.{sym, ◌∙◌, inl, inr, refl}
use Rattle.dk_check_run.proofs.Statuses.{status_not_five}
use Rattle.dk_check_run.proofs.rechecking.put_outcome.Goals as goal

pub returns-in-Ok : goal.returns-in-Ok
returns-in-Ok g c = record {
  known = inl c.status.ensures;
  whole = λ _. c.in-Ok.ensures.wrote.whole;
  held = λ _. c.in-Ok.ensures.cause.stands;
  failed = λ e. absurd (status_not_five c.args.outcome.now (sym c.status.ensures ∙ e));
  front = λ e. absurd (status_not_five c.args.outcome.now (sym c.status.ensures ∙ e));
}

pub returns-in-Err : goal.returns-in-Err
returns-in-Err g c = record {
  known = inr refl;
  whole = λ not. absurd (not refl);
  held = λ not. absurd (not refl);
  failed = λ _. c.in-Err.ensures.cause.failed;
  front = λ _. c.in-Err.ensures.wrote.front;
}
