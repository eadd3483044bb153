use Rattle.std.proofs.Common.{inl, inr, refl, arith}
use Rattle.dk_check_run.proofs.replaying.put_memory_at.Goals as goal

pub returns-in-Ok : goal.returns-in-Ok
returns-in-Ok g c = record {
  known = inl refl;
  whole = λ _. c.in-Ok.ensures.wrote.whole;
  held = λ _. c.in-Ok.ensures.cause.stands;
  failed = λ e. absurd (omega (arith, e));
  front = λ e. absurd (omega (arith, e));
}

pub returns-in-Err : goal.returns-in-Err
returns-in-Err g c = record {
  known = inr refl;
  whole = λ not. absurd (not refl);
  held = λ not. absurd (not refl);
  failed = λ _. c.in-Err.ensures.cause.failed;
  front = λ _. c.in-Err.ensures.wrote.front;
}
