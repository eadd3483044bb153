use Rattle.std.proofs.Common.{inl, inr, refl}
use Rattle.dk_check_run.proofs.rechecking.put_told.Goals as goal

pub returns-in-Ok : goal.returns-in-Ok
returns-in-Ok g c = record {
  known = inl refl;
  whole = λ _. c.in-Ok.ensures.wrote.whole;
  held = λ _. c.in-Ok.ensures.cause.stands;
  failed = λ five. absurd (c.requires five);
  front = λ five. absurd (c.requires five);
}

pub returns-in-Err : goal.returns-in-Err
returns-in-Err g c = record {
  known = inr refl;
  whole = λ not. absurd (not refl);
  held = λ not. absurd (not refl);
  failed = λ _. c.in-Err.ensures.cause.failed;
  front = λ _. c.in-Err.ensures.wrote.front;
}
