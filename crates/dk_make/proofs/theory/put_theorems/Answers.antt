use Rattle.std.proofs.Common.{◌∙◌, ◌++◌, ◌+◌, ap}
use Rattle.dk_io.proofs.Gather.{moves_then, gathers_stop_at}
use Rattle.dk_make.specs.Theory.{theorem_of}
use Rattle.dk_make.proofs.Lines.{theorems_next}
use Rattle.dk_make.proofs.theory.put_theorems.Goals as goal

pub loop-place-preserved : goal.loop-place-preserved
loop-place-preserved g c = let inv = c.loop-place.invariant in record {
  before = (
    inv.before.0 ++ theorem_of (c.from-number.result + 1),
    moves_then inv.before.1 c.in-Ok.ensures.put.whole,
    theorems_next inv.before.0 _ c.loop-place.place c.args.n (c.from-number.result + 1) c.loop-place-test.true (ap (λ n. n + 1) c.from-number.ensures) inv.before.2,
  );
  faults = c.in-Ok.ensures.cause.stands ∙ inv.faults;
}

pub returns-in-Err-clause-put : goal.returns-in-Err-clause-put
returns-in-Err-clause-put g c = let inv = c.loop-place.invariant in
    gathers_stop_at inv.before.0 _ _ _ inv.before.1 c.in-Err.ensures.put
    (theorems_next inv.before.0 _ c.loop-place.place c.args.n (c.from-number.result + 1) c.loop-place-test.true (ap (λ n. n + 1) c.from-number.ensures) inv.before.2)
