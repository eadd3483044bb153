use Rattle.std.proofs.Common.{arith, refl, ap, length}
use Rattle.board_core.proofs.Rooms.{empty_keeps}
use Rattle.board_core.proofs.book.Book.new.Goals as goal

pub invariant_of-result : goal.invariant_of-result
invariant_of-result g c = let e = c.in_ok-jobs.ensures in let n = ap length e.empty.jobs in record {
  keeps = rw (e.empty.jobs, e.empty.waiting, e.empty.verdicts, e.empty.history) (empty_keeps _ (let p = e.places.history in omega (arith, p)));
  own = rw e.empty.waiting tt;
  wide = record {
    places = 1;
    power = (0, refl);
    enough = omega (arith, n);
    jobs_fit = e.places.jobs;
    waiting_fit = e.places.waiting;
    verdicts_fit = e.places.verdicts;
    history_fit = e.places.history;
  };
}
