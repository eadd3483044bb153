use Rattle.std.proofs.Common.{arith}
use Rattle.text_tests.proofs.reports.put_jobs.Goals as goal

pub loop-module-preserved : goal.loop-module-preserved
loop-module-preserved g c =
    let inv = c.loop-module.invariant in
    let one = c.put_job.ensures.one_more in
    record {
      line = omega (arith, inv.line, one);
      unsealed = c.put_job.ensures.unsealed;
      idle = λ w. c.put_job.ensures.idle w (inv.idle w);
    }
