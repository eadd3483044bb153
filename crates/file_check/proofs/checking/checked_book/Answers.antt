use Rattle.file_check.proofs.Desking.{some_of}
use Rattle.file_check.proofs.Crosses.{job_send, job_sync, worker_send}
use Rattle.std.proofs.Common.{◌∙◌, ap, sym, ◌+◌, arith}
use denote.Exit as Exit
use Rattle.std.proofs.Crossing.{crosses}
use denote.Param.Send.{sendable, arg_send, arg_sync, param_send, param_sync}
use Rattle.task_board.specs.Passes.{IsOver}
use Rattle.file_check.proofs.checking.checked_book.Goals as goal

pub run_crew-read-requires-send-C-Job : goal.run_crew-read-requires-send-C-Job
run_crew-read-requires-send-C-Job g c κs within = param_send 5 _ (arg_send _ Exit.no _ job_send)

pub run_crew-read-requires-sync-C-Job : goal.run_crew-read-requires-sync-C-Job
run_crew-read-requires-sync-C-Job g c κs within = param_sync 5 _ (arg_sync _ Exit.no _ job_sync)

pub close-requires-clause-own_workers : goal.close-requires-clause-own_workers
close-requires-clause-own_workers g c = λ k d h. (c.run_crew-read.ensures.over k d h).0

pub close-requires-clause-all : goal.close-requires-clause-all
close-requires-clause-all g c = ap (λ n. n + 1) c.run_crew-read.ensures.count ∙ c.requires.all ∙ sym c.run_crew-read.ensures.read.2

pub close-requires-clause-idle : goal.close-requires-clause-idle
close-requires-clause-idle g c = λ k d h. (c.run_crew-read.ensures.over k d h).1

pub returns-clause-finished : goal.returns-clause-finished
returns-clause-finished g c =
    let count = c.run_crew-read.ensures.count in
    let some = c.requires.some in
    c.close.ensures.finished (some_of (λ p. IsOver p.seat.me.0) c.run_crew-read.result.1 (omega (arith, count, some)) (λ k d h. (c.run_crew-read.ensures.over k d h).2))

pub run_crew-read-requires-send-C-Kit : goal.run_crew-read-requires-send-C-Kit
run_crew-read-requires-send-C-Kit g c κs within = let a = worker_send in search (sendable, crosses) depth 40 fits 20000
