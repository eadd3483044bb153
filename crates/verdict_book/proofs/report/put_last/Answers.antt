use Rattle.std.proofs.Common.{refl, subst, Err}
use Rattle.dk_io.specs.Gathered.{Gathers}
use Rattle.dk_io.specs.declared.shelf.Failed.{Failed}
use Rattle.dk_io.proofs.Gather.{gathers_then, gathers_stop}
use Rattle.verdict_book.proofs.Lines.{stop_is, unread_is}
use Rattle.verdict_book.proofs.report.put_last.Goals as goal

pub returns-in-Ok-clause-put : goal.returns-in-Ok-clause-put
returns-in-Ok-clause-put g c =
    subst (λ text. Gathers {E = Failed} (g.K.Sink.taken c.args.sink.now) c.args.buffer.now (g.K.Sink.taken c.put_place.new.sink) c.put_place.new.buffer text c.put_place.result)
    (stop_is c.args.outcome.now c.in-Stopped.number c.line.result c.in-Stopped.place c.in-Stopped.verdict c.module.result.now c.args.style.now.budget c.args.style.now.folder.now c.in-Stopped.is c.line.ensures c.module.ensures)
    (gathers_then c.in-Ok.ensures.put c.put_place.ensures.put)

pub returns-in-Err-clause-put : goal.returns-in-Err-clause-put
returns-in-Err-clause-put g c =
    subst (λ text. Gathers {E = Failed} (g.K.Sink.taken c.args.sink.now) c.args.buffer.now (g.K.Sink.taken c.put_stop.new.sink) c.put_stop.new.buffer text (Err c.in-Err.failed))
    (stop_is c.args.outcome.now c.in-Stopped.number c.line.result c.in-Stopped.place c.in-Stopped.verdict c.in-Stopped.place.«module» c.args.style.now.budget c.args.style.now.folder.now c.in-Stopped.is c.line.ensures refl)
    (gathers_stop _ c.in-Err.ensures.put)

pub returns-in-Ok-put_pieces-clause-put : goal.returns-in-Ok-put_pieces-clause-put
returns-in-Ok-put_pieces-clause-put g c =
    subst (λ text. Gathers {E = Failed} (g.K.Sink.taken c.args.sink.now) c.args.buffer.now (g.K.Sink.taken c.put_place-in-Ok-put_pieces.new.sink) c.put_place-in-Ok-put_pieces.new.buffer text c.put_place-in-Ok-put_pieces.result)
    (unread_is c.args.outcome.now c.in-Unread.number c.in-Unread.place c.module-in-Ok-put_pieces.result.now c.args.style.now.budget c.args.style.now.folder.now c.in-Unread.is c.module-in-Ok-put_pieces.ensures)
    (gathers_then c.in-Ok-put_pieces.ensures.put c.put_place-in-Ok-put_pieces.ensures.put)

pub returns-in-Err-put_pieces-clause-put : goal.returns-in-Err-put_pieces-clause-put
returns-in-Err-put_pieces-clause-put g c =
    subst (λ text. Gathers {E = Failed} (g.K.Sink.taken c.args.sink.now) c.args.buffer.now (g.K.Sink.taken c.put_pieces-in-Unread.new.sink) c.put_pieces-in-Unread.new.buffer text (Err c.in-Err-put_pieces.failed))
    (unread_is c.args.outcome.now c.in-Unread.number c.in-Unread.place c.in-Unread.place.«module» c.args.style.now.budget c.args.style.now.folder.now c.in-Unread.is refl)
    (gathers_stop _ c.in-Err-put_pieces.ensures.put)
