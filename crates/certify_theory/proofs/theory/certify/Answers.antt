use Rattle.std.proofs.Common.{map}
use Rattle.dk_model.specs.Scoping.{plain_command}
use Rattle.certify_theory.proofs.Ends.{certificate_taken, certificate_cut, failed_taken, not_accepted_cut, no_memory_cut}
use Rattle.certify_theory.proofs.theory.certify.Goals as goal

pub returns-in-Ok-put_last-clause-ok : goal.returns-in-Ok-put_last-clause-ok
returns-in-Ok-put_last-clause-ok g c = certificate_taken c.new-buffer.ensures c.in-Ok.ensures.ok c.in-Ok-put_last.ensures.wrote

pub returns-in-Err-clause-fault : goal.returns-in-Err-clause-fault
returns-in-Err-clause-fault g c = certificate_cut c.new-buffer.ensures c.in-Ok.ensures.ok c.in-Err.ensures.wrote

pub returns-in-Err-Failed-clause-fault : goal.returns-in-Err-Failed-clause-fault
returns-in-Err-Failed-clause-fault g c = failed_taken c.args.budget (map plain_command c.args.commands.now) (g.K.Sink.taken c.args.sink.now) _ c.new-buffer.ensures
    c.in-Err-Failed.field-0 c.in-Err-Failed.ensures.fault c.in-Err-Failed.field-0-is

pub returns-in-Err-flush-clause-fault : goal.returns-in-Err-flush-clause-fault
returns-in-Err-flush-clause-fault g c = not_accepted_cut c.args.budget (map plain_command c.args.commands.now) (g.K.Sink.taken c.args.sink.now) c.new-buffer.ensures
    c.in-Err-NotAccepted.field-0 c.in-Err-NotAccepted.number c.in-Err-NotAccepted.ensures.fault c.in-Err-NotAccepted.field-0-is c.in-Err-flush.ensures.wrote

pub returns-in-Err-flush-2-clause-fault : goal.returns-in-Err-flush-2-clause-fault
returns-in-Err-flush-2-clause-fault g c = no_memory_cut c.args.budget (map plain_command c.args.commands.now) (g.K.Sink.taken c.args.sink.now) c.new-buffer.ensures
    c.in-Err-NoMemory.field-0 c.in-Err-NoMemory.number c.in-Err-NoMemory.ensures.fault c.in-Err-NoMemory.field-0-is c.in-Err-flush-2.ensures.wrote
