use Rattle.std.proofs.Common.{map}
use Rattle.dk_model.specs.Scoping.{plain_command}
use Rattle.dk_check_run.specs.Run.{sink_of}
use Rattle.dk_check_run.proofs.CertifyRows.{all_puts, failed_put, memory_put, other_put}
use Rattle.dk_check_run.proofs.certifying.put_certificate.Goals as goal

pub returns-in-Ok : goal.returns-in-Ok
returns-in-Ok g c = all_puts (map plain_command c.args.commands.now) (sink_of g.K.Sink c.args.sink.now) (sink_of g.K.Sink c.certify.new.sink) c.in-Ok.ensures.ok c.in-Ok.ensures.cause

pub returns-in-Err-Failed : goal.returns-in-Err-Failed
returns-in-Err-Failed g c =
    failed_put c.args.budget (map plain_command c.args.commands.now) (sink_of g.K.Sink c.args.sink.now) (sink_of g.K.Sink c.certify.new.sink) c.in-Err-Failed.field-0 c.in-Err-Failed.ensures.fault c.in-Err-Failed.ensures.cause
    c.in-Err-Failed.field-0-is

pub returns-in-Err-NoMemory : goal.returns-in-Err-NoMemory
returns-in-Err-NoMemory g c =
    memory_put c.args.budget (map plain_command c.args.commands.now) (sink_of g.K.Sink c.args.sink.now) (sink_of g.K.Sink c.certify.new.sink) c.in-Err-NoMemory.field-0 c.in-Err-NoMemory.ensures.fault c.in-Err-NoMemory.ensures.cause
    c.in-Err-NoMemory.field-0-0 (sink_of g.K.Sink c.put_memory.new.sink) c.put_memory.result c.in-Err-NoMemory.field-0-is c.put_memory.ensures

pub returns-in-Err-NotAccepted : goal.returns-in-Err-NotAccepted
returns-in-Err-NotAccepted g c =
    other_put c.args.budget (map plain_command c.args.commands.now) (sink_of g.K.Sink c.args.sink.now) (sink_of g.K.Sink c.certify.new.sink) c.in-Err-NotAccepted.field-0 c.in-Err-NotAccepted.ensures.fault c.in-Err-NotAccepted.ensures.cause
    c.in-Err-NotAccepted.field-0-0 (sink_of g.K.Sink c.put_memory-in-Err-NotAccepted.new.sink) c.put_memory-in-Err-NotAccepted.result c.in-Err-NotAccepted.field-0-is c.put_memory-in-Err-NotAccepted.ensures
