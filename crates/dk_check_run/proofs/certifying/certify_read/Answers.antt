use Rattle.std.proofs.Common.{map, subst}
use Rattle.dk_model.specs.Scoping.{plain_command}
use Rattle.command_line.specs.Views.{plain_certify}
use Rattle.book_reader.specs.Shelves.{shelf_of}
use Rattle.dk_check_run.specs.Certifying.{PutsCertificate}
use Rattle.dk_check_run.specs.Roots.{IsRootOf}
use Rattle.dk_check_run.specs.Run.{sink_of}
use Rattle.dk_check_run.proofs.CertifyRows.{certificate_row, end_row, no_memory_row}
use Rattle.dk_check_run.proofs.certifying.certify_read.Goals as goal

pub returns-in_default : goal.returns-in_default
returns-in_default g c = λ before was. no_memory_row c.args.limits (plain_certify c.args.request.now) before _ _ _ _ c.put_memory.ensures

-- the commands weren't read to their end
pub returns-in-Err : goal.returns-in-Err
returns-in-Err g c = λ before was.
    let q = plain_certify c.args.request.now in
    let read = c.in-Err.ensures in
    end_row c.args.limits q before (shelf_of g.H.Shelf c.read_theory.new.shelf) _ _ _ (shelf_of g.H.Shelf c.args.shelf.now) was
    c.in-Ok.root (subst (λ m. IsRootOf c.args.limits m q.file c.in-Ok.root) c.standard_modules.ensures.value c.in-Ok.ensures)
    c.accepted_are_read.ensures.reported c.in-Err.end read.reads read.counts c.put_end.ensures

-- they were, and this was put
pub returns-in-Ok-read_theory : goal.returns-in-Ok-read_theory
returns-in-Ok-read_theory g c = λ before was.
    let q = plain_certify c.args.request.now in
    let read = c.in-Ok-read_theory.ensures in
    certificate_row c.args.limits q before (shelf_of g.H.Shelf c.read_theory.new.shelf) _ _ _ (shelf_of g.H.Shelf c.args.shelf.now) was
    c.in-Ok.root (subst (λ m. IsRootOf c.args.limits m q.file c.in-Ok.root) c.standard_modules.ensures.value c.in-Ok.ensures)
    c.in-Ok-read_theory.commands read.reads read.counts
    (subst (λ cs. PutsCertificate (map plain_command cs) (sink_of g.K.Sink c.args.sink.now) (sink_of g.K.Sink c.put_certificate.new.sink) c.put_certificate.result) c.as_slice.ensures c.put_certificate.ensures)
