use Rattle.std.proofs.Common.{◌∙◌, ap, arith, map, subst}
use Rattle.dk_model.specs.Scoping.{plain_command}
use Rattle.command_line.specs.Views.{plain_recheck}
use Rattle.book_reader.specs.Shelves.{shelf_of}
use Rattle.recheck_theory.specs.Views.{plain_answer}
use Rattle.dk_check_run.specs.Held.{FitsGiving}
use Rattle.dk_check_run.specs.Recheck.{line_due, unread_line}
use Rattle.dk_check_run.specs.Rechecking.{GivesAnswer}
use Rattle.dk_check_run.specs.Roots.{IsRootOf}
use Rattle.dk_check_run.specs.Run.{Writes, sink_of}
use Rattle.dk_check_run.proofs.PruneRows.{ends_since, is_given}
use Rattle.dk_check_run.proofs.RecheckRows.{answered_row, end_row, missing_row, no_memory_row, unread_row}
use Rattle.dk_check_run.proofs.rechecking.recheck_book.Goals as goal

pub returns-in_default : goal.returns-in_default
returns-in_default g c = no_memory_row c.args.limits (plain_recheck c.args.request.now) _ _ _ _ _ c.put_memory.ensures

-- the file wasn't read to its end
pub returns-in-Err : goal.returns-in-Err
returns-in-Err g c =
    let q = plain_recheck c.args.request.now in
    let read = c.in-Err.ensures in
    end_row c.args.limits q (shelf_of g.H.Shelf c.args.shelf.now) (shelf_of g.H.Shelf c.read_theory.new.shelf) _ _ _
    c.in-Ok.root (subst (λ m. IsRootOf c.args.limits m q.file c.in-Ok.root) c.standard_modules.ensures.value c.in-Ok.ensures)
    c.in-Err.end read.reads read.counts read.unopened c.put_end.ensures

-- at most one book is put aside
pub open_book-requires : goal.open_book-requires
open_book-requires g c = let few = c.in-Ok-read_theory.ensures.leaves.few in omega (arith, few)

-- the certificate couldn't be opened
pub returns-in-Err-open_book : goal.returns-in-Err-open_book
returns-in-Err-open_book g c =
    let q = plain_recheck c.args.request.now in
    let read = c.in-Ok-read_theory.ensures in
    missing_row c.args.limits q (shelf_of g.H.Shelf c.args.shelf.now) (shelf_of g.H.Shelf c.open_book.new.self) _ _ _
    c.in-Ok.root (subst (λ m. IsRootOf c.args.limits m q.file c.in-Ok.root) c.standard_modules.ensures.value c.in-Ok.ensures)
    (shelf_of g.H.Shelf c.read_theory.new.shelf) c.in-Ok-read_theory.commands read.reads read.counts c.in-Err-open_book.ensures.cause.failed c.put_unopened.ensures

pub returns-in_default-take_book : goal.returns-in_default-take_book
returns-in_default-take_book g c = no_memory_row c.args.limits (plain_recheck c.args.request.now) _ _ _ _ _ c.put_memory-in_default-take_book.ensures

pub returns : goal.returns
returns g c = no_memory_row c.args.limits (plain_recheck c.args.request.now) _ _ _ _ _ c.put_memory-in-Err-answer_of.ensures

-- a read of it failed
pub returns-in-Failed : goal.returns-in-Failed
returns-in-Failed g c =
    let q = plain_recheck c.args.request.now in
    let old = shelf_of g.H.Shelf c.args.shelf.now in
    let middle = shelf_of g.H.Shelf c.read_theory.new.shelf in
    let opened = shelf_of g.H.Shelf c.open_book.new.self in
    let new = shelf_of g.H.Shelf c.take_book.new.shelf in
    let read = c.in-Ok-read_theory.ensures in
    let bytes = c.in-Ok-take_book.given.bytes.items in
    let how = c.in-Ok-take_book.given.how in
    let gives = c.in-Ok-take_book.ensures.gives in
    let given_is = is_given q.certificate middle opened new bytes how c.in_default-open_book.ensures.opened gives (ends_since how middle opened new c.in_default-open_book.ensures.faults.stands c.in_default-open_book.ensures.cause.stands gives.ends) in
    unread_row c.args.limits q old new _ _ _
    c.in-Ok.root (subst (λ m. IsRootOf c.args.limits m q.file c.in-Ok.root) c.standard_modules.ensures.value c.in-Ok.ensures)
    middle c.in-Ok-read_theory.commands read.reads read.counts bytes how given_is read.books c.in-Failed.is
    (subst (λ n. FitsGiving n bytes how) c.certificate_limit-most.ensures c.in-Ok-take_book.ensures.fits)
    (subst (λ n. Writes (sink_of g.K.Sink c.args.sink.now) (sink_of g.K.Sink c.put_told.new.sink) (unread_line n) 3 c.put_told.result) (c.line_due-line.ensures ∙ ap line_due c.as_slice.ensures.value) c.put_told.ensures)

-- and what is answered of it
pub returns-in-Ok-answer_of : goal.returns-in-Ok-answer_of
returns-in-Ok-answer_of g c =
    let q = plain_recheck c.args.request.now in
    let old = shelf_of g.H.Shelf c.args.shelf.now in
    let middle = shelf_of g.H.Shelf c.read_theory.new.shelf in
    let opened = shelf_of g.H.Shelf c.open_book.new.self in
    let new = shelf_of g.H.Shelf c.take_book.new.shelf in
    let read = c.in-Ok-read_theory.ensures in
    let bytes = c.in-Ok-take_book.given.bytes.items in
    let how = c.in-Ok-take_book.given.how in
    let gives = c.in-Ok-take_book.ensures.gives in
    let given_is = is_given q.certificate middle opened new bytes how c.in_default-open_book.ensures.opened gives (ends_since how middle opened new c.in_default-open_book.ensures.faults.stands c.in_default-open_book.ensures.cause.stands gives.ends) in
    answered_row c.args.limits q old new _ _ _
    c.in-Ok.root (subst (λ m. IsRootOf c.args.limits m q.file c.in-Ok.root) c.standard_modules.ensures.value c.in-Ok.ensures)
    middle c.in-Ok-read_theory.commands read.reads read.counts bytes how given_is read.books c.in_default-how.not-Failed
    (subst (λ n. FitsGiving n bytes how) c.certificate_limit-most.ensures c.in-Ok-take_book.ensures.fits)
    (plain_answer c.in-Ok-answer_of.answer)
    (subst (λ n. GivesAnswer n (map plain_command c.in-Ok-read_theory.commands) bytes how (plain_answer c.in-Ok-answer_of.answer)) c.certificate_limit-most.ensures
    (subst (λ cs. GivesAnswer c.certificate_limit-most.result (map plain_command cs) bytes how (plain_answer c.in-Ok-answer_of.answer)) c.as_slice-in_default-how.ensures c.in-Ok-answer_of.ensures))
    c.put_answer.ensures
