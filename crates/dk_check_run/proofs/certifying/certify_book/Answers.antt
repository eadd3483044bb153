use Rattle.std.proofs.Common.{subst}
use Rattle.std.specs.Prelude.{None, Some}
use Rattle.std.specs.String.{string_bytes}
use Rattle.dk_io.specs.Causes.{Rose}
use Rattle.command_line.specs.Requests.{to_certify}
use Rattle.command_line.specs.Views.{plain_certify}
use Rattle.book_reader.specs.Ends.{LeavesFormer}
use Rattle.book_reader.specs.Shelves.{shelf_of}
use Rattle.file_check.specs.Checks.{IsUnchecked, LeavesAt, LeavesUnread}
use Rattle.dk_check_run.specs.Certifying.{PutsOther}
use Rattle.dk_check_run.specs.Run.{SinkState, sink_of}
use Rattle.dk_check_run.specs.Table.{RunsCommand}
use Rattle.dk_check_run.proofs.CertifyRows.{missed_row, no_memory_row, other_row, was_accepted}
use Rattle.dk_check_run.proofs.certifying.certify_book.Goals as goal

pub returns-in_default : goal.returns-in_default
returns-in_default g c = no_memory_row c.args.limits (plain_certify c.args.request.now) _ _ _ _ _ c.put_memory.ensures

-- an accepted check leaves no book aside
pub certify_read-requires-clause-shelf : goal.certify_read-requires-clause-shelf
certify_read-requires-clause-shelf g c =
    let q = plain_certify c.args.request.now in
    let old = shelf_of g.H.Shelf c.args.shelf.now in
    let new = shelf_of g.H.Shelf c.check_books.new.shelf in
    let checks = c.in-Ok-check_books.ensures.checks in
    let other : PutsOther q (sink_of g.K.Sink c.args.sink.now) (sink_of g.K.Sink c.put_other.new.sink) checks.report.outcome None =
    subst (PutsOther q (sink_of g.K.Sink c.args.sink.now) (sink_of g.K.Sink c.put_other.new.sink) checks.report.outcome) c.in-None.is (c.put_other.ensures checks.report checks.report_is) in
    let leaves : LeavesFormer old new = subst (LeavesAt old new) other.0.1 checks.leaves in
    leaves.none c.requires.closed

-- the check ended otherwise
pub returns-in-Some : goal.returns-in-Some
returns-in-Some g c =
    let q = plain_certify c.args.request.now in
    let before = sink_of g.K.Sink c.args.sink.now in
    let after = sink_of g.K.Sink c.put_other.new.sink in
    let checks = c.in-Ok-check_books.ensures.checks in
    let other : PutsOther q before after checks.report.outcome (Some c.in-Some.status) =
    subst (PutsOther q before after checks.report.outcome) c.in-Some.is (c.put_other.ensures checks.report checks.report_is) in
    other_row c.args.limits q c.standard_modules.result c.in-Ok.root c.in-Ok.ensures c.standard_modules.ensures.value (shelf_of g.H.Shelf c.args.shelf.now) (shelf_of g.H.Shelf c.check_books.new.shelf)
    c.in-Ok-check_books.checked.titles c.in-Ok-check_books.checked.book.events checks before after c.in-Some.status other

-- it accepted the file
pub returns-in-None : goal.returns-in-None
returns-in-None g c =
    let q = plain_certify c.args.request.now in
    let old = shelf_of g.H.Shelf c.args.shelf.now in
    let before = sink_of g.K.Sink c.args.sink.now in
    let middle = sink_of g.K.Sink c.put_other.new.sink in
    let checks = c.in-Ok-check_books.ensures.checks in
    let other : PutsOther q before middle checks.report.outcome None =
    subst (PutsOther q before middle checks.report.outcome) c.in-None.is (c.put_other.ensures checks.report checks.report_is) in
    subst (λ (s : SinkState). RunsCommand c.args.limits (to_certify q) old (shelf_of g.H.Shelf c.certify_read.new.shelf) s (sink_of g.K.Sink c.certify_read.new.sink) c.certify_read.result) other.1
    (c.certify_read.ensures old
    (was_accepted c.args.limits q c.standard_modules.result c.in-Ok.root c.in-Ok.ensures c.standard_modules.ensures.value old (shelf_of g.H.Shelf c.check_books.new.shelf)
    c.in-Ok-check_books.checked.titles c.in-Ok-check_books.checked.book.events checks other.0.0 other.0.1))

-- the file couldn't be opened
pub returns-in-Err-Unopened : goal.returns-in-Err-Unopened
returns-in-Err-Unopened g c =
    let q = plain_certify c.args.request.now in
    let old = shelf_of g.H.Shelf c.args.shelf.now in
    let new = shelf_of g.H.Shelf c.check_books.new.shelf in
    let leaves : LeavesUnread (string_bytes c.in-Ok.root.file) old new = subst (IsUnchecked (string_bytes c.in-Ok.root.file) old new) c.in-Err-Unopened.field-0-is c.in-Err-Unopened.ensures.err in
    missed_row c.args.limits q old new _ _ _ (record { left = leaves.left; aside = leaves.aside; is_open = leaves.is_open })
    (subst (λ f. Rose (old.missed f) (new.missed f)) c.in-Ok.ensures.file_is leaves.missed) c.put_unopened.ensures

pub returns-in-Err-NoMemory : goal.returns-in-Err-NoMemory
returns-in-Err-NoMemory g c = no_memory_row c.args.limits (plain_certify c.args.request.now) _ _ _ _ _ c.put_memory-in-Err-NoMemory.ensures
