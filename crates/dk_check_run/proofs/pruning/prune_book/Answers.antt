use Rattle.std.proofs.Common.{◌∙◌, refl, subst, sym}
use Rattle.command_line.specs.Views.{plain_prune}
use Rattle.theory_walk.specs.BookNames.{own_module}
use Rattle.book_reader.specs.Shelves.{shelf_of}
use Rattle.prune_file.specs.Files.{IsAccepted}
use Rattle.dk_check_run.specs.Held.{GivesBook, PutsPruned, rest_of}
use Rattle.dk_check_run.specs.Run.{sink_of}
use Rattle.dk_check_run.proofs.PruneRows.{ends_at, ends_since, is_accepted, is_given, missed_row, no_memory_row, pruned_row, stop_row, told_last, unread_row}
use Rattle.dk_check_run.proofs.pruning.prune_book.Goals as goal

pub returns-in-Err : goal.returns-in-Err
returns-in-Err g c = missed_row c.args.limits (plain_prune c.args.request.now) _ _ _ _ _
    (record { left = c.in-Err.ensures.kept; aside = c.in-Err.ensures.kept_aside; is_open = c.in-Err.ensures.kept_open }) c.in-Err.ensures.cause.failed c.put_unopened.ensures

pub returns-in_default-take_book : goal.returns-in_default-take_book
returns-in_default-take_book g c = no_memory_row c.args.limits (plain_prune c.args.request.now) _ _ _ _ _ c.put_memory.ensures

pub returns-in_default-root_of : goal.returns-in_default-root_of
returns-in_default-root_of g c = no_memory_row c.args.limits (plain_prune c.args.request.now) _ _ _ _ _ c.put_memory-in_default-root_of.ensures

pub returns-in_default-check_books : goal.returns-in_default-check_books
returns-in_default-check_books g c = no_memory_row c.args.limits (plain_prune c.args.request.now) _ _ _ _ _ c.put_memory-in_default-check_books.ensures

pub returns-in-Accepted : goal.returns-in-Accepted
returns-in-Accepted g c = no_memory_row c.args.limits (plain_prune c.args.request.now) _ _ _ _ _ c.put_memory-in_default-how.ensures

pub returns-in-Unread : goal.returns-in-Unread
returns-in-Unread g c = no_memory_row c.args.limits (plain_prune c.args.request.now) _ _ _ _ _ c.put_memory-in_default-how-2.ensures

pub returns-in-Unopened : goal.returns-in-Unopened
returns-in-Unopened g c = no_memory_row c.args.limits (plain_prune c.args.request.now) _ _ _ _ _ c.put_memory-in-Unopened.ensures

-- the file is accepted
pub put_pruned-requires : goal.put_pruned-requires
put_pruned-requires g c =
    let q = plain_prune c.args.request.now in
    let old = shelf_of g.H.Shelf c.args.shelf.now in
    let middle = shelf_of g.H.Shelf c.open_book.new.self in
    let new = shelf_of g.H.Shelf c.take_book.new.shelf in
    let how = c.in-Ok.given.how in
    let gives : GivesBook middle new c.as_slice.result.now how = subst (λ bs. GivesBook middle new bs how) (sym c.as_slice.ensures.value) c.in-Ok.ensures.gives in
    let given_is = is_given q.file old middle new c.as_slice.result.now how c.in_default.ensures.opened gives (ends_since how old middle new c.in_default.ensures.faults.stands c.in_default.ensures.cause.stands gives.ends) in
    let checks = c.in-Ok-check_books.ensures.checks in
    let outcome_is = c.outcome_of.ensures.value checks.report checks.report_is in
    let ends = ends_at c.args.limits q c.in-Ok-root_of.root c.as_slice.result.now (rest_of how new.left) c.in-Ok-root_of.ensures _ _ _ _ checks refl _ _ outcome_is c.in-Accepted.is in
    subst (IsAccepted c.args.limits (own_module q.file) q.budget) (c.as_slice.ensures.value ∙ sym c.as_slice-in-Whole.ensures.value)
    (is_accepted c.args.limits q old new (sink_of g.K.Sink c.args.sink.now) (sink_of g.K.Sink c.args.sink.now) 0 c.as_slice.result.now how given_is checks.report.lines c.reported_is_accepted.ensures c.in-Whole.is c.in-Accepted.field-0 ends.0)

pub returns-in-Whole : goal.returns-in-Whole
returns-in-Whole g c =
    let q = plain_prune c.args.request.now in
    let old = shelf_of g.H.Shelf c.args.shelf.now in
    let middle = shelf_of g.H.Shelf c.open_book.new.self in
    let new = shelf_of g.H.Shelf c.take_book.new.shelf in
    let how = c.in-Ok.given.how in
    let gives : GivesBook middle new c.as_slice.result.now how = subst (λ bs. GivesBook middle new bs how) (sym c.as_slice.ensures.value) c.in-Ok.ensures.gives in
    let given_is = is_given q.file old middle new c.as_slice.result.now how c.in_default.ensures.opened gives (ends_since how old middle new c.in_default.ensures.faults.stands c.in_default.ensures.cause.stands gives.ends) in
    let checks = c.in-Ok-check_books.ensures.checks in
    let outcome_is = c.outcome_of.ensures.value checks.report checks.report_is in
    let ends = ends_at c.args.limits q c.in-Ok-root_of.root c.as_slice.result.now (rest_of how new.left) c.in-Ok-root_of.ensures _ _ _ _ checks refl _ _ outcome_is c.in-Accepted.is in
    pruned_row c.args.limits q old new _ _ _ c.as_slice.result.now how given_is checks.report.lines c.in-Whole.is
    (is_accepted c.args.limits q old new (sink_of g.K.Sink c.args.sink.now) (sink_of g.K.Sink c.args.sink.now) 0 c.as_slice.result.now how given_is checks.report.lines c.reported_is_accepted.ensures c.in-Whole.is c.in-Accepted.field-0 ends.0)
    (subst (λ bytes. PutsPruned c.args.limits q bytes (sink_of g.K.Sink c.args.sink.now) (sink_of g.K.Sink c.put_pruned.new.sink) c.put_pruned.result) (c.as_slice-in-Whole.ensures.value ∙ sym c.as_slice.ensures.value) c.put_pruned.ensures)

-- a read failed
pub returns-in-Failed : goal.returns-in-Failed
returns-in-Failed g c =
    let q = plain_prune c.args.request.now in
    let old = shelf_of g.H.Shelf c.args.shelf.now in
    let middle = shelf_of g.H.Shelf c.open_book.new.self in
    let new = shelf_of g.H.Shelf c.take_book.new.shelf in
    let how = c.in-Ok.given.how in
    let gives : GivesBook middle new c.as_slice.result.now how = subst (λ bs. GivesBook middle new bs how) (sym c.as_slice.ensures.value) c.in-Ok.ensures.gives in
    let given_is = is_given q.file old middle new c.as_slice.result.now how c.in_default.ensures.opened gives (ends_since how old middle new c.in_default.ensures.faults.stands c.in_default.ensures.cause.stands gives.ends) in
    let checks = c.in-Ok-check_books.ensures.checks in
    let outcome_is = c.outcome_of.ensures.value checks.report checks.report_is in
    let ends = ends_at c.args.limits q c.in-Ok-root_of.root c.as_slice.result.now (rest_of how new.left) c.in-Ok-root_of.ensures _ _ _ _ checks refl _ _ outcome_is c.in-Unread.is in
    let high = c.check_books.new.shelf in
    unread_row c.args.limits q old new _ _ _ c.as_slice.result.now how given_is checks.report.lines _ _ checks.books refl refl c.in-Failed.is c.in-Unread.number c.in-Unread.place ends refl
    high.file.now high.bytes.now (rest_of high.how (g.H.Shelf.left high.shelf.now)) high.at high.faults refl refl refl c.put_last.ensures

-- a command stopped the theory
pub returns : goal.returns
returns g c =
    let q = plain_prune c.args.request.now in
    let old = shelf_of g.H.Shelf c.args.shelf.now in
    let middle = shelf_of g.H.Shelf c.open_book.new.self in
    let new = shelf_of g.H.Shelf c.take_book.new.shelf in
    let how = c.in-Ok.given.how in
    let gives : GivesBook middle new c.as_slice.result.now how = subst (λ bs. GivesBook middle new bs how) (sym c.as_slice.ensures.value) c.in-Ok.ensures.gives in
    let given_is = is_given q.file old middle new c.as_slice.result.now how c.in_default.ensures.opened gives (ends_since how old middle new c.in_default.ensures.faults.stands c.in_default.ensures.cause.stands gives.ends) in
    let checks = c.in-Ok-check_books.ensures.checks in
    let outcome_is = c.outcome_of.ensures.value checks.report checks.report_is in
    let ends = ends_at c.args.limits q c.in-Ok-root_of.root c.as_slice.result.now (rest_of how new.left) c.in-Ok-root_of.ensures _ _ _ _ checks refl _ _ outcome_is c.in-Stopped.is in
    stop_row c.args.limits q old new _ _ _ c.as_slice.result.now how given_is checks.report.lines _ _ checks.books refl refl c.in-Stopped.number c.in-Stopped.place c.in-Stopped.verdict c.in-Stopped.ensures.fault ends
    (told_last q _ _ c.in-Stopped.number c.in-Stopped.place c.in-Stopped.verdict c.told.result _ c.told.ensures c.put_last-in-Stopped.ensures)
