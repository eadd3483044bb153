use Rattle.std.proofs.Common.{◌∙◌, refl, subst}
use Rattle.dk_io.specs.Causes.{Rose}
use Rattle.command_line.specs.Views.{plain_replay}
use Rattle.book_reader.specs.Shelves.{shelf_of}
use Rattle.dk_check_run.specs.Run.{sink_of}
use Rattle.dk_check_run.proofs.ReplayRows.{cut_row, memory_row, missed_row, unread_row, whole_row}
use Rattle.dk_check_run.proofs.replaying.replay_book.Goals as goal

pub returns-in-Err : goal.returns-in-Err
returns-in-Err g c = missed_row c.args.limits (plain_replay c.args.request.now) _ _ _ _ _
    (record { left = c.in-Err.ensures.kept; aside = c.in-Err.ensures.kept_aside; is_open = c.in-Err.ensures.kept_open }) c.in-Err.ensures.cause.failed c.put_unopened.ensures

-- all lines were taken
pub returns-in-Whole : goal.returns-in-Whole
returns-in-Whole g c =
    whole_row c.args.limits (plain_replay c.args.request.now) (shelf_of g.H.Shelf c.args.shelf.now) (shelf_of g.H.Shelf c.open_book.new.self) (shelf_of g.H.Shelf c.replay_script.new.shelf)
    (sink_of g.K.Sink c.args.sink.now) (sink_of g.K.Sink c.replay_script.new.sink) _ c.in_default.ensures.opened c.in-Whole.ensures.ends
    (record {
      faults = c.in-Whole.ensures.faults refl ∙ c.in_default.ensures.faults.stands;
      missed = λ name. c.in-Whole.ensures.missed refl name ∙ c.in_default.ensures.cause.stands name;
    })
    refl

-- a read failed
pub returns-in-Unread : goal.returns-in-Unread
returns-in-Unread g c =
    let new = shelf_of g.H.Shelf c.replay_script.new.shelf in
    unread_row c.args.limits (plain_replay c.args.request.now) (shelf_of g.H.Shelf c.args.shelf.now) (shelf_of g.H.Shelf c.open_book.new.self) new
    (sink_of g.K.Sink c.args.sink.now) (sink_of g.K.Sink c.put_unread.new.sink) _ c.in_default.ensures.opened c.in-Unread.number (sink_of g.K.Sink c.replay_script.new.sink) c.in-Unread.ensures.ends
    (subst (λ n. Rose n new.faults) c.in_default.ensures.faults.stands (c.in-Unread.ensures.unread c.in-Unread.number refl)) c.put_unread.ensures

-- a write failed
pub returns-in-SinkFailed : goal.returns-in-SinkFailed
returns-in-SinkFailed g c =
    cut_row c.args.limits (plain_replay c.args.request.now) (shelf_of g.H.Shelf c.args.shelf.now) (shelf_of g.H.Shelf c.open_book.new.self) (shelf_of g.H.Shelf c.replay_script.new.shelf)
    (sink_of g.K.Sink c.args.sink.now) (sink_of g.K.Sink c.replay_script.new.sink) _ c.in_default.ensures.opened c.in-SinkFailed.ensures.ends refl

-- memory ended
pub returns-in-NoMemory : goal.returns-in-NoMemory
returns-in-NoMemory g c =
    memory_row c.args.limits (plain_replay c.args.request.now) (shelf_of g.H.Shelf c.args.shelf.now) (shelf_of g.H.Shelf c.open_book.new.self) (shelf_of g.H.Shelf c.replay_script.new.shelf)
    (sink_of g.K.Sink c.args.sink.now) (sink_of g.K.Sink c.put_memory_at.new.sink) _ c.in_default.ensures.opened c.in-NoMemory.number (sink_of g.K.Sink c.replay_script.new.sink) c.in-NoMemory.ensures.ends c.put_memory_at.ensures
