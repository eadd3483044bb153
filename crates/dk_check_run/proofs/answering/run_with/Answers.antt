use Rattle.std.proofs.Common.{sym}
use Rattle.command_line.specs.Requests.{to_certify, to_check, to_make, to_prune, to_recheck, to_replay}
use Rattle.command_line.specs.Views.{plain_certify, plain_check, plain_make, plain_prune, plain_recheck, plain_replay}
use Rattle.dk_check_run.specs.Rows.{of_command}
use Rattle.book_reader.specs.Shelves.{shelf_of}
use Rattle.dk_check_run.proofs.answering.run_with.Goals as goal

pub returns-in-Check : goal.returns-in-Check
returns-in-Check g c = of_command (to_check (plain_check c.in-Check.request)) (sym (rw (c.in-Ok-Some.field-0-is, c.in-Check.is) at c.in-Ok-Some.ensures.ok)) c.check_file.ensures

pub returns-in-Make : goal.returns-in-Make
returns-in-Make g c =
    of_command (to_make (plain_make c.in-Make.request)) (sym (rw (c.in-Ok-Some.field-0-is, c.in-Make.is) at c.in-Ok-Some.ensures.ok)) (c.check_theory.ensures (shelf_of g.H.Shelf c.args.shelf.now))

pub returns-in-Certify : goal.returns-in-Certify
returns-in-Certify g c = of_command (to_certify (plain_certify c.in-Certify.request)) (sym (rw (c.in-Ok-Some.field-0-is, c.in-Certify.is) at c.in-Ok-Some.ensures.ok)) c.certify_book.ensures

pub returns-in-Recheck : goal.returns-in-Recheck
returns-in-Recheck g c = of_command (to_recheck (plain_recheck c.in-Recheck.request)) (sym (rw (c.in-Ok-Some.field-0-is, c.in-Recheck.is) at c.in-Ok-Some.ensures.ok)) c.recheck_book.ensures

pub returns-in-Prune : goal.returns-in-Prune
returns-in-Prune g c = of_command (to_prune (plain_prune c.in-Prune.request)) (sym (rw (c.in-Ok-Some.field-0-is, c.in-Prune.is) at c.in-Ok-Some.ensures.ok)) c.prune_book.ensures

pub returns-in-Replay : goal.returns-in-Replay
returns-in-Replay g c = of_command (to_replay (plain_replay c.in-Replay.request)) (sym (rw (c.in-Ok-Some.field-0-is, c.in-Replay.is) at c.in-Ok-Some.ensures.ok)) c.replay_book.ensures
