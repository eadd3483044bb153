use Rattle.std.proofs.Common.{rules, sym, ap, ◌∙◌}
use Rattle.board_core.specs.declared.event.Event.TheVariants.{Answer}
use Rattle.board_core.specs.Shown.{Shown}
use Rattle.ticket_slot.specs.Views.{added_to, passed}
use Rattle.task_board.specs.Histories.{log_of}
use Rattle.task_board.proofs.Changing.{adds_one, legal_log}
use Rattle.task_board.proofs.Claiming.{answer_allowed, answer_due, answer_told, legal_then}
use Rattle.task_board.proofs.board.Board.answer.Goals as goal

pub answer-requires : goal.answer-requires
answer-requires g c = let p = c.args.pass.now in let l = c.lock-judged.ensures in
    answer_allowed g.J.Checkable.due g.J.Checkable.early p.seat.me.0 p.number l.turn.0 c.lock-judged.result.book c.lock-judged.result.book p.numbered l.lawful l.seen l.known l.mine _ _ c.requires.task

pub add-requires-clause-lawful : goal.add-requires-clause-lawful
add-requires-clause-lawful g c = let p = c.args.pass.now in let l = c.lock-judged.ensures in let b = c.lock-judged.result.book in let d = c.answer.new.self in let h = c.history-history.ensures in let r = c.requires in
    legal_log g.J.Checkable.due g.J.Checkable.early d.events d.jobs
    (legal_then g.J.Checkable.due g.J.Checkable.early b d (Answer p.number c.args.task.number c.args.verdict) l.lawful c.answer.ensures.added
    (answer_due g.J.Checkable.due g.J.Checkable.early p.seat.me.0 p.number l.turn.0 b d p.numbered l.lawful l.seen l.known l.mine _ _ c.args.verdict r.task r.due) h.lawful h.all_put)

pub add-requires-clause-event : goal.add-requires-clause-event
add-requires-clause-event g c = let p = c.args.pass.now in let m = c.lock-judged.ensures.turn.1 in
    adds_one c.lock-judged.new.pass.me.0 c.lock-judged.result.book c.answer.new.self (Answer p.number c.args.task.number c.args.verdict) (ap (λ m. m.0.seen) m) (p.numbered ∙ sym (ap (λ m. m.0.number) m)) (ap (λ (x : Shown _). x.events) c.answer.ensures.added)

pub returns : goal.returns
returns g c = let p = c.args.pass.now in let l = c.lock-judged.ensures in let b = c.lock-judged.result.book in let d = c.answer.new.self in let h = c.history-history.ensures in let e = c.answer.ensures in let r = c.requires in
    let told = answer_told g.J.Checkable.due g.J.Checkable.early p.seat.me.0 p.number l.turn.0 b d p.numbered l.lawful l.seen l.known l.mine _ _ c.args.verdict c.unlock.new.pass.me.0 r.task r.due e.added e.idle h.lawful h.all_put
    (ap (λ m. m.0) c.unlock.ensures.passed ∙ (ap (λ m. passed m.0) c.add.ensures.added ∙ ap (λ m. passed (added_to m.0 (log_of d.events) d.jobs)) l.turn.1)) in
    record { own = search rules; number = search rules; turn = told.0; added = told.1; idle = told.2 }
