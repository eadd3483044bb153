use Rattle.std.proofs.Common.{rules, sym, ap, ◌∙◌}
use Rattle.board_core.specs.declared.event.Event.TheVariants.{Seal}
use Rattle.board_core.specs.Shown.{Shown}
use Rattle.ticket_slot.specs.Views.{added_to, passed}
use Rattle.task_board.specs.Histories.{log_of}
use Rattle.task_board.proofs.Changing.{adds_one, legal_log}
use Rattle.task_board.proofs.Claiming.{legal_then}
use Rattle.task_board.proofs.Reading.{seal_allowed, seal_done}
use Rattle.task_board.proofs.board.Board.seal.Goals as goal

pub seal-requires : goal.seal-requires
seal-requires g c = let p = c.args.pass in let l = c.lock-judged.ensures in let b = c.lock-judged.result.book in
    seal_allowed g.J.Checkable.due g.J.Checkable.early p.seat.me.0 l.turn.0 b b record { reader = p.reader; free = p.free.0; none_joined = p.none_joined; seals = p.unsealed; idle = p.idle } l.lawful l.seen l.known l.mine c.args.end c.requires.end

pub add-requires-clause-lawful : goal.add-requires-clause-lawful
add-requires-clause-lawful g c = let b = c.lock-judged.result.book in let d = c.seal.new.self in let h = c.history-history.ensures in
    legal_log g.J.Checkable.due g.J.Checkable.early d.events d.jobs (legal_then g.J.Checkable.due g.J.Checkable.early b d (Seal c.args.end) c.lock-judged.ensures.lawful c.seal.ensures tt h.lawful h.all_put)

pub add-requires-clause-event : goal.add-requires-clause-event
add-requires-clause-event g c = let p = c.args.pass in let m = c.lock-judged.ensures.turn.1 in
    adds_one c.lock-judged.new.pass.me.0 c.lock-judged.result.book c.seal.new.self (Seal c.args.end) (ap (λ m. m.0.seen) m) (sym p.reader.0 ∙ sym (ap (λ m. m.0.number) m)) (ap (λ (x : Shown _). x.events) c.seal.ensures)

pub invariant_of-result : goal.invariant_of-result
invariant_of-result g c = let p = c.args.pass in let l = c.lock-judged.ensures in let b = c.lock-judged.result.book in let d = c.seal.new.self in let h = c.history-history.ensures in
    let done = seal_done g.J.Checkable.due g.J.Checkable.early p.seat.me.0 l.turn.0 b d record { reader = p.reader; free = p.free.0; none_joined = p.none_joined; seals = p.unsealed; idle = p.idle } l.lawful l.seen l.known l.mine c.args.end c.unlock.new.pass.me.0 c.seal.ensures h.lawful h.all_put
    (ap (λ m. m.0) c.unlock.ensures.passed ∙ (ap (λ m. passed m.0) c.add.ensures.added ∙ ap (λ m. passed (added_to m.0 (log_of d.events) d.jobs)) l.turn.1)) in
    let s = done.stays in record { reader = s.reader; free = (s.free, s.reader.1, ap (λ m. m.1) c.unlock.ensures.passed); none_joined = s.none_joined; sealed = s.seals; idle = s.idle }

pub returns : goal.returns
returns g c = let p = c.args.pass in let l = c.lock-judged.ensures in let b = c.lock-judged.result.book in let d = c.seal.new.self in let h = c.history-history.ensures in
    let done = seal_done g.J.Checkable.due g.J.Checkable.early p.seat.me.0 l.turn.0 b d record { reader = p.reader; free = p.free.0; none_joined = p.none_joined; seals = p.unsealed; idle = p.idle } l.lawful l.seen l.known l.mine c.args.end c.unlock.new.pass.me.0 c.seal.ensures h.lawful h.all_put
    (ap (λ m. m.0) c.unlock.ensures.passed ∙ (ap (λ m. passed m.0) c.add.ensures.added ∙ ap (λ m. passed (added_to m.0 (log_of d.events) d.jobs)) l.turn.1)) in
    record { own = search rules; made = search rules; turn = done.turn; added = done.added; known = search rules }
