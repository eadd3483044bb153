use Rattle.std.proofs.Common.{rules, sym, subst, ap, ◌∙◌}
use Rattle.board_core.specs.declared.event.Event.TheVariants.{Claim}
use Rattle.board_core.specs.Machine.{HoldsNone}
use Rattle.board_core.specs.Shown.{Shown, ClaimReply}
use Rattle.ticket_slot.specs.Views.{added_to, passed}
use Rattle.task_board.specs.Histories.{log_of}
use Rattle.task_board.proofs.Logs.{none_whole}
use Rattle.task_board.proofs.Changing.{adds_one, legal_log}
use Rattle.task_board.proofs.Claiming.{claim_told, legal_then}
use Rattle.task_board.proofs.board.Board.claim.Goals.{in-Task, in_default}
use Rattle.task_board.proofs.board.Board.claim.Goals as goal

pub claim-reply-requires : goal.claim-reply-requires
claim-reply-requires g c = let p = c.args.pass.now in let b = c.lock-judged.result.book in
    subst (λ w. HoldsNone w b.events) (sym p.numbered) (none_whole p.seat.me.0.number b.events p.seat.me.0.mine c.lock-judged.ensures.mine c.requires.idle)

pub add-requires-clause-lawful : goal.add-requires-clause-lawful
add-requires-clause-lawful g c = let p = c.args.pass.now in let b = c.lock-judged.result.book in let d = c.claim-reply.new.self in let h = c.history-history.ensures in
    let r = subst (λ q. ClaimReply b p.number q d) c.in-Task.is c.claim-reply.ensures.reply in
    legal_log g.J.Checkable.due g.J.Checkable.early d.events d.jobs
    (legal_then g.J.Checkable.due g.J.Checkable.early b d (Claim p.number c.in-Task.field-0.number) c.lock-judged.ensures.lawful r.2 tt h.lawful h.all_put)

pub add-requires-clause-event : goal.add-requires-clause-event
add-requires-clause-event g c = let p = c.args.pass.now in let b = c.lock-judged.result.book in let d = c.claim-reply.new.self in let m = c.lock-judged.ensures.turn.1 in
    let r = subst (λ q. ClaimReply b p.number q d) c.in-Task.is c.claim-reply.ensures.reply in
    adds_one c.lock-judged.new.pass.me.0 b d (Claim p.number c.in-Task.field-0.number) (ap (λ m. m.0.seen) m) (p.numbered ∙ sym (ap (λ m. m.0.number) m)) (ap (λ (x : Shown _). x.events) r.2)

pub returns : goal.returns
returns g c = let p = c.args.pass.now in let l = c.lock-judged.ensures in let b = c.lock-judged.result.book in let d = c.claim-reply.new.self in let h = c.history-history.ensures in
    let e = c.claim-reply.ensures in let gave = ap (λ m. m.0) c.unlock.ensures.passed in
    let told = claim_told g.J.Checkable.due g.J.Checkable.early p.seat.me.0 p.number l.turn.0 b d p.numbered l.lawful l.seen l.known l.mine c.claim-reply.result c.unlock.new.pass.me.0 c.requires.idle e.reply e.holds h.lawful h.all_put
    (λ k is. gave ∙ elim c.match-reply.branch [
      | in-Task w ↦ ap (λ s. passed s.me.0) w.seat-is ∙ (ap (λ m. passed m.0) w.add.ensures.added ∙ ap (λ m. passed (added_to m.0 (log_of d.events) d.jobs)) l.turn.1)
      | in_default w ↦ absurd (w.in_default.not-Task k is)
    ])
    (λ none. gave ∙ elim c.match-reply.branch [
      | in-Task w ↦ absurd (none _ w.in-Task.is)
      | in_default w ↦ ap (λ s. passed s.me.0) w.seat-is ∙ ap (λ m. passed m.0) l.turn.1
    ]) in record { own = search rules; number = search rules; turn = told.0; reply = told.1 }
