use Rattle.std.proofs.Common.{rules, arith, sym, subst, ap, ◌∙◌, ◌≡◌, ◌∷◌, ◌++◌, ◌+◌, ℕ, [], IfOk, IfErr}
use Rattle.std.specs.Arc.{arc_value}
use Rattle.board_core.specs.declared.event.Event.TheVariants.{Put}
use Rattle.board_core.specs.Shown.{Shown, IsRefusal, put_on}
use Rattle.ticket_slot.specs.Views.{added_to, passed}
use Rattle.task_board.specs.Histories.{log_of}
use Rattle.task_board.proofs.Changing.{adds_one, legal_log}
use Rattle.task_board.proofs.Reading.{open_book, put_done, put_known, put_legal, put_more}
use Rattle.task_board.proofs.board.Board.put.Goals.{in-Ok, in_default}
use Rattle.task_board.proofs.board.Board.put.Goals as goal

pub post-reply-requires-clause-unsealed : goal.post-reply-requires-clause-unsealed
post-reply-requires-clause-unsealed g c = let p = c.args.pass.now in let l = c.lock-judged.ensures in let b = c.lock-judged.result.book in
    open_book g.J.Checkable.due g.J.Checkable.early p.seat.me.0 l.turn.0 b b record { reader = p.reader; free = p.free.0; none_joined = p.none_joined; seals = p.unsealed; idle = p.idle } l.lawful l.seen l.known l.mine

pub add-requires-clause-lawful : goal.add-requires-clause-lawful
add-requires-clause-lawful g c = let p = c.args.pass.now in let l = c.lock-judged.ensures in let b = c.lock-judged.result.book in let d = c.post-reply.new.self in let h = c.history-history.ensures in let o = c.new-offer.ensures in
    let told : IfOk c.post-reply.result.0 (λ n. d ≡ put_on b (arc_value c.args.job) c.args.settled n) = subst (λ s. IfOk c.post-reply.result.0 (λ n. d ≡ put_on b (arc_value c.args.job) s n)) o.settled
    (subst (λ j. IfOk c.post-reply.result.0 (λ n. d ≡ put_on b j c.new-offer.result.settled n)) o.job c.post-reply.ensures.ok) in
    let is = subst (λ q. IfOk q (λ n. d ≡ put_on b (arc_value c.args.job) c.args.settled n)) c.in-Ok.is told in
    legal_log g.J.Checkable.due g.J.Checkable.early d.events d.jobs
    (put_legal g.J.Checkable.due g.J.Checkable.early p.seat.me.0 l.turn.0 b d record { reader = p.reader; free = p.free.0; none_joined = p.none_joined; seals = p.unsealed; idle = p.idle } l.lawful l.seen l.known l.mine
    (arc_value c.args.job) c.args.settled c.in-Ok.field-0 c.requires.settled is h.lawful h.all_put)

pub add-requires-clause-event : goal.add-requires-clause-event
add-requires-clause-event g c = let p = c.args.pass.now in let b = c.lock-judged.result.book in let d = c.post-reply.new.self in let m = c.lock-judged.ensures.turn.1 in let o = c.new-offer.ensures in
    let told : IfOk c.post-reply.result.0 (λ n. d ≡ put_on b (arc_value c.args.job) c.args.settled n) = subst (λ s. IfOk c.post-reply.result.0 (λ n. d ≡ put_on b (arc_value c.args.job) s n)) o.settled
    (subst (λ j. IfOk c.post-reply.result.0 (λ n. d ≡ put_on b j c.new-offer.result.settled n)) o.job c.post-reply.ensures.ok) in
    let is = subst (λ q. IfOk q (λ n. d ≡ put_on b (arc_value c.args.job) c.args.settled n)) c.in-Ok.is told in
    adds_one c.lock-judged.new.pass.me.0 b d (Put c.in-Ok.field-0) (ap (λ m. m.0.seen) m) (sym p.reader.0 ∙ sym (ap (λ m. m.0.number) m)) (ap (λ (x : Shown _). x.events) is)

pub add-requires-clause-list : goal.add-requires-clause-list
add-requires-clause-list g c = let p = c.args.pass.now in let b = c.lock-judged.result.book in let d = c.post-reply.new.self in let m = c.lock-judged.ensures.turn.1 in let o = c.new-offer.ensures in
    let told : IfOk c.post-reply.result.0 (λ n. d ≡ put_on b (arc_value c.args.job) c.args.settled n) = subst (λ s. IfOk c.post-reply.result.0 (λ n. d ≡ put_on b (arc_value c.args.job) s n)) o.settled
    (subst (λ j. IfOk c.post-reply.result.0 (λ n. d ≡ put_on b j c.new-offer.result.settled n)) o.job c.post-reply.ensures.ok) in
    let is = subst (λ q. IfOk q (λ n. d ≡ put_on b (arc_value c.args.job) c.args.settled n)) c.in-Ok.is told in
    (λ _. ((arc_value c.args.job, c.args.settled) ∷ [], ap (λ (x : Shown _). x.jobs) is ∙ (λ i. sym (ap (λ m. m.0.known) m) i ++ (arc_value c.args.job, c.args.settled) ∷ [])), λ other. absurd (other (ap (λ m. m.0.number) m ∙ p.reader.0)))

pub invariant_of-pass : goal.invariant_of-pass
invariant_of-pass g c = let p = c.args.pass.now in let l = c.lock-judged.ensures in let b = c.lock-judged.result.book in let d = c.post-reply.new.self in let h = c.history-history.ensures in let e = c.post-reply.ensures in let o = c.new-offer.ensures in
    let told : IfOk c.post-reply.result.0 (λ n. d ≡ put_on b (arc_value c.args.job) c.args.settled n) = subst (λ s. IfOk c.post-reply.result.0 (λ n. d ≡ put_on b (arc_value c.args.job) s n)) o.settled
    (subst (λ j. IfOk c.post-reply.result.0 (λ n. d ≡ put_on b j c.new-offer.result.settled n)) o.job c.post-reply.ensures.ok) in
    let why : IfErr c.post-reply.result.0 (λ r. IsRefusal b.events (arc_value c.args.job) r) = subst (λ j. IfErr c.post-reply.result.0 (λ r. IsRefusal b.events j r)) o.job e.refused in
    let gave = ap (λ m. m.0) c.unlock.ensures.passed in
    let done = put_done g.J.Checkable.due g.J.Checkable.early p.seat.me.0 l.turn.0 b d record { reader = p.reader; free = p.free.0; none_joined = p.none_joined; seals = p.unsealed; idle = p.idle } l.lawful l.seen l.known l.mine
    (arc_value c.args.job) c.args.settled c.post-reply.result.0 c.unlock.new.pass.me.0 (l.reader p.reader.0) c.requires.settled e.running e.number told why h.lawful h.all_put
    (λ n is. gave ∙ elim c.match-reply.branch [
      | in-Ok w ↦ ap (λ s. passed s.me.0) w.seat-is ∙ (ap (λ m. passed m.0) w.add.ensures.added ∙ ap (λ m. passed (added_to m.0 (log_of d.events) d.jobs)) l.turn.1)
      | in_default w ↦ absurd (w.in_default.not-Ok n is)
    ])
    (λ none. gave ∙ elim c.match-reply.branch [
      | in-Ok w ↦ absurd (none _ w.in-Ok.is)
      | in_default w ↦ ap (λ s. passed s.me.0) w.seat-is ∙ ap (λ m. passed m.0) l.turn.1
    ]) in
    let s = done.stays in let count = p.counted in record {
      counted = elim c.match-reply.branch [
        | in-Ok w ↦ let more = put_more p.seat.me.0 c.unlock.new.pass.me.0 (arc_value c.args.job) c.args.settled c.post-reply.result.0 done.ok w.in-Ok.field-0 w.in-Ok.is in let is : ◌≡◌ {A = ℕ} c.match-reply.pass.1.1.0 (p.count + 1) = (λ i. (w.pass-is i).1.1.0) in omega (arith, more, is, count)
        | in_default w ↦ let same = put_known p.seat.me.0 c.unlock.new.pass.me.0 (arc_value c.args.job) c.post-reply.result.0 done.refused (λ n is. w.in_default.not-Ok n is) in let is : ◌≡◌ {A = ℕ} c.match-reply.pass.1.1.0 p.count = (λ i. (w.pass-is i).1.1.0) in omega (arith, same, is, count)
      ];
      reader = s.reader;
      free = (s.free, s.reader.1, ap (λ m. m.1) c.unlock.ensures.passed);
      none_joined = s.none_joined;
      unsealed = s.seals;
      idle = s.idle;
    }

pub returns : goal.returns
returns g c = let p = c.args.pass.now in let l = c.lock-judged.ensures in let b = c.lock-judged.result.book in let d = c.post-reply.new.self in let h = c.history-history.ensures in let e = c.post-reply.ensures in let o = c.new-offer.ensures in
    let told : IfOk c.post-reply.result.0 (λ n. d ≡ put_on b (arc_value c.args.job) c.args.settled n) = subst (λ s. IfOk c.post-reply.result.0 (λ n. d ≡ put_on b (arc_value c.args.job) s n)) o.settled
    (subst (λ j. IfOk c.post-reply.result.0 (λ n. d ≡ put_on b j c.new-offer.result.settled n)) o.job c.post-reply.ensures.ok) in
    let why : IfErr c.post-reply.result.0 (λ r. IsRefusal b.events (arc_value c.args.job) r) = subst (λ j. IfErr c.post-reply.result.0 (λ r. IsRefusal b.events j r)) o.job e.refused in
    let gave = ap (λ m. m.0) c.unlock.ensures.passed in
    let done = put_done g.J.Checkable.due g.J.Checkable.early p.seat.me.0 l.turn.0 b d record { reader = p.reader; free = p.free.0; none_joined = p.none_joined; seals = p.unsealed; idle = p.idle } l.lawful l.seen l.known l.mine
    (arc_value c.args.job) c.args.settled c.post-reply.result.0 c.unlock.new.pass.me.0 (l.reader p.reader.0) c.requires.settled e.running e.number told why h.lawful h.all_put
    (λ n is. gave ∙ elim c.match-reply.branch [
      | in-Ok w ↦ ap (λ s. passed s.me.0) w.seat-is ∙ (ap (λ m. passed m.0) w.add.ensures.added ∙ ap (λ m. passed (added_to m.0 (log_of d.events) d.jobs)) l.turn.1)
      | in_default w ↦ absurd (w.in_default.not-Ok n is)
    ])
    (λ none. gave ∙ elim c.match-reply.branch [
      | in-Ok w ↦ absurd (none _ w.in-Ok.is)
      | in_default w ↦ ap (λ s. passed s.me.0) w.seat-is ∙ ap (λ m. passed m.0) l.turn.1
    ]) in record { own = search rules; made = done.made; turn = done.turn; ok = done.ok; refused = done.refused }
