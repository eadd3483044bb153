use Rattle.std.proofs.Common.{rules, sym, subst, ap, ◌≡◌, ◌++◌, ◌∙◌, arith, All, length, map}
use lib.ListN.{length-map}
use Rattle.std.proofs.lemmas.List.{nil_from_length}
use Rattle.std.proofs.Common.{append-nil}
use Rattle.ticket_slot.specs.Views.{ended_of}
use Rattle.task_board.proofs.Alls.{all_take}
use Rattle.task_board.proofs.Closing.{join_kept, join_moves, join_ends, together}
use Rattle.task_board.proofs.board.Board.close.Goals as goal

pub loop-pass-init : goal.loop-pass-init
loop-pass-init g c = let s = c.args.sealed in let items = c.into_vec-passes.ensures in record {
  own = c.requires.own ∙ sym c.self.view_is;
  me = λ i. (s.seat.me.0, s.free.2 i);
  joined = (λ i. map (λ p. ended_of p.seat.me.0) (items i) ++ nil_from_length s.seat.me.0.ended s.none_joined i) ∙ append-nil (map (λ p. ended_of p.seat.me.0) c.args.passes);
  own_workers = subst (All (λ p. p.seat.table_id ≡ c.self.inside.slot)) (sym items) (λ k d h. c.requires.own_workers k d h ∙ sym c.self.view_is);
}

pub join-requires-clause-own : goal.join-requires-clause-own
join-requires-clause-own g c = let i = c.loop-pass.invariant in (i.own, (all_take (λ p. p.seat.table_id ≡ c.self.inside.slot) _ _ _ c.in-Some.ensures.items i.own_workers).1)

pub join-requires-clause-reader : goal.join-requires-clause-reader
join-requires-clause-reader g c = let m = c.loop-pass.invariant.me in let r = c.args.sealed.reader in (ap (λ m. m.0.number) m ∙ r.0, ap (λ m. m.0.live) m ∙ r.1)

pub loop-pass-preserved : goal.loop-pass-preserved
loop-pass-preserved g c = let i = c.loop-pass.invariant in let j = c.join.ensures.joined in let items = c.in-Some.ensures.items in record {
  own = c.join.ensures.own;
  me = join_kept c.args.sealed.seat.me.0 c.in-Some.pass.seat.me.0 c.loop-pass.seat.me c.join.new.pass.me j i.me;
  joined = join_moves (λ p. ended_of p.seat.me.0) c.pop.new.self.items c.loop-pass.passes.items c.in-Some.pass c.loop-pass.seat.me.0.ended c.join.new.pass.me.0.ended (map (λ p. ended_of p.seat.me.0) c.args.passes) items i.joined (ap (λ m. m.0.ended) j);
  own_workers = (all_take (λ p. p.seat.table_id ≡ c.self.inside.slot) _ _ _ items i.own_workers).0;
}

pub close-book-requires : goal.close-book-requires
close-book-requires g c = let i = c.loop-pass.invariant in let m = i.me in let s = c.args.sealed in let none : length c.loop-pass.passes.items ≡ 0 = search rules in
    let joins = join_ends (λ p. ended_of p.seat.me.0) c.loop-pass.passes.items c.loop-pass.seat.me.0.ended (map (λ p. ended_of p.seat.me.0) c.args.passes) none i.joined in record {
      own = i.own;
      reader = (ap (λ m. m.0.number) m ∙ s.reader.0, ap (λ m. m.0.live) m ∙ s.reader.1);
      free = (ap (λ m. m.0.ticket) m ∙ s.free.0, ap (λ m. m.0.live) m ∙ s.free.1, ap (λ m. m.1) m);
      all_joined = let a = ap length joins in let b = length-map c.args.passes (λ p. ended_of p.seat.me.0) in let d = ap (λ m. m.0.made) m in let e = c.requires.all in omega (arith, a, b, d, e);
    }

pub returns : goal.returns
returns g c = let i = c.loop-pass.invariant in let s = c.args.sealed in let e = c.close-book.ensures in let book = c.close-book.result.book in let none : length c.loop-pass.passes.items ≡ 0 = search rules in
    let joins = join_ends (λ p. ended_of p.seat.me.0) c.loop-pass.passes.items c.loop-pass.seat.me.0.ended (map (λ p. ended_of p.seat.me.0) c.args.passes) none i.joined in
    let t = together (λ p. p.seat.me.0) g.J.Checkable.due g.J.Checkable.early book.events book.jobs s.seat.me.0 c.loop-pass.seat.me.0 c.args.passes (ap (λ m. m.0) i.me) joins s.reader.0 s.idle s.sealed c.requires.idle e.lawful e.list e.reader e.ended e.each_once e.no_others in
    record { legal = t.legal; jobs = t.list; reader = t.reader; workers = t.workers; each_once = t.each_once; no_others = t.no_others; end = t.last; finished = t.done }
