use Rattle.std.proofs.Common.{rules, sym, subst, ap, ◌≡◌, ◌+◌, ◌∙◌, arith, All, length, length-append}
use Rattle.std.proofs.lemmas.List.Elements.{All-nil}
use Rattle.task_board.specs.Passes.{IsNew, new_reader}
use Rattle.ticket_slot.specs.Views.{parent}
use Rattle.task_board.proofs.Alls.{all_put}
use Rattle.task_board.proofs.Changing.{new_pass}
use Rattle.task_board.proofs.Reading.{new_readers}
use Rattle.task_board.proofs.board.Board.new.Goals as goal

pub loop-place-init : goal.loop-place-init
loop-place-init g c = let e = c.in_ok-passes.ensures in record {
  own = search rules;
  me = c.in-Ok.ensures.reader;
  count = e.len;
  made = ap length e.items;
  room = let x = e.exact in omega (arith, x);
  own_workers = rw e.items (All-nil _);
  new_workers = rw e.items (All-nil _);
}

pub split-own-requires-clause-own : goal.split-own-requires-clause-own
split-own-requires-clause-own g c = c.loop-place.invariant.own

pub split-own-requires-clause-reader : goal.split-own-requires-clause-reader
split-own-requires-clause-reader g c = let m = c.loop-place.invariant.me in (ap (λ m. m.0.number) m, ap (λ m. m.0.live) m)

pub split-own-requires-clause-room : goal.split-own-requires-clause-room
split-own-requires-clause-room g c = let m = ap (λ m. m.0.made) c.loop-place.invariant.me in let few = c.requires.few in let t = c.loop-place-test.true in omega (arith, m, few, t)

pub invariant_of-push_reserved : goal.invariant_of-push_reserved
invariant_of-push_reserved g c = let m = c.loop-place.invariant.me in let child = c.split-own.ensures.child in record {
  numbered = sym (ap (λ m. m.0.number) child ∙ ap (λ m. m.0.made) m);
  free = (ap (λ m. m.0.ticket) child, ap (λ m. m.0.live) child, ap (λ m. m.1) child);
}

pub push_reserved-requires : goal.push_reserved-requires
push_reserved-requires g c = let i = c.loop-place.invariant in let a = i.count in let b = i.room in let t = c.loop-place-test.true in omega (arith, a, b, t)

pub loop-place-preserved : goal.loop-place-preserved
loop-place-preserved g c = let i = c.loop-place.invariant in let e = c.push_reserved.ensures in let s = c.split-own.ensures in let m = i.me in let child = s.child in record {
  own = s.own.0;
  me = s.parent ∙ ap (λ m. (parent m.0, m.1)) m;
  count = let a = e.len in let b = i.count in omega (arith, a, b);
  made = let a = simp length-append at (ap length e.items) in let b = i.made in omega (arith, a, b);
  room = let a = e.capacity in let b = i.room in omega (arith, a, b);
  own_workers = all_put (λ p. p.seat.table_id ≡ c.in-Ok.slot) _ _ _ e.items i.own_workers s.own.1;
  new_workers = all_put (λ p. IsNew p.seat.me.0) _ _ _ e.items i.new_workers (new_pass _ c.loop-place.seat.me.0 (ap (λ m. m.0) child) (ap (λ m. m.0.seen) m) (ap (λ m. m.0.known) m));
}

pub invariant_of-result : goal.invariant_of-result
invariant_of-result g c = let m = c.loop-place.invariant.me in let r = new_readers c.loop-place.seat.me.0 (c.loop-place.place + 1) (ap (λ m. m.0) m) in
    record { counted = sym (ap (λ m. length m.0.known) m); reader = r.reader; free = (r.free, r.reader.1, ap (λ m. m.1) m); none_joined = r.none_joined; unsealed = r.seals; idle = r.idle }

pub returns-after-loop-place : goal.returns-after-loop-place
returns-after-loop-place g c = let i = c.loop-place.invariant in let items = c.from_vec.ensures in let same : c.loop-place.place ≡ c.args.workers = (let a = c.loop-place-test.false in let b = c.loop-place.auto.place-end in omega (arith, a, b)) in record {
  own = i.own;
  reader = ap (λ m. m.0) i.me ∙ ap (λ n. new_reader (n + 1)) same;
  workers = ap length items ∙ (i.made ∙ same);
  own_workers = subst (All (λ p. p.seat.table_id ≡ c.in-Ok.slot)) (sym items) i.own_workers;
  new_workers = subst (All (λ p. IsNew p.seat.me.0)) (sym items) i.new_workers;
}
