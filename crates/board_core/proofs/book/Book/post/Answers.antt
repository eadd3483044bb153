use Rattle.std.proofs.Common.{arith, ◌≡◌, ◌+◌, ◌-◌, ◌*◌, ◌^◌, ◌<◌, ◌≤◌, ◌++◌, ◌∷◌, [], false, length, sym, ap, ◌∙◌, refl, subst, vec_len, vec_capacity, None}
use Rattle.std.specs.Arc.{arc_value}
use Rattle.board_core.specs.declared.history.Step.{Step}
use Rattle.board_core.specs.Steps.{events_in}
use Rattle.board_core.proofs.Stepping.{count_steps, events_snoc}
use lib.ListN.{length-map}
use Rattle.std.specs.List.{list_any}
use Rattle.std.proofs.lemmas.List.{map-append}
use Rattle.board_core.specs.Events.{is_seal}
use Rattle.board_core.specs.Kept.{IsFaultOf, IsWide, posted, jobs_in, waiters_in}
use Rattle.board_core.specs.Rooms.{IsRoomBehind}
use Rattle.std.specs.VecDeque.{deque_len, deque_capacity}
use Rattle.board_core.specs.Parts.{newcomers}
use Rattle.board_core.proofs.Rooms.{few_wait, count_waiting, has_place}
use Rattle.board_core.proofs.Holding.{count_marks, put_holds}
use Rattle.board_core.proofs.book.Book.post.Goals as goal

pub returns-in-Some-clause-refused : goal.returns-in-Some-clause-refused
returns-in-Some-clause-refused g c = let h = subst (IsFaultOf (events_in c.self.inside.end c.self.inside.history.items)) c.in-Some.is c.self.invariant.keeps.fault_kept in rw (← c.self.view_is) (h.0, h.1, refl)

pub make_place-requires : goal.make_place-requires
make_place-requires g c = let k = c.self.invariant.keeps in let count = length-map c.self.inside.jobs.items posted in let marks = count_marks (jobs_in c.self.inside.jobs.items) in
    let behind : c.args.offer.behind ≡ vec_len c.self.inside.jobs = (let a = c.requires.behind in let v = ap (λ b. length b.jobs) c.self.view_is in omega (arith, a, v, count)) in record {
      room = subst (λ n. IsRoomBehind n c.args.offer.room) behind c.requires.room;
      wide = c.self.invariant.wide;
      waiting = (let w = few_wait k in let m = count_waiting c.self.inside.waiting.items in omega (arith, w, m, marks, count));
      verdicts = (let v = k.as_many in omega (arith, v, marks, count));
      history = (let f = k.few_events in let steps = count_steps c.self.inside.end c.self.inside.history.items in omega (arith, f, steps, marks, count));
    }

pub invariant_of-self : goal.invariant_of-self
invariant_of-self g c = let e = c.in_default-make_place.ensures.err in record {
  keeps = rw (e.0, e.1, e.2, e.3) c.self.invariant.keeps;
  own = rw (e.0, e.1) c.self.invariant.own;
  wide = rw (e.0, e.1, e.2, e.3) c.self.invariant.wide;
}

pub let_wait-job-requires : goal.let_wait-job-requires
let_wait-job-requires g c = let k = c.self.invariant.keeps in let count = length-map c.self.inside.jobs.items posted in let marks = count_marks (jobs_in c.self.inside.jobs.items) in
    let e = c.make_place.ensures in let jobs = ap length e.jobs in let waiting = ap length e.waiting in let w = few_wait k in let m = count_waiting c.self.inside.waiting.items in
    (has_place (vec_len c.make_place.new.jobs) (deque_len c.make_place.new.waiting) _ _ _ _ c.in-Ok.ensures.ok (omega (arith, jobs, waiting, w, m, marks, count))).1

pub invariant_of-self-2 : goal.invariant_of-self-2
invariant_of-self-2 g c = let e = c.make_place.ensures in let k = c.self.invariant.keeps in let items = c.self.inside.jobs.items in let end = c.self.inside.end in let steps = c.self.inside.history.items in let es = events_in end steps in let job = c.args.offer.job in let settled = c.args.offer.settled in
    let few = subst (λ b. length b.jobs < 2 ^ 32 - 2) (sym c.self.view_is) c.requires.few in
    let unsealed = subst (λ b. list_any is_seal b.events ≡ false) (sym c.self.view_is) c.requires.unsealed in
    let good = subst (IsFaultOf es) c.in_default.is k.fault_kept in
    let count : length (jobs_in items) ≡ length items = length-map items posted in
    let same = ap length e.jobs in
    let number : c.len.result + 1 ≡ length (jobs_in items) + 1 = omega (arith, c.len.ensures, same, count) in
    let place = has_place (vec_len c.make_place.new.jobs) 0 _ _ _ _ c.in-Ok.ensures.ok (omega arith) in
    let more : 3 * (length (jobs_in items) + 1) + 1 ≤ vec_capacity c.make_place.new.history = (let r = place.3 in omega (arith, r, same, count)) in
    let t = put_holds (jobs_in items) (waiters_in c.self.inside.waiting.items) k c.self.invariant.own (vec_capacity c.make_place.new.history) (c.len.result + 1) (arc_value job) settled number more few unsealed good
    (jobs_in c.push_reserved.new.self.items) (waiters_in c.let_wait-job.new.waiting.items) c.push_reserved-2.new.self.items (events_in end c.push_reserved-3.new.self.items)
    (ap jobs_in (c.push_reserved.ensures.items ∙ ap (λ l. l ++ record { job = c.of-past.result; settled = settled } ∷ []) e.jobs) ∙ map-append posted items (record { job = c.of-past.result; settled = settled } ∷ [])
    ∙ ap (λ v. jobs_in items ++ (v, settled) ∷ []) (c.of-past.ensures ∙ c.deref.ensures))
    (c.let_wait-job.ensures.items ∙ (λ i. waiters_in (e.waiting i) ++ newcomers (c.len.result + 1) (arc_value job) settled))
    (c.push_reserved-2.ensures.items ∙ ap (λ l. l ++ None ∷ []) e.verdicts)
    (ap (events_in end) (c.push_reserved-3.ensures.items ∙ ap (λ l. l ++ Step.Put (c.len.result + 1) ∷ []) e.history) ∙ events_snoc end steps (Step.Put (c.len.result + 1))) in
    record {
      keeps = rw c.push_reserved-3.ensures.capacity t.0;
      own = t.1;
      wide = let longer = c.push_reserved.ensures.len in subst (λ n. IsWide n (vec_capacity c.push_reserved.new.self) (deque_capacity c.let_wait-job.new.waiting) (vec_capacity c.push_reserved-2.new.self) (vec_capacity c.push_reserved-3.new.self)) (sym longer)
          (rw (c.push_reserved.ensures.capacity, c.let_wait-job.ensures.capacity, c.push_reserved-2.ensures.capacity, c.push_reserved-3.ensures.capacity) c.in-Ok.ensures.ok);
    }

-- the arithmetic, by the facts that it needs

pub overflow_cast-number : goal.overflow_cast-number
overflow_cast-number g c =
    let few = subst (λ b. length b.jobs < 2 ^ 32 - 2) (sym c.self.view_is) c.requires.few in
    let count = length-map c.self.inside.jobs.items posted in
    let same = ap length c.make_place.ensures.jobs in
    omega (arith, few, same, count)

pub overflow_add-number : goal.overflow_add-number
overflow_add-number g c =
    let few = subst (λ b. length b.jobs < 2 ^ 32 - 2) (sym c.self.view_is) c.requires.few in
    let count = length-map c.self.inside.jobs.items posted in
    let same = ap length c.make_place.ensures.jobs in
    omega (arith, few, same, count)

pub push_reserved-requires-2 : goal.push_reserved-requires-2
push_reserved-requires-2 g c =
    let r = (has_place (vec_len c.make_place.new.jobs) 0 _ _ _ _ c.in-Ok.ensures.ok (omega arith)).2 in
    let count = length-map c.self.inside.jobs.items posted in
    let marks = count_marks (jobs_in c.self.inside.jobs.items) in
    let v = ap length c.make_place.ensures.verdicts in
    let same = ap length c.make_place.ensures.jobs in
    let w = c.self.invariant.keeps.as_many in
    omega (arith, r, v, same, w, count, marks)

pub push_reserved-requires-3 : goal.push_reserved-requires-3
push_reserved-requires-3 g c =
    let r = (has_place (vec_len c.make_place.new.jobs) 0 _ _ _ _ c.in-Ok.ensures.ok (omega arith)).3 in
    let count = length-map c.self.inside.jobs.items posted in
    let marks = count_marks (jobs_in c.self.inside.jobs.items) in
    let h = ap length c.make_place.ensures.history in
    let same = ap length c.make_place.ensures.jobs in
    let f = c.self.invariant.keeps.few_events in
    let steps = count_steps c.self.inside.end c.self.inside.history.items in
    omega (arith, r, h, same, f, steps, marks, count)
