use Rattle.std.proofs.Common.{◌≡◌, ◌<◌, ◌≤◌, ◌∙◌, ◌∷◌, [], All, arith, get_or, length, refl, subst, sym as flip}
use Rattle.std.proofs.lemmas.Bool.{ltb-false}
use Rattle.std.proofs.lemmas.Option.{slice_get_read}
use Rattle.edit_session.specs.Resting.{AreReachedFrom, AreUpTo}
use Rattle.edit_session.proofs.Searching.{given_ok, ordered, search_begun, search_ended, search_goes_on}
use Rattle.edit_session.proofs.resting.Ways.from_last.Goals as goal

pub loop-seen-init : goal.loop-seen-init
loop-seen-init c = record {
  search = λ below. search_begun c.args.self.now.mentions.now c.args.self.now.rules.now c.args.own c.args.self.now.mark c.args.marks.now.items c.reach.new.marks.items c.reach.new.reached.items below
      (subst (λ r. AreReachedFrom c.args.self.now.mark c.args.marks.now.items r c.reach.new.marks.items c.reach.new.reached.items (c.args.own ∷ [])) c.new-reached.ensures.items c.in_ok-reach.ensures);
  count = c.in_ok-reach.ensures.count;
}

pub returns-in_default-clause-reached : goal.returns-in_default-clause-reached
returns-in_default-clause-reached c =
    let l : length c.loop-seen.reached.items ≤ c.loop-seen.seen = ltb-false c.loop-seen.seen (length c.loop-seen.reached.items) (flip (rw c.deref.ensures.value at c.in_default.ensures.lookup).0) in
    ordered c.args.self.now.mentions.now c.args.self.now.rules.now c.args.own c.loop-seen.reached.items (All (λ m. m < c.args.self.now.mark) c.args.marks.now.items) c.in_order.result (λ v. v.items)
    (λ below. search_ended c.args.self.now.mentions.now c.args.self.now.rules.now c.args.own c.args.self.now.mark c.loop-seen.marks.items c.loop-seen.reached.items c.loop-seen.seen l (c.loop-seen.invariant.search below))
    c.in_order.ensures.all c.in_order.ensures.only

pub returns-in_default-clause-marked : goal.returns-in_default-clause-marked
returns-in_default-clause-marked c = given_ok (All (λ m. m < c.args.self.now.mark) c.args.marks.now.items → AreUpTo c.args.self.now.mark c.loop-seen.marks.items) c.in_order.result (λ below. (c.loop-seen.invariant.search below).bound)

pub loop-seen-preserved : goal.loop-seen-preserved
loop-seen-preserved c =
    let l : c.loop-seen.seen < length c.loop-seen.reached.items = (rw c.deref.ensures.value at c.in-Some.ensures.lookup).3.0 in
    let e : c.in-Some.place.now ≡ get_or c.loop-seen.reached.items c.loop-seen.seen c.in-Some.place.now = (rw c.deref.ensures.value at c.in-Some.ensures.lookup).1 in
    record {
      search = λ below. search_goes_on c.args.self.now.mentions.now c.args.self.now.rules.now c.args.own c.args.self.now.mark c.loop-seen.marks.items c.loop-seen.reached.items c.reach_all.new.marks.items c.reach_all.new.reached.items
          c.reach_all-in-loop-seen.new.marks.items c.reach_all-in-loop-seen.new.reached.items c.list_at-mentioned.result.now c.list_at-rules.result.now c.loop-seen.seen c.in-Some.place.now
          (slice_get_read c.loop-seen.reached.items (length c.loop-seen.reached.items) c.loop-seen.seen c.in-Some.place.now refl l e) c.list_at-mentioned.ensures c.list_at-rules.ensures (c.loop-seen.invariant.search below)
          c.in_ok-reach_all.ensures c.in_ok-reach_all-2.ensures;
      count = c.in_ok-reach_all-2.ensures.count ∙ c.in_ok-reach_all.ensures.count ∙ c.loop-seen.invariant.count;
    }

pub returns-clause-reached : goal.returns-clause-reached
returns-clause-reached c =
    let l : length c.loop-seen.reached.items ≤ c.loop-seen.seen = omega (arith, c.loop-seen-test.false, c.if-len-self.false, c.len.ensures) in
    ordered c.args.self.now.mentions.now c.args.self.now.rules.now c.args.own c.loop-seen.reached.items (All (λ m. m < c.args.self.now.mark) c.args.marks.now.items) c.in_order-2.result (λ v. v.items)
    (λ below. search_ended c.args.self.now.mentions.now c.args.self.now.rules.now c.args.own c.args.self.now.mark c.loop-seen.marks.items c.loop-seen.reached.items c.loop-seen.seen l (c.loop-seen.invariant.search below))
    c.in_order-2.ensures.all c.in_order-2.ensures.only

pub returns-clause-marked : goal.returns-clause-marked
returns-clause-marked c = given_ok (All (λ m. m < c.args.self.now.mark) c.args.marks.now.items → AreUpTo c.args.self.now.mark c.loop-seen.marks.items) c.in_order-2.result (λ below. (c.loop-seen.invariant.search below).bound)
