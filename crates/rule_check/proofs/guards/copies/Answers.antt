use Rattle.std.proofs.Common.{◌∙◌, map, sym as flip, subst}
use Rattle.signature_log.proofs.Keeping.{keeps_further}
use Rattle.signature_log.specs.Reducers.{AreOwned}
use Rattle.infer_check.proofs.Contexts.{owned_pushed, owned_kept}
use Rattle.rule_check.proofs.Moving.{copied_more, mapped_is}
use Rattle.rule_check.proofs.guards.copies.Goals as goal

pub loop-first-preserved : goal.loop-first-preserved
loop-first-preserved g c =
    let r = c.args.r.now in
    let at = c.loop-first.r in
    let new = c.copy.new.self in
    let i = c.loop-first.invariant in
    let k = c.in_ok-copy.ensures.keeps in
    let e = c.in-Some.ensures.cases.0 in
    let made = c.in_ok-copy.ensures.makes in
    record {
      same = mapped_is (g.R.Reducer.denotes) new c.push.new.self (map (g.R.Reducer.denotes r) c.in-Some.others.now) c.in_ok-push.ensures.ok
          ∙ copied_more r at new c.args.types.now c.loop-first.copies c.loop-first.rest.now c.in-Some.others.now c.in-Some.first.now c.in_ok-copy.copy i.keeps k c.requires i.own i.rest i.same e made.0;
      own = subst (AreOwned g.R.Reducer.owns new) (flip c.in_ok-push.ensures.ok) (owned_pushed g.R.Reducer.owns new c.loop-first.copies c.in_ok-copy.copy (owned_kept at new c.loop-first.copies k i.own) made.1);
      rest = (subst (AreOwned g.R.Reducer.owns r) e i.rest).1;
      keeps = keeps_further r at new i.keeps k;
      serves = λ S h. c.in_ok-copy.ensures.serves S (i.serves S h);
    }
