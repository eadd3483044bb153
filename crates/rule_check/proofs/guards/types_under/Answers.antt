use Rattle.std.proofs.Common.{◌∙◌, map, sym as flip, subst}
use Rattle.dk_model.specs.Bindings.{under}
use Rattle.signature_log.proofs.Keeping.{keeps_further}
use Rattle.signature_log.specs.Reducers.{AreOwned}
use Rattle.infer_check.proofs.Contexts.{owned_pushed, owned_kept}
use Rattle.rule_check.specs.Founds.{terms_of}
use Rattle.rule_check.proofs.Founds.{bindings_kept}
use Rattle.rule_check.proofs.Moving.{under_more, mapped_is}
use Rattle.rule_check.proofs.guards.types_under.Goals as goal

pub copy_under-requires-clause-own : goal.copy_under-requires-clause-own
copy_under-requires-clause-own g c = let i = c.loop-first.invariant in
    i.keeps.own c.in-Some.first.now (subst (AreOwned g.R.Reducer.owns c.args.r.now) c.in-Some.ensures.cases.0 i.rest).0

pub copy_under-requires-clause-bindings : goal.copy_under-requires-clause-bindings
copy_under-requires-clause-bindings g c = bindings_kept c.args.r.now c.loop-first.r c.loop-first.invariant.keeps c.args.bindings.now c.requires.bindings

pub loop-first-preserved : goal.loop-first-preserved
loop-first-preserved g c =
    let D = g.R.Reducer.denotes in
    let r = c.args.r.now in
    let at = c.loop-first.r in
    let new = c.copy_under.new.r in
    let i = c.loop-first.invariant in
    let k = c.in_ok-typ.ensures.keeps in
    let e = c.in-Some.ensures.cases.0 in
    let made = c.in_ok-typ.ensures.makes in
    record {
      same = mapped_is D new c.push.new.self (map (under (terms_of D r c.args.bindings.now)) (map (D r) c.in-Some.others.now)) c.in_ok-push.ensures.ok
          ∙ under_more r at new c.args.bindings.now c.requires.bindings c.args.types.now c.loop-first.all c.loop-first.rest.now c.in-Some.others.now c.in-Some.first.now c.in_ok-typ.typ i.keeps k i.own i.rest i.same e made.0;
      own = subst (AreOwned g.R.Reducer.owns new) (flip c.in_ok-push.ensures.ok) (owned_pushed g.R.Reducer.owns new c.loop-first.all c.in_ok-typ.typ (owned_kept at new c.loop-first.all k i.own) made.1);
      rest = (subst (AreOwned g.R.Reducer.owns r) e i.rest).1;
      keeps = keeps_further r at new i.keeps k;
      serves = λ S h. c.in_ok-typ.ensures.serves S (i.serves S h);
    }
