use Rattle.std.proofs.Common.{sym as flip, subst}
use Rattle.signature_log.proofs.Keeping.{keeps_further}
use Rattle.signature_log.specs.Reducers.{AreOwned, OwnsSomes}
use Rattle.infer_check.proofs.Contexts.{owned_pushed, owned_kept}
use Rattle.rule_check.proofs.Founds.{some_kept, bindings_kept}
use Rattle.rule_check.proofs.Walking.{all_more}
use Rattle.rule_check.proofs.sides.all_types.Goals as goal

pub type_or_kind-requires-clause-typ : goal.type_or_kind-requires-clause-typ
type_or_kind-requires-clause-typ g c = let i = c.loop-typ.invariant in
    some_kept c.args.r.now c.loop-typ.r i.keeps c.in-Some.typ.now (subst (OwnsSomes g.R.Reducer.owns c.args.r.now) c.in-Some.ensures.cases.0 i.rest).0

pub type_or_kind-requires-clause-bindings : goal.type_or_kind-requires-clause-bindings
type_or_kind-requires-clause-bindings g c = bindings_kept c.args.r.now c.loop-typ.r c.loop-typ.invariant.keeps c.args.found.now.bindings c.requires.bindings

pub loop-typ-preserved : goal.loop-typ-preserved
loop-typ-preserved g c =
    let r = c.args.r.now in
    let at = c.loop-typ.r in
    let new = c.type_or_kind.new.r in
    let i = c.loop-typ.invariant in
    let k = c.in_ok-typ.ensures.keeps in
    let e = c.in-Some.ensures.cases.0 in
    let made = c.in_ok-typ.ensures.makes in
    record {
      same = all_more r at new c.args.found.now c.requires c.loop-typ.all c.push.new.self c.loop-typ.rest.now c.in-Some.others.now c.in-Some.typ.now c.in_ok-typ.typ i.keeps k i.own i.rest i.same e made.0
          c.in_ok-push.ensures.ok;
      own = subst (AreOwned g.R.Reducer.owns new) (flip c.in_ok-push.ensures.ok) (owned_pushed g.R.Reducer.owns new c.loop-typ.all c.in_ok-typ.typ (owned_kept at new c.loop-typ.all k i.own) made.1);
      rest = (subst (OwnsSomes g.R.Reducer.owns r) e i.rest).1;
      keeps = keeps_further r at new i.keeps k;
      serves = λ S h. c.in_ok-typ.ensures.serves S (i.serves S h);
    }
