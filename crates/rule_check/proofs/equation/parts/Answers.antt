use Rattle.std.proofs.Common.{rules, refl, ◌≡◌, ◌∙◌, false, [], ◌∷◌, sym as flip, subst}
use Rattle.signature_log.specs.Versions.{entries_of}
use Rattle.signature_log.specs.Reducers.{OwnsParts, built}
use Rattle.signature_log.proofs.Keeping.{keeps_further}
use Rattle.infer_check.specs.Spine.{is_application}
use Rattle.infer_check.proofs.Contexts.{parts_kept}
use Rattle.rule_check.specs.Equations.{pending, divided, OwnsEquations}
use Rattle.rule_check.proofs.Solving.{applied_step, equations_kept, equations_appended, divides_is, parts_apart}
use Rattle.rule_check.proofs.equation.parts.Goals as goal

pub loop-one-preserved : goal.loop-one-preserved
loop-one-preserved g c =
    let S = entries_of c.args.version.now in
    let owns = g.R.Reducer.owns in
    let r = c.args.r.now in
    let at = c.loop-one.r in
    let mid = c.open-in-App-other.new.self in
    let new = c.open-in-App-other-2.new.self in
    let i = c.loop-one.invariant in
    let first = c.in_ok-one-in-App-other.ensures in
    let second = c.in_ok-other-in-App-other.ensures in
    let k = first.keeps in
    let l = second.keeps in
    let kl = keeps_further at mid new k l in
    let pushed = c.in_ok-push-in-App-other.ensures in
    let x = subst (OwnsParts owns at) c.in-App.is i.one in
    let y = subst (OwnsParts owns at) c.in-App-other.is i.other in
    record {
      same = applied_step S at mid new k l c.loop-one.one c.loop-one.other c.in_ok-one-in-App-other.one c.in_ok-other-in-App-other.other c.in-App.f c.in-App.a c.in-App-other.g c.in-App-other.b c.loop-one.arguments.items c.push.new.equations.items
          c.in-App.is c.in-App-other.is i.one i.other i.arguments pushed first.node.0 first.node.1 second.node.0 ∙ i.same;
      arguments = subst (OwnsEquations owns new) (flip pushed) (equations_appended owns new c.loop-one.arguments.items ((record { one = c.in-App.a; other = c.in-App-other.b }) ∷ []) (equations_kept at new kl c.loop-one.arguments.items i.arguments)
          (record { one = kl.own c.in-App.a x.1; other = kl.own c.in-App-other.b y.1 }, tt));
      one = parts_kept mid new c.in_ok-one-in-App-other.one l first.node.1;
      other = second.node.1;
      keeps = keeps_further r at new i.keeps kl;
      serves = λ S h. second.serves S (first.serves S (i.serves S h));
    }

pub returns-in_default-other : goal.returns-in_default-other
returns-in_default-other g c =
    let S = entries_of c.args.version.now in
    let owns = g.R.Reducer.owns in
    let D = g.R.Reducer.denotes in
    let r = c.args.r.now in
    let at = c.loop-one.r in
    let new = c.apart.new.r in
    let i = c.loop-one.invariant in
    let node = c.in_default-other.node in
    let same : node ≡ c.loop-one.other = (let p = c.in_default-other.node-is in cc) in
    let none : is_application (built D at node) ≡ false = search rules in
    let other = subst (λ z. is_application (built D at z) ≡ false) same none in
    record {
      divides = divides_is owns D new (divided S (D r c.args.one) (D r c.args.other) []) _ c.apart.result
          (parts_apart owns D at S c.loop-one.one c.loop-one.other c.loop-one.other c.in-App.f c.in-App.a (pending D at c.loop-one.arguments.items) c.in-App.is refl other ∙ i.same) c.apart.ensures.divides;
      keeps = keeps_further r at new i.keeps c.apart.ensures.keeps;
      serves = λ S h. c.apart.ensures.serves S (i.serves S h);
    }
