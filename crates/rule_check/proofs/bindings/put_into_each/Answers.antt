use Rattle.std.proofs.Common.{refl, ◌∙◌, ap, sym as flip, subst}
use Rattle.dk_model.specs.Captures.{capture_at}
use Rattle.signature_log.proofs.Keeping.{keeps_further}
use Rattle.rule_check.specs.Founds.{types_of, AreClosed}
use Rattle.rule_check.specs.Levels.{put_into_each}
use Rattle.rule_check.proofs.Resolved.{put_closed}
use Rattle.rule_check.proofs.bindings.put_into_each.Goals as goal

pub loop-first-preserved : goal.loop-first-preserved
loop-first-preserved g c =
    let D = g.R.Reducer.denotes in
    let at = c.loop-first.r in
    let new = c.put_into.new.r in
    let s = types_of D at c.loop-first.terms.items in
    let first = c.in-Some.first.now in
    let i = c.loop-first.invariant in
    let put = c.in_ok-put_into.ensures.put in
    let k = c.in_ok-put_into.ensures.keeps in
    record {
      same = ap (λ z. put_into_each z c.in-Some.others.now) put.same ∙ ap (put_into_each s) (flip c.in-Some.ensures.cases.0) ∙ i.same;
      own = put.own;
      closed = subst AreClosed (flip put.same) (put_closed s first (capture_at s first) refl i.closed);
      keeps = keeps_further c.args.r.now at new i.keeps k;
      serves = λ S h. c.in_ok-put_into.ensures.serves S (i.serves S h);
    }
