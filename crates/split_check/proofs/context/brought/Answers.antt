use Rattle.std.proofs.Common.{rules, ◌≡◌, ◌∷◌, ◌++◌, [], ◌∙◌, map, ap, subst, sym as flip}
use Rattle.shared_term.specs.Storage.{stored_term}
use Rattle.signature_log.specs.Reducers.{AreOwned}
use Rattle.infer_check.proofs.Contexts.{owned_pushed, owned_kept}
use Rattle.signature_log.proofs.Keeping.{keeps_further}
use Rattle.split_check.proofs.Sending.{next_brought}
use Rattle.split_check.proofs.context.brought.Goals as goal

pub loop-term-preserved : goal.loop-term-preserved
loop-term-preserved g c =
    let e : c.loop-term.rest.now ≡ c.in-Some.term.now ∷ c.in-Some.others.now = search rules in
    let p : c.push.new.self ≡ c.loop-term.made ++ c.in_ok-bring.field-0 ∷ [] = search rules in
    let k = c.in_ok-bring.ensures.keeps in
    let s = next_brought g.R.Reducer.owns g.R.Reducer.denotes c.loop-term.r c.bring.new.self c.loop-term.made c.push.new.self c.in_ok-bring.field-0 (map stored_term c.in-Some.others.now) (map stored_term c.args.terms.now)
    (stored_term c.in-Some.term.now) k c.loop-term.invariant.own p c.in_ok-bring.ensures.makes.0 (ap (λ xs. map (g.R.Reducer.denotes c.loop-term.r) c.loop-term.made ++ map stored_term xs) (flip e) ∙ c.loop-term.invariant.same) in
    let o = owned_kept {owns = g.R.Reducer.owns} {denotes = g.R.Reducer.denotes} c.loop-term.r c.bring.new.self c.loop-term.made k c.loop-term.invariant.own in
    record {
      same = s;
      own = subst (AreOwned g.R.Reducer.owns c.bring.new.self) (flip p) (owned_pushed g.R.Reducer.owns c.bring.new.self c.loop-term.made c.in_ok-bring.field-0 o c.in_ok-bring.ensures.makes.1);
      keeps = keeps_further c.args.r.now c.loop-term.r c.bring.new.self c.loop-term.invariant.keeps k;
      serves = λ S h. c.in_ok-bring.ensures.serves S (c.loop-term.invariant.serves S h);
    }
