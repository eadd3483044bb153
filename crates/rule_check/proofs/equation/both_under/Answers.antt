use Rattle.std.proofs.Common.{◌∙◌, ap}
use Rattle.dk_model.specs.Bindings.{under}
use Rattle.signature_log.proofs.Keeping.{keeps_further}
use Rattle.rule_check.specs.Founds.{terms_of}
use Rattle.rule_check.proofs.Founds.{bindings_kept, terms_kept}
use Rattle.rule_check.proofs.Bound.{under_free}
use Rattle.rule_check.proofs.equation.both_under.Goals as goal

pub under-requires-2-clause-bindings : goal.under-requires-2-clause-bindings
under-requires-2-clause-bindings g c = bindings_kept c.args.r.now c.under.new.r c.in_ok-one.ensures.keeps c.args.bindings.now c.requires.bindings

pub returns-clause-under : goal.returns-clause-under
returns-clause-under g c =
    let D = g.R.Reducer.denotes in
    let r = c.args.r.now in
    let mid = c.under.new.r in
    let end = c.under-2.new.r in
    let b = c.args.bindings.now in
    let k = c.in_ok-one.ensures.keeps in
    let l = c.in_ok-other.ensures.keeps in
    let one = c.in_ok-one.ensures.makes in
    let other = c.in_ok-other.ensures.makes in
    record {
      one = l.same c.in_ok-one.one one.1 ∙ one.0;
      other = other.0 ∙ ap (λ s. under s (D mid c.args.equation.other)) (terms_kept r mid k b c.requires.bindings) ∙ ap (under (terms_of D r b)) (k.same c.args.equation.other c.requires.own.other);
      own = record { one = l.own c.in_ok-one.one one.1; other = other.1 };
    }

pub returns-clause-free : goal.returns-clause-free
returns-clause-free g c =
    let owns = g.R.Reducer.owns in
    let D = g.R.Reducer.denotes in
    let r = c.args.r.now in
    let mid = c.under.new.r in
    let end = c.under-2.new.r in
    let b = c.args.bindings.now in
    let e = c.args.equation in
    let k = c.in_ok-one.ensures.keeps in
    let l = c.in_ok-other.ensures.keeps in
    let kl = keeps_further r mid end k l in
    let one = c.in_ok-one.ensures.makes in
    let other = c.in_ok-other.ensures.makes in
    record {
      one = under_free owns D r end kl b (D r e.one) (D end c.in_ok-one.one) c.requires.bindings (l.same c.in_ok-one.one one.1 ∙ one.0);
      other = under_free owns D r end kl b (D r e.other) (D end c.in_ok-other.other) c.requires.bindings
          (other.0 ∙ ap (λ s. under s (D mid e.other)) (terms_kept r mid k b c.requires.bindings) ∙ ap (under (terms_of D r b)) (k.same e.other c.requires.own.other));
    }
