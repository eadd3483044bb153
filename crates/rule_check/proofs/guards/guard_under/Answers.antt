use Rattle.std.proofs.Common.{◌∙◌, ap, map}
use Rattle.dk_model.specs.Bindings.{under}
use Rattle.signature_log.proofs.Keeping.{keeps_further}
use Rattle.infer_check.proofs.Contexts.{owned_kept, innermost_kept}
use Rattle.rule_check.specs.Founds.{terms_of}
use Rattle.rule_check.proofs.Founds.{bindings_kept, terms_kept}
use Rattle.rule_check.proofs.Guarding.{innermost_under}
use Rattle.rule_check.proofs.guards.guard_under.Goals as goal

pub copy_under-requires-clause-bindings : goal.copy_under-requires-clause-bindings
copy_under-requires-clause-bindings g c = bindings_kept c.args.r.now c.types_under.new.r c.in_ok-bound.ensures.keeps c.args.bindings.now c.requires.bindings

pub copy_under-requires-2-clause-bindings : goal.copy_under-requires-2-clause-bindings
copy_under-requires-2-clause-bindings g c = bindings_kept c.args.r.now c.copy_under.new.r (keeps_further c.args.r.now c.types_under.new.r c.copy_under.new.r c.in_ok-bound.ensures.keeps c.in_ok-term.ensures.keeps) c.args.bindings.now c.requires.bindings

pub returns-clause-under : goal.returns-clause-under
returns-clause-under g c =
    let D = g.R.Reducer.denotes in
    let r = c.args.r.now in
    let one = c.types_under.new.r in
    let two = c.copy_under.new.r in
    let end = c.copy_under-2.new.r in
    let k1 = c.in_ok-bound.ensures.keeps in
    let k2 = c.in_ok-term.ensures.keeps in
    let k3 = c.in_ok-typ.ensures.keeps in
    let kept = keeps_further one two end k2 k3 in
    let b = c.args.bindings.now in
    let s = terms_of D r b in
    let guard = c.args.guard.now in
    let bound = c.in_ok-bound.bound in
    let all = c.in_ok-bound.ensures.under in
    let term = c.in_ok-term.ensures.makes in
    let typ = c.in_ok-typ.ensures.makes in
    let k12 = keeps_further r one two k1 k2 in
    record {
      context = innermost_kept one end bound kept all.own ∙ innermost_under D one r s bound guard.bound (all.same ∙ ap (λ ts. map (under s) (map (D r) ts)) c.as_slice.ensures);
      term = k3.same c.in_ok-term.term term.1 ∙ term.0 ∙ ap (λ z. under z (D one guard.term)) (terms_kept r one k1 b c.requires.bindings) ∙ ap (under s) (k1.same guard.term c.requires.guard.term);
      typ = typ.0 ∙ ap (λ z. under z (D two guard.typ)) (terms_kept r two k12 b c.requires.bindings) ∙ ap (under s) (k12.same guard.typ c.requires.guard.typ);
      own = record {
        bound = owned_kept one end bound kept all.own;
        term = k3.own c.in_ok-term.term term.1;
        typ = typ.1;
      };
    }
