use Rattle.std.proofs.Common.{subst}
use Rattle.dk_model.specs.Captures.{capture_at}
use Rattle.rule_check.specs.Founds.{types_of}
use Rattle.rule_check.specs.Bindings.{IsSomeUnder}
use Rattle.rule_check.proofs.Bound.{is_put, is_not_put}
use Rattle.rule_check.proofs.bindings.put_into.Goals as goal

pub returns-in-Some-clause-put : goal.returns-in-Some-clause-put
returns-in-Some-clause-put g c =
    let owns = g.R.Reducer.owns in
    let D = g.R.Reducer.denotes in
    let r = c.args.r.now in
    let mid = c.bound_under.new.r in
    let os = c.args.terms.now.items in
    let n = c.args.number in
    is_put owns D r mid c.in_ok-term.ensures.keeps os c.requires.terms n c.in-Some.term c.put.new.terms.items c.put.result
    (subst (IsSomeUnder owns D r os (capture_at (types_of D r os) n) mid) c.in-Some.is
    (subst (λ ts. IsSomeUnder owns D r ts (capture_at (types_of D r ts) n) mid c.in_ok-term.field-0) c.as_slice.ensures.value c.in_ok-term.ensures.under))
    c.put.ensures

pub returns-in-None-clause-put : goal.returns-in-None-clause-put
returns-in-None-clause-put g c =
    let owns = g.R.Reducer.owns in
    let D = g.R.Reducer.denotes in
    let r = c.args.r.now in
    let mid = c.bound_under.new.r in
    let os = c.args.terms.now.items in
    let n = c.args.number in
    is_not_put owns D r mid c.in_ok-term.ensures.keeps os c.requires.terms n
    (subst (IsSomeUnder owns D r os (capture_at (types_of D r os) n) mid) c.in-None.is
    (subst (λ ts. IsSomeUnder owns D r ts (capture_at (types_of D r ts) n) mid c.in_ok-term.field-0) c.as_slice.ensures.value c.in_ok-term.ensures.under))
