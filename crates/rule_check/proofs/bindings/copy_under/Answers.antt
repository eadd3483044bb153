use Rattle.std.proofs.Common.{◌∙◌, ap}
use Rattle.dk_model.specs.Bindings.{under}
use Rattle.rule_check.specs.Founds.{terms_of}
use Rattle.rule_check.proofs.Founds.{bindings_kept, terms_kept}
use Rattle.rule_check.proofs.Bound.{makes_is}
use Rattle.rule_check.proofs.bindings.copy_under.Goals as goal

pub under-requires-clause-bindings : goal.under-requires-clause-bindings
under-requires-clause-bindings g c = bindings_kept c.args.r.now c.copy.new.self c.in_ok-copy.ensures.keeps c.args.bindings.now c.requires.bindings

pub returns-clause-makes : goal.returns-clause-makes
returns-clause-makes g c =
    let D = g.R.Reducer.denotes in
    let r = c.args.r.now in
    let mid = c.copy.new.self in
    let b = c.args.bindings.now in
    makes_is g.R.Reducer.owns D c.under.new.r c.under.result
    (ap (λ s. under s (D mid c.in_ok-copy.copy)) (terms_kept r mid c.in_ok-copy.ensures.keeps b c.requires.bindings) ∙ ap (under (terms_of D r b)) c.in_ok-copy.ensures.makes.0)
    c.under.ensures.makes
