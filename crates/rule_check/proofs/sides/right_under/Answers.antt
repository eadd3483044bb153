use Rattle.std.proofs.Common.{◌∙◌, ap}
use Rattle.dk_model.specs.Bindings.{under}
use Rattle.rule_check.specs.Founds.{terms_of}
use Rattle.rule_check.proofs.Founds.{bindings_kept, terms_kept}
use Rattle.rule_check.proofs.Bound.{makes_is}
use Rattle.rule_check.proofs.sides.right_under.Goals as goal

pub under-requires-clause-bindings : goal.under-requires-clause-bindings
under-requires-clause-bindings g c = bindings_kept c.args.r.now c.load.new.self c.in_ok-loaded.ensures.keeps c.args.bindings.now c.requires

pub returns-clause-makes : goal.returns-clause-makes
returns-clause-makes g c =
    let D = g.R.Reducer.denotes in
    let r = c.args.r.now in
    let two = c.load.new.self in
    let b = c.args.bindings.now in
    makes_is g.R.Reducer.owns D c.under.new.r c.under.result
    (ap (λ s. under s (D two c.in_ok-loaded.loaded)) (terms_kept r two c.in_ok-loaded.ensures.keeps b c.requires) ∙ ap (under (terms_of D r b)) c.in_ok-loaded.ensures.makes.0)
    c.under.ensures.makes
