use Rattle.std.proofs.Common.{◌∙◌, ap}
use Rattle.dk_model.specs.Bindings.{under}
use Rattle.dk_model.specs.Erasure.{erased}
use Rattle.signature_log.proofs.Keeping.{keeps_further}
use Rattle.rule_check.specs.Founds.{terms_of}
use Rattle.rule_check.proofs.Founds.{bindings_kept, terms_kept}
use Rattle.rule_check.proofs.Bound.{makes_is}
use Rattle.rule_check.proofs.sides.note_under.Goals as goal

pub under-requires-clause-bindings : goal.under-requires-clause-bindings
under-requires-clause-bindings g c = bindings_kept c.args.r.now c.erase.new.self (keeps_further c.args.r.now c.load.new.self c.erase.new.self c.in_ok-loaded.ensures.keeps c.in_ok-erased.ensures.keeps) c.args.bindings.now c.requires

pub returns-clause-makes : goal.returns-clause-makes
returns-clause-makes g c =
    let D = g.R.Reducer.denotes in
    let r = c.args.r.now in
    let two = c.erase.new.self in
    let b = c.args.bindings.now in
    let k = keeps_further r c.load.new.self two c.in_ok-loaded.ensures.keeps c.in_ok-erased.ensures.keeps in
    makes_is g.R.Reducer.owns D c.under.new.r c.under.result
    (ap (λ s. under s (D two c.in_ok-erased.erased)) (terms_kept r two k b c.requires) ∙ ap (under (terms_of D r b)) (c.in_ok-erased.ensures.makes.0 ∙ ap erased c.in_ok-loaded.ensures.makes.0))
    c.under.ensures.makes
