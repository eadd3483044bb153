use Rattle.std.proofs.Common.{◌∙◌, ap, refl}
use Rattle.dk_model.specs.Bindings.{under}
use Rattle.dk_model.specs.Typing.{variable_type}
use Rattle.signature_log.specs.Versions.{entries_of}
use Rattle.signature_log.proofs.Keeping.{keeps_further}
use Rattle.infer_check.specs.Contexts.{bound_types}
use Rattle.rule_check.specs.Founds.{terms_of}
use Rattle.rule_check.proofs.Founds.{bindings_kept, terms_kept}
use Rattle.rule_check.proofs.Moving.{argument_moved, binds_moved}
use Rattle.rule_check.proofs.occurrence.argument_type.Goals as goal

pub under-requires-clause-bindings : goal.under-requires-clause-bindings
under-requires-clause-bindings g c = bindings_kept c.args.r.now c.variable_type.new.r c.in_ok-typ.ensures.keeps c.args.argument.bindings.now c.requires.bindings

pub returns-clause-gives : goal.returns-clause-gives
returns-clause-gives g c =
    let S = entries_of c.args.version.now in
    let D = g.R.Reducer.denotes in
    let r = c.args.r.now in
    let one = c.variable_type.new.r in
    let two = c.under.new.r in
    let x = c.args.walk.now.context in
    let b = c.args.argument.bindings.now in
    let k = c.in_ok-typ.ensures.keeps in
    let l = c.in_ok-typ-2.ensures.keeps in
    let kl = keeps_further r one two k l in
    let typ = D two c.in_ok-typ-2.typ in
    let n = c.args.walk.now.left in
    let e = c.in_ok-typ-2.ensures.makes.0 ∙ ap (λ s. under s (D one c.in_ok-typ.typ)) (terms_kept r one k b c.requires.bindings) ∙ ap (under (terms_of D r b)) c.in_ok-typ.ensures.makes.0 ∙ ap (λ i. under (terms_of D r b) (variable_type (bound_types D r x) i)) c.from.ensures in
    argument_moved S r two x kl c.requires.ready.context b c.requires.bindings c.bound_type.new.r c.args.argument.before.now c.args.argument.number typ n c.bound_type.new.walk.left c.bound_type.result e
    (binds_moved S r two x kl c.requires.ready.context c.bound_type.new.r c.args.argument.before.now typ typ n c.bound_type.new.walk.left c.bound_type.result refl c.bound_type.ensures.gives)
