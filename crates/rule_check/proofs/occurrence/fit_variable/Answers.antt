use Rattle.std.proofs.Common.{◌∙◌, ap}
use Rattle.dk_model.specs.Typing.{variable_type}
use Rattle.signature_log.specs.Versions.{entries_of}
use Rattle.infer_check.specs.Contexts.{bound_types}
use Rattle.rule_check.proofs.Founds.{bindings_kept, terms_kept}
use Rattle.rule_check.proofs.Solving.{bindings_is, solved_same}
use Rattle.rule_check.proofs.occurrence.fit_variable.Goals as goal

pub expect-requires-clause-bindings : goal.expect-requires-clause-bindings
expect-requires-clause-bindings g c = bindings_kept c.args.r.now c.variable_type.new.r c.in_ok-typ.ensures.keeps c.args.side.now.found.bindings c.requires.bindings

pub returns-clause-gives : goal.returns-clause-gives
returns-clause-gives g c =
    let D = g.R.Reducer.denotes in
    let r = c.args.r.now in
    let one = c.variable_type.new.r in
    let b = c.args.side.now.found.bindings in
    let k = c.in_ok-typ.ensures.keeps in
    bindings_is g.R.Reducer.owns D c.expect.new.r c.expect.new.side.found.bindings c.expect.result c.expect.new.side.walk.left
    (solved_same (entries_of c.args.version.now) c.args.side.now.walk.left (terms_kept r one k b c.requires.bindings) (c.in_ok-typ.ensures.makes.0 ∙ ap (variable_type (bound_types D r c.args.side.now.walk.context)) c.from.ensures) (k.same c.args.domain.now c.requires.domain))
    c.expect.ensures.gives
