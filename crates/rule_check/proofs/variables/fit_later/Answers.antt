use Rattle.std.proofs.Common.{refl, ◌∙◌, sym as flip}
use Rattle.signature_log.specs.Versions.{entries_of}
use Rattle.infer_check.specs.Contexts.{bound_types}
use Rattle.rule_check.specs.Founds.{terms_of}
use Rattle.rule_check.proofs.Continuing.{rebound_further}
use Rattle.rule_check.proofs.Solving.{bindings_is, solved_same, later_goes_on}
use Rattle.rule_check.proofs.variables.fit_later.Goals as goal

pub returns-clause-gives : goal.returns-clause-gives
returns-clause-gives g c =
    let S = entries_of c.args.version.now in
    let D = g.R.Reducer.denotes in
    let r = c.args.r.now in
    let mid = c.later_type.new.r in
    let x = c.args.side.now.walk.context in
    let b = c.args.side.now.found.bindings in
    let after = c.later_type.new.side.found.bindings in
    let given = c.in_ok-typ.ensures.gives in
    let k = c.in_ok-typ.ensures.continues.keeps in
    bindings_is g.R.Reducer.owns D c.expect.new.r c.expect.new.side.found.bindings c.expect.result c.expect.new.side.walk.left
    (solved_same S c.later_type.new.side.walk.left refl refl (k.same c.args.expected.now c.requires.expected)
    ∙ flip (later_goes_on S (bound_types D r x) c.args.met.arguments.now (D r c.args.met.typ) (D r c.args.expected.now) (terms_of D r b) (record { typ = D mid c.in_ok-typ.typ; bindings = terms_of D mid after }) c.args.side.now.walk.left c.later_type.new.side.walk.left given.0))
    c.expect.ensures.gives

pub returns-clause-rebound : goal.returns-clause-rebound
returns-clause-rebound g c = rebound_further c.args.side.now.found c.later_type.new.side.found c.expect.new.side.found c.in_ok-typ.ensures.rebound c.expect.ensures.rebound
