use Rattle.std.proofs.Common.{◌∙◌, ap, sym as flip}
use Rattle.dk_model.specs.Typing.{answer}
use Rattle.signature_log.specs.Versions.{entries_of}
use Rattle.infer_check.specs.Contexts.{bound_types}
use Rattle.rule_check.specs.Founds.{found_of}
use Rattle.rule_check.proofs.Judging.{meet_first_given}
use Rattle.rule_check.proofs.Moving.{set_found}
use Rattle.rule_check.proofs.variables.meet_first.Goals as goal

pub returns-clause-gives : goal.returns-clause-gives
returns-clause-gives g c =
    let D = g.R.Reducer.denotes in
    let r = c.args.r.now in
    let end = c.first_type.new.r in
    let given = c.in_ok-typ.ensures.gives in
    let w = c.args.side.now.found in
    let found = set_found (entries_of c.args.version.now) r end c.args.side.now.walk.context c.in_ok-typ.ensures.continues.keeps c.requires.ready.context w c.set.new.self c.requires.found c.args.variable.now.number c.in_ok-typ.typ
    c.set.ensures.types c.set.ensures.guards c.set.ensures.bindings given.1 in (
      meet_first_given (entries_of c.args.version.now) (bound_types D r c.args.side.now.walk.context) c.args.variable.now.number c.args.variable.now.arguments.now (D r c.args.expected.now) (D end c.in_ok-typ.typ) (found_of D r w)
          c.args.side.now.walk.left c.first_type.new.walk.left given.0 ∙ ap (λ y. answer y c.first_type.new.walk.left) (flip found.0),
      found.1,
    )
