use Rattle.std.proofs.Common.{◌∙◌, ap, sym as flip}
use Rattle.dk_model.specs.RuleTyping.{found_type}
use Rattle.dk_model.specs.Typing.{answer}
use Rattle.signature_log.specs.Versions.{entries_of}
use Rattle.infer_check.specs.Contexts.{bound_types}
use Rattle.rule_check.specs.Founds.{types_of, found_of}
use Rattle.rule_check.proofs.Judging.{meeting_given}
use Rattle.rule_check.proofs.Founds.{found_kept, found_same}
use Rattle.rule_check.proofs.Moving.{same_walked}
use Rattle.rule_check.proofs.variables.walk_variable.Goals as goal

pub returns-clause-gives : goal.returns-clause-gives
returns-clause-gives g c =
    let D = g.R.Reducer.denotes in
    let r = c.args.r.now in
    let mid = c.meet_variable.new.r in
    let end = c.occurrence.new.r in
    let w = c.args.side.now.found in
    let after = c.meet_variable.new.side.found in
    let n = c.meet_variable.new.side.walk.left in
    let given = c.in_ok-meet_variable.ensures.gives in
    let k = c.in_ok-occurrence.ensures.keeps in
    let made = c.in_ok-occurrence.ensures.makes in (
      meeting_given (entries_of c.args.version.now) (bound_types D r c.args.side.now.walk.context) c.args.variable.now.number c.args.variable.now.arguments.now (found_type (types_of D r w.types.items) c.args.variable.now.number) (D r c.args.expected.now)
          (found_of D r w) (found_of D mid after) c.args.side.now.walk.left n given.0
          ∙ ap (λ y. answer y n) (same_walked (flip made.0) (flip (found_same mid end k after given.1))),
      made.1,
      found_kept mid end k after given.1,
    )
