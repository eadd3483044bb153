use Rattle.std.proofs.Common.{rules, ◌∙◌, ap, sym as flip}
use Rattle.dk_model.specs.RuleTyping.{outermost_first}
use Rattle.dk_model.specs.Typing.{answer}
use Rattle.signature_log.specs.Versions.{entries_of}
use Rattle.infer_check.specs.Contexts.{bound_types}
use Rattle.infer_check.proofs.Contexts.{length_bound_types}
use Rattle.rule_check.specs.Founds.{found_of}
use Rattle.rule_check.proofs.Judging.{wildcard_fails, wildcard_given}
use Rattle.rule_check.proofs.Founds.{found_kept, found_same}
use Rattle.rule_check.proofs.Moving.{same_walked, wildcard_found, wildcard_occurs}
use Rattle.rule_check.proofs.variables.walk_wildcard.Goals as goal

pub returns-in_err-typ-clause-gives : goal.returns-in_err-typ-clause-gives
returns-in_err-typ-clause-gives g c =
    let D = g.R.Reducer.denotes in
    let r = c.args.r.now in
    let x = c.args.side.now.walk.context in
    let e = c.as_slice.ensures ∙ c.in_ok-variables.ensures ∙ ap outermost_first (c.len.ensures ∙ flip (length_bound_types D r x)) in
    let p = wildcard_fails (entries_of c.args.version.now) (bound_types D r x) c.in_err-typ.field-0.0 _ c.as_slice.result.now (D r c.args.expected.now) (found_of D r c.args.side.now.found) c.args.side.now.walk.left e
    c.in_err-typ.ensures.gives in
    search rules

pub returns-clause-gives : goal.returns-clause-gives
returns-clause-gives g c =
    let D = g.R.Reducer.denotes in
    let r = c.args.r.now in
    let x = c.args.side.now.walk.context in
    let w = c.args.side.now.found in
    let mid = c.first_type.new.r in
    let end = c.occurrence.new.r in
    let n = c.first_type.new.walk.left in
    let given = c.in_ok-typ.ensures.gives in
    let e = c.as_slice.ensures ∙ c.in_ok-variables.ensures ∙ ap outermost_first (c.len.ensures ∙ flip (length_bound_types D r x)) in
    let found = wildcard_found r mid c.in_ok-typ.ensures.continues.keeps w c.push_type.new.self c.requires.found c.in_ok-typ.typ c.in_ok-number.ensures.types c.in_ok-number.ensures.guards c.in_ok-number.ensures.bindings given.1 in
    let made = c.in_ok-occurrence.ensures.makes in
    let k = c.in_ok-occurrence.ensures.keeps in (
      wildcard_given (entries_of c.args.version.now) (bound_types D r x) c.as_slice.result.now (D r c.args.expected.now) (D mid c.in_ok-typ.typ) (found_of D r w) c.args.side.now.walk.left n e given.0
          ∙ ap (λ y. answer y n) (same_walked (wildcard_occurs D r w c.in_ok-number.number c.as_slice.result.now c.as_slice-2.result.now c.in_ok-number.ensures.number (c.as_slice.ensures ∙ flip c.as_slice-2.ensures) ∙ flip made.0)
          (flip (found_same mid end k c.push_type.new.self found.1 ∙ found.0))),
      made.1,
      found_kept mid end k c.push_type.new.self found.1,
    )
