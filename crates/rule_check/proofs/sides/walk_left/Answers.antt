use Rattle.std.proofs.Common.{rules, ◌∙◌, ap, map, sym as flip}
use Rattle.dk_model.specs.Signatures.{pattern}
use Rattle.dk_model.specs.RuleTyping.{patterns_of}
use Rattle.signature_log.specs.Versions.{entries_of}
use Rattle.infer_check.proofs.Judging.{fails_is}
use Rattle.rule_check.proofs.Moving.{none_bound}
use Rattle.rule_check.proofs.Walking.{spine_same, nothing_owned, nothing_is}
use Rattle.rule_check.proofs.sides.walk_left.Goals as goal

pub walk_spine-walked-requires-clause-found : goal.walk_spine-walked-requires-clause-found
walk_spine-walked-requires-clause-found g c = nothing_owned g.R.Reducer.owns g.R.Reducer.denotes c.symbol_head.new.r c.in_ok-found.found c.args.rule.now.vars c.in_ok-found.ensures.types c.in_ok-found.ensures.guards c.in_ok-found.ensures.bindings c.in_ok-found.ensures.mentioned

pub returns-in_err-walked-clause-gives : goal.returns-in_err-walked-clause-gives
returns-in_err-walked-clause-gives g c =
    let D = g.R.Reducer.denotes in
    let s = c.symbol_head.new.r in
    let rule = c.args.rule.now in
    let head = c.in_ok-head.ensures.head in
    let same = spine_same (entries_of c.args.version.now) c.args.left.now (none_bound D s c.new-context.result.bound c.new-context.ensures.bound) head.term head.typ
    (ap (λ ps. patterns_of (map pattern ps)) c.as_slice-arguments.ensures) (nothing_is D s c.in_ok-found.found rule.vars c.in_ok-found.ensures.types c.in_ok-found.ensures.guards c.in_ok-found.ensures.bindings) in
    let p = fails_is c.in_err-walked.field-0.0 _ _ _ (flip same) c.in_err-walked.ensures.gives in
    search rules

pub returns-clause-gives : goal.returns-clause-gives
returns-clause-gives g c =
    let D = g.R.Reducer.denotes in
    let s = c.symbol_head.new.r in
    let rule = c.args.rule.now in
    let head = c.in_ok-head.ensures.head in
    let given = c.in_ok-walked.ensures.gives in
    let same = spine_same (entries_of c.args.version.now) c.args.left.now (none_bound D s c.new-context.result.bound c.new-context.ensures.bound) head.term head.typ
    (ap (λ ps. patterns_of (map pattern ps)) c.as_slice-arguments.ensures) (nothing_is D s c.in_ok-found.found rule.vars c.in_ok-found.ensures.types c.in_ok-found.ensures.guards c.in_ok-found.ensures.bindings) in
    (D c.walk_spine-walked.new.r c.in_ok-walked.field-0.term, flip same ∙ given.0, given.2, given.3)
