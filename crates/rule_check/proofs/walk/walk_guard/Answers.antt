use Rattle.dk_model.specs.Trees.{tree}
use Rattle.infer_check.proofs.Contexts.{context_kept}
use Rattle.rule_check.proofs.Guarding.{guard_found}
use Rattle.rule_check.proofs.walk.walk_guard.Goals as goal

pub guard_at-requires-clause-context : goal.guard_at-requires-clause-context
guard_at-requires-clause-context g c = context_kept c.args.r.now c.guard_term.new.r c.args.side.now.walk.context c.in_ok-term.ensures.keeps c.requires.ready.context

pub returns-clause-gives : goal.returns-clause-gives
returns-clause-gives g c =
    let r = c.args.r.now in
    let one = c.guard_term.new.r in
    let two = c.guard_at.new.r in
    guard_found r one two c.in_ok-term.ensures.keeps c.in_ok-guard.ensures.keeps c.args.side.now.walk.context c.requires.ready.context c.args.side.now.found c.push_guard.new.self c.requires.found
    c.args.expected.now c.requires.expected c.in_ok-term.term (tree c.args.term.now) c.len.result c.in_ok-guard.guard c.len.ensures
    c.in_ok-term.ensures.makes c.in_ok-guard.ensures.guard c.in_ok-push_guard.ensures.types c.in_ok-push_guard.ensures.guards c.in_ok-push_guard.ensures.bindings c.args.side.now.walk.left
