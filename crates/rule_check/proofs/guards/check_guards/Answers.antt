use Rattle.std.proofs.Common.{rules, arith, ◌≤◌, ◌∙◌, sym as flip, subst}
use Rattle.signature_log.specs.Versions.{entries_of}
use Rattle.signature_log.specs.Reducers.{AreOwned}
use Rattle.signature_log.proofs.Keeping.{keeps_further}
use Rattle.infer_check.proofs.Contexts.{owned_kept}
use Rattle.infer_check.proofs.Judging.{fails_is}
use Rattle.infer_check.proofs.Walks.{follows}
use Rattle.rule_check.specs.Founds.{OwnsGuards}
use Rattle.rule_check.proofs.Continuing.{follows_further}
use Rattle.rule_check.proofs.Founds.{owned_guard_kept, bindings_kept}
use Rattle.rule_check.proofs.Guarding.{guard_under_is, guards_fail, guards_go_on}
use Rattle.rule_check.proofs.guards.check_guards.Goals as goal

pub guard_under-requires-clause-guard : goal.guard_under-requires-clause-guard
guard_under-requires-clause-guard g c =
    let i = c.loop-guard.invariant in
    owned_guard_kept c.args.r.now c.loop-guard.r i.follows.keeps c.in-Some.guard.now ((subst (OwnsGuards g.R.Reducer.owns c.args.r.now) c.in-Some.ensures.cases.0 i.rest).0)

pub guard_under-requires-clause-bindings : goal.guard_under-requires-clause-bindings
guard_under-requires-clause-bindings g c = bindings_kept c.args.r.now c.loop-guard.r c.loop-guard.invariant.follows.keeps c.args.found.now.bindings c.requires.found.bindings

pub check_guard-requires-clause-types : goal.check_guard-requires-clause-types
check_guard-requires-clause-types g c =
    let i = c.loop-guard.invariant in
    subst (AreOwned g.R.Reducer.owns c.guard_under.new.r) (flip i.types)
    (owned_kept c.args.r.now c.guard_under.new.r c.args.types (keeps_further c.args.r.now c.loop-guard.r c.guard_under.new.r i.follows.keeps c.in_ok-guard.ensures.keeps) c.requires.types)

pub returns-in_err-types-clause-gives : goal.returns-in_err-types-clause-gives
returns-in_err-types-clause-gives g c =
    let S = entries_of c.args.version.now in
    let D = g.R.Reducer.denotes in
    let r = c.args.r.now in
    let at = c.loop-guard.r in
    let i = c.loop-guard.invariant in
    let f = c.in_err-types.field-0.0 in
    let guard = c.in-Some.guard.now in
    let w = c.args.found.now in
    let o = (subst (OwnsGuards g.R.Reducer.owns r) c.in-Some.ensures.cases.0 i.rest).0 in
    let same = guard_under_is S r at c.guard_under.new.r i.follows.keeps c.in_ok-guard.ensures.keeps c.args.types c.loop-guard.types w guard c.in_ok-guard.guard c.loop-guard.left i.types c.requires.types o c.requires.found.bindings c.in_ok-guard.ensures.under in
    let h = fails_is f _ _ _ (flip same) c.in_err-types.ensures.gives in
    let p = fails_is f _ _ _ (flip i.same) (guards_fail D S r c.args.types w.bindings f _ guard c.loop-guard.rest.now c.in-Some.others.now c.loop-guard.left c.in-Some.ensures.cases.0 h) in
    search rules

pub loop-guard-preserved : goal.loop-guard-preserved
loop-guard-preserved g c =
    let S = entries_of c.args.version.now in
    let D = g.R.Reducer.denotes in
    let r = c.args.r.now in
    let at = c.loop-guard.r in
    let mid = c.guard_under.new.r in
    let i = c.loop-guard.invariant in
    let guard = c.in-Some.guard.now in
    let w = c.args.found.now in
    let owned = subst (OwnsGuards g.R.Reducer.owns r) c.in-Some.ensures.cases.0 i.rest in
    let given = c.in_ok-types.ensures.gives in
    let same = guard_under_is S r at mid i.follows.keeps c.in_ok-guard.ensures.keeps c.args.types c.loop-guard.types w guard c.in_ok-guard.guard c.loop-guard.left i.types c.requires.types owned.0 c.requires.found.bindings c.in_ok-guard.ensures.under in
    let serves = c.in_ok-guard.ensures.serves S i.follows.serving in
    record {
      same = guards_go_on D S r c.args.types w.bindings guard c.loop-guard.rest.now c.in-Some.others.now c.loop-guard.left c.check_guard.new.left c.in-Some.ensures.cases.0 (flip same ∙ given.0) ∙ i.same;
      rest = owned.1;
      types = given.1 ∙ i.types;
      follows = follows_further r mid c.check_guard.new.r (follows_further r at mid i.follows (follows at mid c.in_ok-guard.ensures.keeps serves)) c.in_ok-types.ensures.follows;
      spent = let p : c.check_guard.new.left ≤ c.loop-guard.left = c.in_ok-types.ensures.spent in let q : c.loop-guard.left ≤ c.args.left.now = i.spent in omega (arith, p, q);
    }
