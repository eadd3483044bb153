use Rattle.std.proofs.Common.{rules, arith, ◌≡◌, ◌+◌, suc, length, ◌∙◌, ap, sym as flip, subst}
use Rattle.signature_log.specs.Reducers.{OwnsSomes}
use Rattle.signature_log.proofs.Keeping.{keeps_further}
use Rattle.rule_check.specs.Founds.{types_of}
use Rattle.rule_check.specs.Levels.{rounds}
use Rattle.rule_check.proofs.Founds.{owned_types_kept}
use Rattle.rule_check.proofs.Bound.{round_more, all_rounds}
use Rattle.rule_check.proofs.bindings.under.Goals as goal

pub fill-requires-clause-others : goal.fill-requires-clause-others
fill-requires-clause-others g c = let b = c.args.bindings.now in
    subst (OwnsSomes g.R.Reducer.owns c.loop.r) (flip c.as_slice.ensures.value) (owned_types_kept c.args.r.now c.loop.r c.loop.invariant.keeps b.terms.items c.requires.bindings.own)

pub loop-preserved : goal.loop-preserved
loop-preserved g c =
    let owns = g.R.Reducer.owns in
    let D = g.R.Reducer.denotes in
    let r = c.args.r.now in
    let at = c.loop.r in
    let new = c.fill.new.self in
    let b = c.args.bindings.now in
    let t = D r c.args.term in
    let i = c.loop.invariant in
    let made = c.in_ok-term.ensures.makes in
    let n : suc c.loop.counter ≡ c.loop.counter + 1 = omega arith in
    record {
      makes = (
        round_more owns D r at i.keeps b c.as_slice.result.now c.loop.counter t (D at c.loop.term) (D new c.in_ok-term.term) c.requires.bindings c.as_slice.ensures.value i.makes.0 made.0
            ∙ ap (λ m. rounds (types_of D r b.terms.items) m t) n,
        made.1,
      );
      keeps = keeps_further r at new i.keeps c.in_ok-term.ensures.keeps;
      serves = λ S h. c.in_ok-term.ensures.serves S (i.serves S h);
    }

pub returns-clause-makes : goal.returns-clause-makes
returns-clause-makes g c =
    let D = g.R.Reducer.denotes in
    let r = c.args.r.now in
    let b = c.args.bindings.now in
    let i = c.loop.invariant in
    let e : c.loop.counter ≡ length b.levels.items = search rules in (
      all_rounds g.R.Reducer.owns D r b c.loop.counter (D r c.args.term) (D c.loop.r c.loop.term) c.requires.bindings e i.makes.0,
      i.makes.1,
    )
