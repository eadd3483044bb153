-- A selection that waited goes on with the weak head form that it waited for.
use Rattle.std.proofs.Common.{◌∙◌, List, Option, Some, length, ap, subst}
use Rattle.dk_model.specs.Signatures.{PlainSignature}
use Rattle.shared_term.specs.declared.id.TermId.{TermId}
use Rattle.shared_term.specs.Pools.{Node}
use Rattle.signature_log.specs.Versions.{entries_of}
use Rattle.rule_match.specs.Selecting.{TakesValue}
use Rattle.rule_match.specs.declared.matcher.Answer.TheVariants.{Value}
use Rattle.conversion.specs.declared.compare.Look.TheVariants.{Behind}
use Rattle.conversion.specs.declared.pauses.Purpose.{Purpose}
use Rattle.conversion.specs.Pausing.{WaitsFor, GoesOnWith, ComparesFor, NormalisesFor, TakesAnswer}
use Rattle.conversion.proofs.Winding.{extends_none}
use Rattle.conversion.proofs.Comparing.{look_open}
use Rattle.conversion.proofs.Waiting.{normal_open}
use Rattle.conversion.proofs.Telling.{selection_told}
use Rattle.conversion.proofs.Told.{pair_told, part_told}
use Rattle.conversion.proofs.state.PoolReducer.told.Goals as goal

pub returns-in-Column-clause-gives : goal.returns-in-Column-clause-gives
returns-in-Column-clause-gives c = λ due g.
    let S : PlainSignature = entries_of c.args.version.now in
    let ns : List Node = c.args.self.now.pool in
    let p = c.args.pause in
    let h : GoesOnWith S ns p.waiter (λ v. Value v) _ due = subst (λ (u : Purpose). WaitsFor S ns p.waiter u p.asked p.start due) c.in-Column.is g in
    let f : TakesValue p.waiter.matcher = subst (TakesAnswer p.waiter.matcher) c.in-Column.is c.requires.pause.fits in
    selection_told S ns p.waiter (Value c.args.value) c.goes.result c.goes.new.stack.items due c.args.left.now c.goes.ensures.goes (ap (λ v. v.items) c.goes.ensures.stack)
    (h.goes ns c.args.value c.args.left.now (extends_none ns) c.requires.told) c.requires.pause.waiter (f (length ns) c.args.value c.requires.value)

pub compare_for-requires-clause-open : goal.compare_for-requires-clause-open
compare_for-requires-clause-open c =
    let S : PlainSignature = entries_of c.args.version.now in
    let ns : List Node = c.args.self.now.pool in
    let p = c.args.pause in
    let h : ComparesFor S ns p.waiter c.in-Compares.work.items c.in-Compares.pair (Some c.in-Some.first) p.asked p.start c.requires.waits.0 =
    subst (λ (x : Option TermId). ComparesFor S ns p.waiter c.in-Compares.work.items c.in-Compares.pair x p.asked p.start c.requires.waits.0) (let a = c.in-Compares.first-is in let b = c.in-Some.is in cc)
    (subst (λ (u : Purpose). WaitsFor S ns p.waiter u p.asked p.start c.requires.waits.0) c.in-Compares.is c.requires.waits.1) in
    let way = (rw (c.in-Compares.work-is, c.in-Compares.pair-is) at c.in_ok-alike-in-Some.ensures) S h.alike c.args.left.now
    (pair_told S ns p.waiter c.in-Compares.work.items c.in-Compares.pair c.in-Some.first p.asked c.args.value p.start c.args.left.now c.requires.waits.0 h c.requires.value c.requires.told) in
    look_open S ns h.alike (Behind c.in_ok-alike-in-Some.alike) c.args.left.now c.pair_parts.new.work.items way

pub returns-in_ok-alike-in-Some-clause-gives : goal.returns-in_ok-alike-in-Some-clause-gives
returns-in_ok-alike-in-Some-clause-gives c = λ due g.
    let S : PlainSignature = entries_of c.args.version.now in
    let ns : List Node = c.args.self.now.pool in
    let p = c.args.pause in
    let h : ComparesFor S ns p.waiter c.in-Compares.work.items c.in-Compares.pair (Some c.in-Some.first) p.asked p.start due =
    subst (λ (x : Option TermId). ComparesFor S ns p.waiter c.in-Compares.work.items c.in-Compares.pair x p.asked p.start due) (let a = c.in-Compares.first-is in let b = c.in-Some.is in cc)
    (subst (λ (u : Purpose). WaitsFor S ns p.waiter u p.asked p.start due) c.in-Compares.is g) in
    let way = (rw (c.in-Compares.work-is, c.in-Compares.pair-is) at c.in_ok-alike-in-Some.ensures) S h.alike c.args.left.now
    (pair_told S ns p.waiter c.in-Compares.work.items c.in-Compares.pair c.in-Some.first p.asked c.args.value p.start c.args.left.now due h c.requires.value c.requires.told) in
    c.compare_for.ensures.gives due (record { ends = λ e. h.further.ends (way.comes ∙ e); goes = λ new alike n y e. h.further.goes new alike n y (way.comes ∙ e) })

pub normalise_for-requires-clause-way : goal.normalise_for-requires-clause-way
normalise_for-requires-clause-way c =
    let S : PlainSignature = entries_of c.args.version.now in
    let ns : List Node = c.args.self.now.pool in
    let p = c.args.pause in
    let h : NormalisesFor S ns p.waiter c.in-Normalises.frames.items c.in-Normalises.opened p.asked p.start c.requires.waits.0 =
    subst (λ (u : Purpose). WaitsFor S ns p.waiter u p.asked p.start c.requires.waits.0) c.in-Normalises.is c.requires.waits.1 in
    let way = (rw (c.in-Normalises.frames-is, c.in-Normalises.opened-is) at c.in_ok-next-in-Normalises.ensures).1 S h.normal c.args.left.now
    (part_told S ns p.waiter c.in-Normalises.frames.items c.in-Normalises.opened p.asked c.args.value p.start c.args.left.now c.requires.waits.0 h c.requires.told) in
    normal_open S ns c.part_parts.new.frames.items h.normal _ c.args.left.now way

pub returns-in_ok-next-in-Normalises-clause-gives : goal.returns-in_ok-next-in-Normalises-clause-gives
returns-in_ok-next-in-Normalises-clause-gives c = λ due g.
    let S : PlainSignature = entries_of c.args.version.now in
    let ns : List Node = c.args.self.now.pool in
    let p = c.args.pause in
    let h : NormalisesFor S ns p.waiter c.in-Normalises.frames.items c.in-Normalises.opened p.asked p.start due =
    subst (λ (u : Purpose). WaitsFor S ns p.waiter u p.asked p.start due) c.in-Normalises.is g in
    let way = (rw (c.in-Normalises.frames-is, c.in-Normalises.opened-is) at c.in_ok-next-in-Normalises.ensures).1 S h.normal c.args.left.now
    (part_told S ns p.waiter c.in-Normalises.frames.items c.in-Normalises.opened p.asked c.args.value p.start c.args.left.now due h c.requires.told) in
    c.normalise_for.ensures.gives due (record { ends = λ e. h.further.ends (way.comes ∙ e); goes = λ new v n y e. h.further.goes new v n y (way.comes ∙ e) })
