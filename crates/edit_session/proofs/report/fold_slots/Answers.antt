use Rattle.std.proofs.Common.{◌≡◌, ◌+◌, ◌∙◌, ap, arith, length, subst, sym}
use Rattle.edit_session.specs.Folding.{IsFolded, IsQuiet, TurnsTo}
use Rattle.edit_session.specs.Reporting.{IsEnded, IsOwnEnd, IsReported}
use Rattle.edit_session.specs.declared.fold.Fold.{Fold}
use Rattle.edit_session.proofs.Ending.{begun, stopped_reported, whole_reported}
use Rattle.edit_session.proofs.Taking.{kept_on}
use Rattle.edit_session.proofs.report.fold_slots.Goals as goal

pub loop-at-init : goal.loop-at-init
loop-at-init g c =
    let b = c.in_ok-fold.ensures.begun in
    record {
      folded = subst (λ n. IsFolded c.args.limits n c.args.slots.now.items 0 c.args.slots.now.items c.in_ok-fold.fold.value) (sym b.budget_is) (begun c.args.limits c.args.budget c.args.slots.now.items c.in_ok-fold.fold.value b c.requires.right);
      budget = b.budget_is;
    }

pub returns-in_err-take-clause-slots : goal.returns-in_err-take-clause-slots
returns-in_err-take-clause-slots g c =
    let folded = subst (λ (f : Fold). IsFolded c.args.limits f.budget c.args.slots.now.items c.loop-at.at c.loop-at.slots.items f) (sym c.deref_mut.ensures.value) c.loop-at.invariant.folded in
    let budget = ap (λ (f : Fold). f.budget) c.deref_mut.ensures.value ∙ c.loop-at.invariant.budget in
    kept_on budget folded.slots_kept (c.in_err-take.ensures.slots c.args.limits c.args.slots.now.items folded)

pub returns-in_err-end-in-Stopped-clause-slots : goal.returns-in_err-end-in-Stopped-clause-slots
returns-in_err-end-in-Stopped-clause-slots g c =
    let folded = subst (λ (f : Fold). IsFolded c.args.limits f.budget c.args.slots.now.items c.loop-at.at c.loop-at.slots.items f) (sym c.deref_mut.ensures.value) c.loop-at.invariant.folded in
    let budget = ap (λ (f : Fold). f.budget) c.deref_mut.ensures.value ∙ c.loop-at.invariant.budget in
    kept_on budget folded.slots_kept (c.in_ok-take.ensures.slots c.args.limits c.args.slots.now.items folded)

pub seal-requires : goal.seal-requires
seal-requires g c =
    let folded = subst (λ (f : Fold). IsFolded c.args.limits f.budget c.args.slots.now.items c.loop-at.at c.loop-at.slots.items f) (sym c.deref_mut.ensures.value) c.loop-at.invariant.folded in
    let budget = ap (λ (f : Fold). f.budget) c.deref_mut.ensures.value ∙ c.loop-at.invariant.budget in
    let s = (subst (TurnsTo c.loop-at.at c.deref_mut.result.now c.loop-at.slots.items c.take.new.self c.take.new.slots.items) c.in-Stopped.is c.in_ok-take.ensures.turn) c.args.limits c.args.slots.now.items folded in
    record { own = subst IsOwnEnd (sym c.in_ok-end-in-Stopped.ensures) s.fault }

pub returns-in_err-seal-in-Stopped-clause-slots : goal.returns-in_err-seal-in-Stopped-clause-slots
returns-in_err-seal-in-Stopped-clause-slots g c =
    let folded = subst (λ (f : Fold). IsFolded c.args.limits f.budget c.args.slots.now.items c.loop-at.at c.loop-at.slots.items f) (sym c.deref_mut.ensures.value) c.loop-at.invariant.folded in
    let budget = ap (λ (f : Fold). f.budget) c.deref_mut.ensures.value ∙ c.loop-at.invariant.budget in
    kept_on budget folded.slots_kept (c.in_ok-take.ensures.slots c.args.limits c.args.slots.now.items folded)

pub returns-in-Stopped-clause-reported : goal.returns-in-Stopped-clause-reported
returns-in-Stopped-clause-reported g c =
    let folded = subst (λ (f : Fold). IsFolded c.args.limits f.budget c.args.slots.now.items c.loop-at.at c.loop-at.slots.items f) (sym c.deref_mut.ensures.value) c.loop-at.invariant.folded in
    let budget = ap (λ (f : Fold). f.budget) c.deref_mut.ensures.value ∙ c.loop-at.invariant.budget in
    let s = (subst (TurnsTo c.loop-at.at c.deref_mut.result.now c.loop-at.slots.items c.take.new.self c.take.new.slots.items) c.in-Stopped.is c.in_ok-take.ensures.turn) c.args.limits c.args.slots.now.items folded in
    let e : c.deref_mut-in-Stopped.result.now ≡ c.take.new.self = c.deref_mut-in-Stopped.ensures.value in
    let f : Fold = record c.deref_mut-in-Stopped.result.now { lines = record { book = c.seal.new.book; titles = c.deref_mut-in-Stopped.result.now.lines.titles } } in
    subst (λ n. IsReported c.args.limits n c.args.slots.now.items c.take.new.slots.items f) budget
    (stopped_reported c.args.limits c.deref_mut.result.now.budget c.args.slots.now.items c.loop-at.at c.in-Stopped.verdict c.take.new.slots.items c.take.new.self f s (ap (λ (f : Fold). f.lines.titles) e) (ap (λ (f : Fold). f.checked) e)
    (subst (IsEnded c.seal.new.book c.loop-at.at) c.in_ok-end-in-Stopped.ensures (c.in_ok-seal-in-Stopped.ensures c.loop-at.at (subst (λ (f : Fold). IsQuiet f.lines.book c.loop-at.at) (sym e) s.quiet))))

pub loop-at-preserved : goal.loop-at-preserved
loop-at-preserved g c =
    let folded = subst (λ (f : Fold). IsFolded c.args.limits f.budget c.args.slots.now.items c.loop-at.at c.loop-at.slots.items f) (sym c.deref_mut.ensures.value) c.loop-at.invariant.folded in
    let budget = ap (λ (f : Fold). f.budget) c.deref_mut.ensures.value ∙ c.loop-at.invariant.budget in
    let s = (subst (TurnsTo c.loop-at.at c.deref_mut.result.now c.loop-at.slots.items c.take.new.self c.take.new.slots.items) c.in-Accepted.is c.in_ok-take.ensures.turn) c.args.limits c.args.slots.now.items folded in
    record {
      folded = subst (λ n. IsFolded c.args.limits n c.args.slots.now.items (c.loop-at.at + 1) c.take.new.slots.items c.take.new.self) (sym c.in_ok-take.ensures.budget) s;
      budget = c.in_ok-take.ensures.budget ∙ budget;
    }

pub returns-clause-reported : goal.returns-clause-reported
returns-clause-reported g c =
    let e : c.deref_mut-2.result.now ≡ c.loop-at.fold.value = c.deref_mut-2.ensures.value in
    let s = c.loop-at.invariant.folded in
    let f : Fold = record c.deref_mut-2.result.now { lines = record { book = c.seal-2.new.book; titles = c.deref_mut-2.result.now.lines.titles } } in
    let n : c.loop-at.at ≡ length c.args.slots.now.items = omega (arith, c.loop-at-test.false, c.loop-at.auto.at-end, c.len-at-end.ensures, c.args.slots.now.ok.0) in
    subst (λ n. IsReported c.args.limits n c.args.slots.now.items c.loop-at.slots.items f) c.loop-at.invariant.budget
    (whole_reported c.args.limits c.loop-at.fold.value.budget c.args.slots.now.items c.loop-at.at c.loop-at.slots.items c.loop-at.fold.value f n s (ap (λ (f : Fold). f.lines.titles) e) (ap (λ (f : Fold). f.checked) e) (c.in_ok-seal.ensures c.loop-at.at (subst (λ (f : Fold). IsQuiet f.lines.book c.loop-at.at) (sym e) s.quiet)))
