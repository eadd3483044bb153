use Rattle.std.proofs.Common.{ℕ, ◌≡◌, ◌+◌, ◌-◌, ◌∙◌, ap, arith, sym as flip, subst as along}
use Rattle.dk_model.specs.Trees.{Tree, tree}
use Rattle.dk_model.specs.declared.term.Term.{Term}
use Rattle.told_steps.specs.Parts.{AlwaysLeadsTo}
use Rattle.told_steps.specs.Firing.{FiresBehind}
use Rattle.told_steps.proofs.Firings.{fires_here, fires_around}
use Rattle.told_steps.proofs.firing.+fired_behind.Goals as goal

pub returns-then-behind-eq0 : goal.returns-then-behind-eq0
returns-then-behind-eq0 t c =
    along (λ (n : ℕ). FiresBehind (tree c.args.term.now) n c.args.taken c.args.ends c.in_ok-told.told) (flip c.if-behind-eq0.true)
    (fires_here (tree c.args.term.now) c.args.taken c.args.ends c.in_ok-placed.placed c.in_ok-step.step c.in_ok-told.told
    c.in_ok-placed.ensures c.in_ok-step.ensures c.in_ok-told.ensures.leads c.in_ok-told.ensures.form)

pub returns : goal.returns
returns t c =
    let more : c.args.behind ≡ (c.args.behind - 1) + 1 = omega (arith, c.if-behind-eq0.false) in
    let copied : tree c.in_ok-copy-2.field-0 ≡ tree c.in-App.a.value = c.in_ok-copy-2.ensures ∙ ap tree c.deref-2.ensures in
    along (λ (x : Tree). FiresBehind x c.args.behind c.args.taken c.args.ends c.in_ok-told-2.told) (flip (ap tree c.in-App.is))
    (fires_around (tree c.in-App.f.value) (tree c.in-App.a.value) (c.args.behind - 1) c.args.behind c.args.taken c.args.ends c.in_ok-function.function c.unmoved-argument.result c.in_ok-told-2.told more
    (along (λ (x : Term). FiresBehind (tree x) (c.args.behind - 1) c.args.taken c.args.ends c.in_ok-function.function) c.deref.ensures c.in_ok-function.ensures)
    (c.unmoved-argument.ensures.form ∙ copied) (along (λ (x : Tree). AlwaysLeadsTo x c.unmoved-argument.result) copied c.unmoved-argument.ensures.leads)
    c.in_ok-told-2.ensures.form c.in_ok-told-2.ensures.leads)
