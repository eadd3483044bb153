use Rattle.std.proofs.Common.{ap, sym as flip, subst as along}
use Rattle.dk_model.specs.Trees.{Tree, tree}
use Rattle.dk_model.specs.declared.term.Term.{Term}
use Rattle.told_steps.specs.Folding.{SpineLeads}
use Rattle.told_steps.proofs.Folding.{spine_on, spine_missing}
use Rattle.told_steps.proofs.fold.+told_spine.Goals as goal

pub returns-in_ok-told-in-Some : goal.returns-in_ok-told-in-Some
returns-in_ok-told-in-Some t c =
    along (λ (v : Tree). SpineLeads v c.args.ends c.in_ok-told-in-Some.told) (flip (ap tree c.in-App.is))
    (spine_on (tree c.in-App.f.value) (tree c.in-App.field-1.value) c.args.ends c.pop_back.new.self c.in-Some.argument c.in_ok-function-in-Some.function c.in_ok-told-in-Some.told
    c.in-Some.ensures.items
    (along (λ (x : Term). SpineLeads (tree x) c.pop_back.new.self c.in_ok-function-in-Some.function) c.deref.ensures c.in_ok-function-in-Some.ensures)
    c.in_ok-told-in-Some.ensures.form c.in_ok-told-in-Some.ensures.leads)

pub returns-in_ok-copy-in-None : goal.returns-in_ok-copy-in-None
returns-in_ok-copy-in-None t c =
    along (λ (v : Tree). SpineLeads v c.args.ends c.unmoved-in-None.result) (flip (ap tree c.in-App.is))
    (spine_missing (tree c.in-App.f.value) (tree c.in-App.field-1.value) c.args.ends c.unmoved-in-None.result c.in-None.ensures.cases.0)
