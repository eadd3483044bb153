use Rattle.std.proofs.Common.{[], subst}
use Rattle.dk_model.specs.Bindings.{under}
use Rattle.signature_log.specs.Versions.{entries_of}
use Rattle.infer_check.proofs.Contexts.{context_kept}
use Rattle.rule_check.specs.Founds.{terms_of}
use Rattle.rule_check.specs.Clauses.{GivesProductOf}
use Rattle.rule_check.proofs.Founds.{bindings_kept}
use Rattle.rule_check.proofs.Moving.{product_of_moved}
use Rattle.rule_check.proofs.occurrence.first_type.Goals as goal

pub product_of-requires-clause-ready : goal.product_of-requires-clause-ready
product_of-requires-clause-ready g c = record {
  context = context_kept c.args.r.now c.copy_under.new.r c.args.walk.now.context c.in_ok-expected.ensures.keeps c.requires.ready.context;
  serving = c.in_ok-expected.ensures.serves (entries_of c.args.version.now) c.requires.ready.serving;
}

pub product_of-requires-clause-bindings : goal.product_of-requires-clause-bindings
product_of-requires-clause-bindings g c = bindings_kept c.args.r.now c.copy_under.new.r c.in_ok-expected.ensures.keeps c.args.first.bindings.now c.requires.bindings

pub returns-clause-gives : goal.returns-clause-gives
returns-clause-gives g c =
    let S = entries_of c.args.version.now in
    let D = g.R.Reducer.denotes in
    let r = c.args.r.now in
    let mid = c.copy_under.new.r in
    let x = c.args.walk.now.context in
    let b = c.args.first.bindings.now in
    let n = c.args.walk.now.left in
    product_of_moved S r mid x c.in_ok-expected.ensures.keeps c.requires.ready.context b c.requires.bindings c.product_of.new.r [] c.args.first.arguments.now (D mid c.in_ok-expected.expected) (under (terms_of D r b) (D r c.args.expected.now))
    n c.product_of.new.walk.left c.product_of.result c.in_ok-expected.ensures.makes.0
    (subst (λ y. GivesProductOf g.R.Reducer.owns D S mid x b y c.args.first.arguments.now (D mid c.in_ok-expected.expected) n c.product_of.new.r c.product_of.result c.product_of.new.walk.left) c.new.ensures c.product_of.ensures.gives)
