-- A turn by what the term is.
use Rattle.std.proofs.Common.{◌≡◌, ◌∙◌, Bool, ap, sym, rules}
use Rattle.dk_model.specs.declared.term.Term.{Term}
use Rattle.dk_model.specs.Trees.{Tree, tree, tree_abstraction, apply, bare, annotated, product}
use Rattle.dk_model.specs.declared.term.Term.{back-Term-Abs-0}
use Rattle.shared_term.specs.declared.change.Pair.TheVariants.{Application, Abstraction, Product}
use Rattle.shared_term.proofs.Spelt.{spelt_star, spelt_kind, spelt_symbol, spelt_variable, spelt_rule_variable, spelt_apply, spelt_bare, spelt_product, spelt_annotated, spelt_without, leaf_turn, parts_turn, body_turn}
use Rattle.shared_term.specs.Spelling.{spelt_tree}
use Rattle.shared_term.proofs.spelling.before.Goals as goal

abbrev boxed_term : Bool → Term → Tree
boxed_term z t = spelt_tree z (tree t)

pub returns-in_ok-shared-in-Star : goal.returns-in_ok-shared-in-Star
returns-in_ok-shared-in-Star c =
    let r = c.in_ok-shared-in-Star in record {
      turns = leaf_turn c.args.erases c.args.nodes.now.items c.shared.new.nodes.items r.ensures.keeps r.ensures.spelt c.args.waiting.now.items c.args.it r.field-0 c.requires.there r.ensures.there
          (r.ensures.is ∙ sym (spelt_star c.args.erases) ∙ ap (boxed_term c.args.erases) (sym c.in-Star.is));
    }

pub returns-in_ok-shared-in-Kind : goal.returns-in_ok-shared-in-Kind
returns-in_ok-shared-in-Kind c =
    let r = c.in_ok-shared-in-Kind in record {
      turns = leaf_turn c.args.erases c.args.nodes.now.items c.shared-in-Kind.new.nodes.items r.ensures.keeps r.ensures.spelt c.args.waiting.now.items c.args.it r.field-0 c.requires.there r.ensures.there
          (r.ensures.is ∙ sym (spelt_kind c.args.erases) ∙ ap (boxed_term c.args.erases) (sym c.in-Kind.is));
    }

pub returns-in_ok-shared-in-Sym : goal.returns-in_ok-shared-in-Sym
returns-in_ok-shared-in-Sym c =
    let r = c.in_ok-shared-in-Sym in record {
      turns = leaf_turn c.args.erases c.args.nodes.now.items c.shared-in-Sym.new.nodes.items r.ensures.keeps r.ensures.spelt c.args.waiting.now.items c.args.it r.field-0 c.requires.there r.ensures.there
          (r.ensures.is ∙ sym (spelt_symbol c.args.erases _) ∙ ap (boxed_term c.args.erases) (sym c.in-Sym.is));
    }

pub returns-in_ok-shared-in-Var : goal.returns-in_ok-shared-in-Var
returns-in_ok-shared-in-Var c =
    let r = c.in_ok-shared-in-Var in record {
      turns = leaf_turn c.args.erases c.args.nodes.now.items c.shared-in-Var.new.nodes.items r.ensures.keeps r.ensures.spelt c.args.waiting.now.items c.args.it r.field-0 c.requires.there r.ensures.there
          (r.ensures.is ∙ sym (spelt_variable c.args.erases _) ∙ ap (boxed_term c.args.erases) (sym c.in-Var.is));
    }

pub returns-in_ok-shared-in-Rvar : goal.returns-in_ok-shared-in-Rvar
returns-in_ok-shared-in-Rvar c =
    let r = c.in_ok-shared-in-Rvar in record {
      turns = leaf_turn c.args.erases c.args.nodes.now.items c.shared-in-Rvar.new.nodes.items r.ensures.keeps r.ensures.spelt c.args.waiting.now.items c.args.it r.field-0 c.requires.there r.ensures.there
          (r.ensures.is ∙ sym (spelt_rule_variable c.args.erases _) ∙ ap (boxed_term c.args.erases) (sym c.in-Rvar.is));
    }

pub returns-in_ok-push-in-App : goal.returns-in_ok-push-in-App
returns-in_ok-push-in-App c =
    let x = c.deref.result in
    let y = c.deref-second.result in
    let e : tree c.args.it.now ≡ apply (tree x.now) (tree y.now) = search rules in record {
      turns = rw c.in_ok-push-in-App.ensures.items (parts_turn c.args.erases c.args.nodes.now.items c.requires.spelt c.args.waiting.now.items c.args.it x y Application c.requires.there (ap (spelt_tree c.args.erases) e ∙ spelt_apply c.args.erases (tree x.now) (tree y.now)));
    }

pub returns-in_ok-push-in-None : goal.returns-in_ok-push-in-None
returns-in_ok-push-in-None c =
    let x = c.deref-in-None.result in
    let b = c.in-Abs.b.value in
    let d : x.now ≡ b = search rules in
    let e : tree c.args.it.now ≡ bare (tree x.now) =
    ap tree c.in-Abs.is ∙ ap (λ o. tree_abstraction (back-Term-Abs-0 o) (tree b)) c.in-None.is ∙ ap (λ t. bare (tree t)) (sym d) in record {
      turns = rw c.in_ok-push-in-None.ensures.items (body_turn c.args.erases c.args.nodes.now.items c.requires.spelt c.args.waiting.now.items c.args.it x c.requires.there (ap (spelt_tree c.args.erases) e ∙ spelt_bare c.args.erases (tree x.now)));
    }

pub returns-then-erases : goal.returns-then-erases
returns-then-erases c =
    let x = c.deref-then-erases.result in
    let n = c.in-Some.n.value in
    let b = c.in-Abs.b.value in
    let d : x.now ≡ b = search rules in
    let e : tree c.args.it.now ≡ annotated (tree n) (tree x.now) =
    ap tree c.in-Abs.is ∙ ap (λ o. tree_abstraction (back-Term-Abs-0 o) (tree b)) c.in-Some.is ∙ (λ i. annotated (tree n) (tree (sym d i))) in record {
      turns = rw c.in_ok-push-in-Some.ensures.items (body_turn c.args.erases c.args.nodes.now.items c.requires.spelt c.args.waiting.now.items c.args.it x c.requires.there
          (ap (spelt_tree c.args.erases) e ∙ spelt_without c.args.erases (tree n) (tree x.now) c.if-erases.true));
    }

pub returns-in_ok-push-in-Some-2 : goal.returns-in_ok-push-in-Some-2
returns-in_ok-push-in-Some-2 c =
    let x = c.deref-in-Some.result in
    let y = c.deref-second-in-Some.result in
    let n = c.in-Some.n.value in
    let b = c.in-Abs.b.value in
    let d : x.now ≡ n = search rules in
    let f : y.now ≡ b = search rules in
    let e : tree c.args.it.now ≡ annotated (tree x.now) (tree y.now) =
    ap tree c.in-Abs.is ∙ ap (λ o. tree_abstraction (back-Term-Abs-0 o) (tree b)) c.in-Some.is ∙ (λ i. annotated (tree (sym d i)) (tree (sym f i))) in record {
      turns = rw c.in_ok-push-in-Some-2.ensures.items (parts_turn c.args.erases c.args.nodes.now.items c.requires.spelt c.args.waiting.now.items c.args.it x y Abstraction c.requires.there (ap (spelt_tree c.args.erases) e ∙ spelt_annotated c.args.erases (tree x.now) (tree y.now) c.if-erases.false));
    }

pub returns-in_ok-push-in-Prod : goal.returns-in_ok-push-in-Prod
returns-in_ok-push-in-Prod c =
    let x = c.deref-in-Prod.result in
    let y = c.deref-second-in-Prod.result in
    let e : tree c.args.it.now ≡ product (tree x.now) (tree y.now) = search rules in record {
      turns = rw c.in_ok-push-in-Prod.ensures.items (parts_turn c.args.erases c.args.nodes.now.items c.requires.spelt c.args.waiting.now.items c.args.it x y Product c.requires.there (ap (spelt_tree c.args.erases) e ∙ spelt_product c.args.erases (tree x.now) (tree y.now)));
    }
