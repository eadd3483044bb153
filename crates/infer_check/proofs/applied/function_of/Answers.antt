-- The parts of a product, opened or found.
use Rattle.std.proofs.Common.{rules, ◌∙◌, ◌-◌, ap, sym as flip, subst, map, arith}
use Rattle.std.proofs.lemmas.Bool.Decides.{nat_tests}
use Rattle.dk_model.specs.Typing.{as_product}
use Rattle.dk_model.specs.declared.code.Code.TheVariants.{E20}
use Rattle.shared_term.specs.Changes.{substitute_all}
use Rattle.signature_log.specs.Versions.{entries_of}
use Rattle.signature_log.specs.Reducers.{AreOwned, OwnsParts, built}
use Rattle.signature_log.proofs.Keeping.{keeps_further}
use Rattle.infer_check.proofs.Contexts.{owned_kept}
use Rattle.infer_check.proofs.Judging.{fails_is}
use Rattle.infer_check.proofs.Putting.{function_given, whole_given, found_given, none_owned}
use Rattle.infer_check.proofs.applied.function_of.Goals as goal

pub put_into-requires-clause-arguments : goal.put_into-requires-clause-arguments
put_into-requires-clause-arguments g c =
    subst (AreOwned g.R.Reducer.owns c.open.new.self) (flip c.as_slice.ensures.value)
    (owned_kept c.args.r.now c.open.new.self c.args.applied.arguments.items c.in_ok-other.ensures.keeps c.requires.own.arguments)

pub put_into-requires-in_default : goal.put_into-requires-in_default
put_into-requires-in_default g c =
    let k = keeps_further c.args.r.now c.open.new.self c.build.new.self c.in_ok-other.ensures.keeps c.in_ok-typ-in_default.ensures.keeps in
    record {
      typ = c.in_ok-typ-in_default.ensures.makes.1;
      arguments = subst (AreOwned g.R.Reducer.owns c.build.new.self) (flip c.as_slice-in_default.ensures.value)
          (owned_kept c.args.r.now c.build.new.self c.args.applied.arguments.items k c.requires.own.arguments);
    }

pub returns-in_ok-domain-in-Prod-clause-gives : goal.returns-in_ok-domain-in-Prod-clause-gives
returns-in_ok-domain-in-Prod-clause-gives g c =
    let D = g.R.Reducer.denotes in
    let o = c.open.new.self in
    let p = c.put_into.new.r in
    let h = c.in_ok-other.ensures.keeps in
    let k = c.in_ok-domain-in-Prod.ensures.keeps in
    let node = c.in_ok-other.ensures.node in
    let parts = subst (OwnsParts g.R.Reducer.owns o) c.in-Prod.is node.1 in
    let shown = node.0 ∙ ap (built D o) c.in-Prod.is in
    let made = c.in_ok-domain-in-Prod.ensures.makes in (
      function_given g.R.Reducer.owns D (entries_of c.args.version.now) c.args.r.now o p c.args.applied.typ c.in-Prod.domain c.in-Prod.codomain c.in_ok-domain-in-Prod.domain
          c.args.applied.arguments.items c.args.left.now (c.args.left.now - 1) h k c.requires.own.arguments shown parts.1
          (made.0 ∙ ap (λ ts. substitute_all 0 (map (D o) ts) (D o c.in-Prod.domain)) c.as_slice.ensures.value) (grind (arith, nat_tests)),
      made.1,
      record {
        typ = k.own c.in-Prod.codomain parts.1;
        arguments = owned_kept o p c.args.applied.arguments.items k (owned_kept c.args.r.now o c.args.applied.arguments.items h c.requires.own.arguments);
      },
    )

pub returns-in_err-product-in_default : goal.returns-in_err-product-in_default
returns-in_err-product-in_default g c =
    let D = g.R.Reducer.denotes in
    let o = c.open.new.self in
    let b = c.build.new.self in
    let p = c.put_into-in_default.new.r in
    let h = c.in_ok-other.ensures.keeps in
    let k = keeps_further c.args.r.now o b h c.in_ok-typ-in_default.ensures.keeps in
    let l = keeps_further c.args.r.now b p k c.in_ok-whole-in_default.ensures.keeps in
    let w = whole_given g.R.Reducer.owns D c.args.r.now o b p c.args.applied c.in_ok-other.other c.in_ok-typ-in_default.typ c.in_ok-whole-in_default.whole c.as_slice-in_default.result.now
    k c.requires.own c.in_ok-other.ensures.node.0 c.in_ok-typ-in_default.ensures.makes.0 c.as_slice-in_default.ensures.value c.in_ok-whole-in_default.ensures.makes.0 in
    let gives = fails_is c.in_err-product-in_default.field-0.0 _ _ _ (ap (λ t. as_product (entries_of c.args.version.now) E20 t c.args.left.now) (flip w)) c.in_err-product-in_default.ensures.gives in
    record {
      gives = search rules;
      follows = record { keeps = keeps_further c.args.r.now p c.into_product.new.r l c.in_err-product-in_default.ensures.follows.keeps; serving = c.in_err-product-in_default.ensures.follows.serving };
      spent = c.in_err-product-in_default.ensures.spent;
    }

pub returns-in_ok-product-in_default : goal.returns-in_ok-product-in_default
returns-in_ok-product-in_default g c =
    let D = g.R.Reducer.denotes in
    let o = c.open.new.self in
    let b = c.build.new.self in
    let p = c.put_into-in_default.new.r in
    let q = c.into_product.new.r in
    let h = c.in_ok-other.ensures.keeps in
    let k = keeps_further c.args.r.now o b h c.in_ok-typ-in_default.ensures.keeps in
    let l = keeps_further c.args.r.now b p k c.in_ok-whole-in_default.ensures.keeps in
    let w = whole_given g.R.Reducer.owns D c.args.r.now o b p c.args.applied c.in_ok-other.other c.in_ok-typ-in_default.typ c.in_ok-whole-in_default.whole c.as_slice-in_default.result.now
    k c.requires.own c.in_ok-other.ensures.node.0 c.in_ok-typ-in_default.ensures.makes.0 c.as_slice-in_default.ensures.value c.in_ok-whole-in_default.ensures.makes.0 in
    let made = c.in_ok-product-in_default.ensures.gives in
    record {
      gives = (
        ap (λ t. as_product (entries_of c.args.version.now) E20 t c.args.left.now) (flip w) ∙ made.0
            ∙ found_given g.R.Reducer.owns D q c.in_ok-product-in_default.product.domain (record { typ = c.in_ok-product-in_default.product.codomain; arguments = c.new.result }) c.into_product.new.left c.new.ensures.items,
        made.1,
        none_owned g.R.Reducer.owns D q (record { typ = c.in_ok-product-in_default.product.codomain; arguments = c.new.result }) c.new.ensures.items made.2,
      );
      follows = record { keeps = keeps_further c.args.r.now p q l c.in_ok-product-in_default.ensures.follows.keeps; serving = c.in_ok-product-in_default.ensures.follows.serving };
      spent = c.in_ok-product-in_default.ensures.spent;
    }
