-- The parts go onto the stack whatever is under way.
use Rattle.std.proofs.Common.{◌≡◌, ◌∙◌, Some, None, ap, arith, [], ◌∷◌}
use Rattle.dk_model.specs.Trees.{Tree}
use Rattle.dk_model.specs.Spines.{pairs_of}
use Rattle.shared_term.specs.Pools.{term, terms}
use Rattle.conversion.proofs.Comparing.{application_differs, way_deeper, way_differs, way_alike, way_bodies, way_products}
use Rattle.conversion.proofs.compare.parts.Goals as goal

pub loop-f-preserved : goal.loop-f-preserved
loop-f-preserved c = record {
  same = λ S due left h. rw c.in_ok-push-in-App-get.ensures.items (way_deeper S c.args.pool.now due left c.loop-f.work.items (term c.args.pool.now c.loop-f.t) (term c.args.pool.now c.loop-f.u)
      c.in-App.f c.in-App-get.g c.in-App.a c.in-App-get.b c.in-App.ensures.denoted c.in-App-get.ensures.denoted
      (omega (arith, c.in-App.ensures.within.1, c.loop-f.invariant.there)) (omega (arith, c.in-App-get.ensures.within.1, c.loop-f.invariant.other)) (c.loop-f.invariant.same S due left h));
  there = omega (arith, c.in-App.ensures.within.0, c.loop-f.invariant.there);
  other = omega (arith, c.in-App-get.ensures.within.0, c.loop-f.invariant.other);
}

pub returns-in_default-get : goal.returns-in_default-get
returns-in_default-get c = λ S due left h. way_differs S c.args.pool.now due left c.loop-f.work.items (term c.args.pool.now c.loop-f.t) (term c.args.pool.now c.loop-f.u)
    (ap (λ (y : Tree). pairs_of (term c.args.pool.now c.loop-f.t) y) c.get-in-App.ensures.denoted
    ∙ application_differs (terms c.args.pool.now) _ _ _ c.get-in-App.result c.in-App.ensures.denoted c.in_default-get.not-App) (c.loop-f.invariant.same S due left h)

pub returns-in-Differ : goal.returns-in-Differ
returns-in-Differ c =
    let e : pairs_of (term c.args.pool.now c.loop-f.t) (term c.args.pool.now c.loop-f.u) ≡ None =
    (let p = c.in-Differ.ensures.pairs in let q = c.get.ensures.denoted in let r = c.get-in_default.ensures.denoted in let s = c.in_default.head-is in cc) in
    λ S due left h. way_differs S c.args.pool.now due left c.loop-f.work.items (term c.args.pool.now c.loop-f.t) (term c.args.pool.now c.loop-f.u) e (c.loop-f.invariant.same S due left h)

pub returns-in-Alike : goal.returns-in-Alike
returns-in-Alike c =
    let e : pairs_of (term c.args.pool.now c.loop-f.t) (term c.args.pool.now c.loop-f.u) ≡ Some [] =
    (let p = c.in-Alike.ensures.pairs in let q = c.get.ensures.denoted in let r = c.get-in_default.ensures.denoted in let s = c.in_default.head-is in cc) in
    λ S due left h. way_alike S c.args.pool.now due left c.loop-f.work.items (term c.args.pool.now c.loop-f.t) (term c.args.pool.now c.loop-f.u) e (c.loop-f.invariant.same S due left h)

pub returns-in-Bodies : goal.returns-in-Bodies
returns-in-Bodies c =
    let e : pairs_of (term c.args.pool.now c.loop-f.t) (term c.args.pool.now c.loop-f.u) ≡ Some ((term c.args.pool.now c.in-Bodies.b, term c.args.pool.now c.in-Bodies.c) ∷ []) =
    (let p = c.in-Bodies.ensures.pairs in let q = c.get.ensures.denoted in let r = c.get-in_default.ensures.denoted in let s = c.in_default.head-is in cc) in
    λ S due left h. rw c.in_ok-push-in-Bodies.ensures.items (way_bodies S c.args.pool.now due left c.loop-f.work.items (term c.args.pool.now c.loop-f.t) (term c.args.pool.now c.loop-f.u)
    c.in-Bodies.b c.in-Bodies.c e c.in-Bodies.ensures.within.0 c.in-Bodies.ensures.within.1 (c.loop-f.invariant.same S due left h))

pub returns-in-Products : goal.returns-in-Products
returns-in-Products c =
    let e : pairs_of (term c.args.pool.now c.loop-f.t) (term c.args.pool.now c.loop-f.u)
    ≡ Some ((term c.args.pool.now c.in-Products.a, term c.args.pool.now c.in-Products.c) ∷ (term c.args.pool.now c.in-Products.b, term c.args.pool.now c.in-Products.d) ∷ []) =
    (let p = c.in-Products.ensures.pairs in let q = c.get.ensures.denoted in let r = c.get-in_default.ensures.denoted in let s = c.in_default.head-is in cc) in
    let w = c.in-Products.ensures.within in
    λ S due left h. rw (c.in_ok-push-in-Products-2.ensures.items, c.in_ok-push-in-Products.ensures.items)
    (way_products S c.args.pool.now due left c.loop-f.work.items (term c.args.pool.now c.loop-f.t) (term c.args.pool.now c.loop-f.u)
    c.in-Products.a c.in-Products.b c.in-Products.c c.in-Products.d e w.0 w.1 w.2 w.3 (c.loop-f.invariant.same S due left h))
