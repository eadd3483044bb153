-- One more node, whose parts stand before it.
use Rattle.std.proofs.Common.{◌≡◌, ◌∙◌, ℕ, get_or, refl, ap, sym, subst, arith}
use Rattle.dk_model.specs.Trees.{star}
use Rattle.shared_term.specs.Pools.{IsWithin, denoted, terms}
use Rattle.shared_term.specs.Storage.{renamed}
use Rattle.shared_term.proofs.Growth.{extends-further}
use Rattle.shared_term.proofs.Places.{renamed_within, renamed_denotes, loaded_more}
use Rattle.shared_term.proofs.loading.loaded.Goals as goal

pub intern-requires : goal.intern-requires
intern-requires c =
    let n = c.get-node.result in
    rw (c.renamed.ensures, c.as_slice.ensures.value)
    (renamed_within c.args.stored.now.0 c.loop-at.pool c.loop-at.places.items c.loop-at.invariant.loaded n
    (subst (λ (k : ℕ). IsWithin k n) (sym c.loop-at.invariant.count) c.get-node.ensures.within))

pub loop-at-preserved : goal.loop-at-preserved
loop-at-preserved c =
    let ns = c.args.stored.now.0 in
    let ps = c.loop-at.places.items in
    let old = c.loop-at.pool in
    let new = c.intern.new.self in
    let n = c.get-node.result in
    let w = subst (λ (k : ℕ). IsWithin k n) (sym c.loop-at.invariant.count) c.get-node.ensures.within in
    let it : c.renamed.result ≡ renamed ps n = rw (c.renamed.ensures, c.as_slice.ensures.value) refl in
    let e = c.in_ok-id.ensures.denotes ∙ ap (denoted (terms old)) it ∙ renamed_denotes ns old ps c.loop-at.invariant.loaded n w
    ∙ sym c.get-node.ensures.built ∙ ap (λ k. get_or (terms ns) k star) (sym c.loop-at.invariant.count) in
    record {
      count = omega (arith, c.in_ok-push.ensures.len);
      loaded = rw c.in_ok-push.ensures.items (loaded_more ns old new ps c.in_ok-id.id c.loop-at.invariant.loaded c.intern.ensures.keeps c.in_ok-id.ensures.within e);
      keeps = extends-further _ _ _ c.loop-at.invariant.keeps c.intern.ensures.keeps;
    }
