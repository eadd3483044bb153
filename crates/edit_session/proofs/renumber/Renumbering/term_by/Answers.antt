-- One more node, whose parts stand before it.
use Rattle.std.proofs.Common.{◌≡◌, ◌∙◌, ℕ, get_or, refl, ap, sym, subst, arith}
use Rattle.dk_model.specs.Trees.{star}
use Rattle.prune_theory.specs.Renamed.{with_symbols}
use Rattle.shared_term.specs.Pools.{IsWithin, denoted, terms}
use Rattle.edit_session.specs.Answers.{renumbered}
use Rattle.edit_session.specs.Renumbering.{renumbered_node}
use Rattle.edit_session.proofs.Nodes.{node_denotes, node_within, renumbered_more}
use Rattle.edit_session.proofs.renumber.Renumbering.term_by.Goals as goal

pub intern-requires : goal.intern-requires
intern-requires c =
    let ns = c.args.term.now.0 in
    let m = renumbered c.args.self.now.old.now c.args.self.now.new.now in
    let n = c.get-node.result in
    rw (c.node-moved.ensures, c.as_slice.ensures.value)
    (node_within m ns c.loop-at.pool c.loop-at.places.items c.loop-at.invariant.loaded n
    (subst (λ (k : ℕ). IsWithin k n) (sym c.loop-at.invariant.count) c.get-node.ensures.within))

pub loop-at-preserved : goal.loop-at-preserved
loop-at-preserved c =
    let ns = c.args.term.now.0 in
    let m = renumbered c.args.self.now.old.now c.args.self.now.new.now in
    let ps = c.loop-at.places.items in
    let old = c.loop-at.pool in
    let new = c.intern.new.self in
    let n = c.get-node.result in
    let w = subst (λ (k : ℕ). IsWithin k n) (sym c.loop-at.invariant.count) c.get-node.ensures.within in
    let it : c.node-moved.result ≡ renumbered_node m ps n = rw (c.node-moved.ensures, c.as_slice.ensures.value) refl in
    let e = c.in_ok-id.ensures.denotes ∙ ap (denoted (terms old)) it ∙ node_denotes m ns old ps c.loop-at.invariant.loaded n w
    ∙ ap (with_symbols m) (sym c.get-node.ensures.built ∙ ap (λ k. get_or (terms ns) k star) (sym c.loop-at.invariant.count)) in
    record {
      count = omega (arith, c.in_ok-push.ensures.len);
      loaded = rw c.in_ok-push.ensures.items (renumbered_more m ns old new ps c.in_ok-id.id c.loop-at.invariant.loaded c.intern.ensures.keeps c.in_ok-id.ensures.within e);
    }
