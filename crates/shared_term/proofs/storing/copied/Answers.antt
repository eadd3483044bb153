-- The parts of what is marked are marked, and so have been copied.
use Rattle.std.proofs.Common.{◌≡◌, ◌∙◌, ℕ, get_or, ap, sym, subst, refl, rules, arith}
use Rattle.dk_model.specs.Trees.{star}
use Rattle.shared_term.specs.Pools.{IsWithin, denoted, terms}
use Rattle.shared_term.specs.Storage.{renamed}
use Rattle.shared_term.proofs.Places.{copied_within, copied_denotes, placed_more}
use Rattle.shared_term.proofs.storing.copied.Goals as goal

pub pushed-requires-clause-within : goal.pushed-requires-clause-within
pushed-requires-clause-within c =
    let node = c.get-node.result in
    let w = subst (λ (k : ℕ). IsWithin k node) (sym c.requires.count) c.get-node.ensures.within in
    let parts = c.requires.closed.parts c.args.at.0 node (search (rules, arith)) c.get-node.ensures.node c.requires.marked in
    rw (c.renamed.ensures, c.as_slice.ensures.value) (copied_within c.args.pool.now c.args.nodes.now.items c.args.marks.now c.args.places.now.items c.requires.placed node w parts)

pub returns-clause-placed : goal.returns-clause-placed
returns-clause-placed c =
    let node = c.get-node.result in
    let ps = c.args.places.now.items in
    let out = c.args.nodes.now.items in
    let w = subst (λ (k : ℕ). IsWithin k node) (sym c.requires.count) c.get-node.ensures.within in
    let parts = c.requires.closed.parts c.args.at.0 node (search (rules, arith)) c.get-node.ensures.node c.requires.marked in
    let it : c.renamed.result ≡ renamed ps node = rw (c.renamed.ensures, c.as_slice.ensures.value) refl in
    let e = c.in_ok-place.ensures.is ∙ ap (denoted (terms out)) it ∙ copied_denotes c.args.pool.now out c.args.marks.now ps c.requires.placed node w parts
    ∙ sym c.get-node.ensures.denoted ∙ ap (λ k. get_or (terms c.args.pool.now) k star) (sym c.requires.count) in
    rw c.in_ok-push.ensures.items (placed_more c.args.pool.now out c.pushed.new.nodes.items c.args.marks.now ps c.in_ok-place.place c.requires.placed c.in_ok-place.ensures.keeps
    (λ m. (c.in_ok-place.ensures.there, e)))
