-- The set of nodes took the node, or had it.
use Rattle.std.proofs.Common.{◌≡◌, List, length, sym, ◌∙◌, subst}
use Rattle.std.proofs.lemmas.Bool.{not-true}
use Rattle.shared_term.specs.Pools.{Node, IsWithin}
use Rattle.shared_term.proofs.Growth.{pool-insert, summaries-insert, extends-insert, term-insert}
use Rattle.shared_term.proofs.nodes.Nodes.intern.Goals as goal
use Rattle.shared_term.proofs.nodes.Nodes.intern.Goals.{then-new, else-new}

pub invariant_of-self-then-new : goal.invariant_of-self-then-new
invariant_of-self-then-new c =
    let P = λ (ns : List Node). IsWithin (length ns) c.args.node in
    let w = subst P (sym c.self.view_is) c.requires in
    let lacking = not-true _ (sym c.in_ok-place.ensures.added ∙ c.if-new.true) in (
      rw c.in_ok-place.ensures.keys (pool-insert _ (λ m n. c.exact.ensures.exact m n) (λ n. c.exact.ensures.alike n) c.self.inside.nodes.keys c.args.node c.self.invariant.0 w),
      rw (c.in_ok-place.ensures.keys, c.push_reserved.ensures.items, c.summary_of-summary.ensures, c.as_slice.ensures.value, c.reserve.ensures.items)
          (summaries-insert _ (λ m n. c.exact.ensures.exact m n) (λ n. c.exact.ensures.alike n) c.self.inside.nodes.keys c.self.inside.summaries.items c.args.node lacking c.self.invariant.1 w),
    )

pub returns-clause-denotes : goal.returns-clause-denotes
returns-clause-denotes c =
    let P = λ (ns : List Node). IsWithin (length ns) c.args.node in
    let w = subst P (sym c.self.view_is) c.requires in
    let stored = c.in_ok-place.ensures.stored in
    let whole : c.if-new.self ≡ c.insert_full.new.self.keys = elim c.if-new.branch [ then-new w ↦ w.self-is | else-new w ↦ w.self-is ] in
    let at-place = term-insert _ (λ m n. c.exact.ensures.exact m n) (λ n. c.exact.ensures.alike n) c.self.inside.nodes.keys c.args.node c.in_ok-place.place stored.0 c.self.invariant.0 w (rw c.in_ok-place.ensures.keys at stored.1) stored.2 in
    rw (whole, c.in_ok-place.ensures.keys, ← c.self.view_is) at-place

pub returns-clause-keeps : goal.returns-clause-keeps
returns-clause-keeps c =
    let whole : c.if-new.self ≡ c.insert_full.new.self.keys = elim c.if-new.branch [ then-new w ↦ w.self-is | else-new w ↦ w.self-is ] in
    let grown = extends-insert _ (λ m n. c.exact.ensures.exact m n) (λ n. c.exact.ensures.alike n) c.self.inside.nodes.keys c.args.node in
    rw (whole, c.in_ok-place.ensures.keys, ← c.self.view_is) grown
