-- One more node.
use Rattle.std.proofs.Common.{◌++◌, ◌∷◌, [], ◌∙◌, List, take, ap, sym}
use Rattle.std.proofs.Math.Seq.{take-suc}
use Rattle.std.proofs.lemmas.Option.{slice_get_within, get_or_from_slice_get}
use Rattle.shared_term.specs.Pools.{Node}
use Rattle.shared_term.proofs.stored.Stored.unpacked.Goals as goal
use native.Mathlib.Numerals.{unary_clauses}

pub loop-at-preserved : goal.loop-at-preserved
loop-at-preserved c =
    let ns = c.args.self.now.0 in
    let i = c.loop-at.at in
    let n = c.get.result in
    let lt = slice_get_within ns i n c.get.ensures.node in
    c.in_ok-push.ensures.items ∙ ap (λ (ms : List Node). ms ++ n ∷ []) c.loop-at.invariant
    ∙ ap (λ (m : Node). take i ns ++ m ∷ []) (sym (get_or_from_slice_get ns i n n c.get.ensures.node)) ∙ sym (simp unary_clauses (take-suc ns i n lt))
