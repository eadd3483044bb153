use Rattle.std.proofs.Common.{◌<◌, ◌++◌, ◌∷◌, [], List, subst, sym as flip, take, length, arith}
use Rattle.std.proofs.lemmas.List.{take_all}
use Rattle.rule_match.specs.declared.side.Side.{Side}
use Rattle.rule_match.specs.declared.walk.LeftSide.{LeftSide}
use Rattle.rule_match.specs.Sides.{AreCopies}
use Rattle.rule_match.proofs.Siding.{copy_pushed, sides_copied, take_next}
use Rattle.rule_match.proofs.side.sides_of.Goals as goal

pub loop-side-preserved : goal.loop-side-preserved
loop-side-preserved c =
    let lt : c.loop-side.side-index < length c.args.sides.now = omega (arith, c.loop-side-test.true) in
    subst (λ (l : List LeftSide). AreCopies l c.push.new.self.items) (flip (take_next c.args.sides.now c.loop-side.side-index c.side-item.result lt c.side-item.is))
    (subst (λ (l : List Side). AreCopies (take c.loop-side.side-index c.args.sides.now ++ c.side-item.result ∷ []) l) (flip c.in_ok-push.ensures.items)
    (copy_pushed (take c.loop-side.side-index c.args.sides.now) c.loop-side.copies.items c.side-item.result c.in_ok-side_of.field-0 c.loop-side.invariant c.in_ok-side_of.ensures))

pub returns : goal.returns
returns c = λ rules h.
    sides_copied rules c.args.sides.now c.loop-side.copies.items (subst (λ (l : List LeftSide). AreCopies l c.loop-side.copies.items) (take_all c.loop-side.side-index c.args.sides.now c.loop-side-test.false) c.loop-side.invariant) h
