use Rattle.std.proofs.Common.{◌≡◌, ◌<◌, ◌≤◌, ◌∙◌, Some, ap, subst, sym as flip, length}
use Rattle.std.specs.Prelude.{get_or}
use Rattle.std.proofs.lemmas.Bool.{ltb-false}
use Rattle.rule_match.specs.declared.left.Source.{Source}
use Rattle.rule_match.specs.declared.left.Left.TheVariants.{Whole}
use Rattle.rule_match.specs.Remaining.{IsSource, IsLeftOf}
use Rattle.rule_match.proofs.Following.{no_whole}
use Rattle.rule_match.proofs.Walking.{whole_missing, whole_there, fresh_row}
use Rattle.rule_match.proofs.left.whole_row.Goals as goal

pub returns-in-Tree-clause-is : goal.returns-in-Tree-clause-is
returns-in-Tree-clause-is c = λ rules i j. absurd (no_whole rules c.args.source.now c.in-Tree.field-0 c.args.width c.in-Tree.is j)

pub returns-in-None-clause-is : goal.returns-in-None-clause-is
returns-in-None-clause-is c = λ rules i j.
    let l : length c.in-Sides.sides.items ≤ c.args.at = ltb-false c.args.at (length c.in-Sides.sides.items) (flip ((rw c.deref.ensures.value at c.in-None.ensures.lookup).0)) in
    flip (whole_missing rules c.in-Sides.sides.items c.args.width c.args.at (subst (λ (s : Source). IsSource rules s) c.in-Sides.is i) (subst (λ (s : Source). IsLeftOf rules s (Whole c.args.width)) c.in-Sides.is j) l)

pub returns-in_ok-walked_row-in-Some-clause-is : goal.returns-in_ok-walked_row-in-Some-clause-is
returns-in_ok-walked_row-in-Some-clause-is c = λ rules i j.
    let a = subst (λ (s : Source). IsSource rules s) c.in-Sides.is i in
    let f = subst (λ (s : Source). IsLeftOf rules s (Whole c.args.width)) c.in-Sides.is j in
    let l : c.args.at < length c.in-Sides.sides.items = (rw c.deref.ensures.value at c.in-Some.ensures.lookup).3.0 in
    let e : c.in-Some.side.now ≡ get_or c.in-Sides.sides.items c.args.at c.in-Some.side.now = (rw c.deref.ensures.value at c.in-Some.ensures.lookup).1 in
    ap (λ r. Some r) (fresh_row rules c.in-Sides.sides.items c.args.width c.args.at a f c.in-Some.side.now l e c.in_ok-walked_row-in-Some.field-0 c.in_ok-walked_row-in-Some.ensures.cells c.in_ok-walked_row-in-Some.ensures.at)
    ∙ flip (whole_there rules c.in-Sides.sides.items c.args.width c.args.at a f c.in-Some.side.now l e)
