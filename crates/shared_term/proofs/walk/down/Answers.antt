-- A turn by each case of the step, in the pool as it then is.
use Rattle.std.proofs.Common.{subst}
use Rattle.shared_term.specs.declared.entering.Step.{Step}
use Rattle.shared_term.specs.Walks.{IsStep}
use Rattle.shared_term.proofs.Waiting.{stands_grown, turn_from, answer_turn, instead_turn, inside_turn, parts_turn}
use Rattle.shared_term.proofs.walk.down.Goals as goal

pub returns-in-Answer-clause-turns : goal.returns-in-Answer-clause-turns
returns-in-Answer-clause-turns c = λ root s.
    let g = c.args.given.now in
    let e = c.entered.ensures.keeps in
    let step = subst (λ (x : Step). IsStep c.entered.new.nodes g c.args.goal x) c.in-Answer.is c.in_ok-id.ensures.enters in
    turn_from _ _ g e root _ _ c.args.goal _ s (answer_turn _ g root _ c.args.goal c.in-Answer.id step (stands_grown _ _ g e root _ c.args.goal s))

pub returns-in-Instead-clause-turns : goal.returns-in-Instead-clause-turns
returns-in-Instead-clause-turns c = λ root s.
    let g = c.args.given.now in
    let e = c.entered.ensures.keeps in
    let step = subst (λ (x : Step). IsStep c.entered.new.nodes g c.args.goal x) c.in-Instead.is c.in_ok-id.ensures.enters in
    turn_from _ _ g e root _ _ c.args.goal _ s (instead_turn _ g root _ c.args.goal c.in-Instead.other step (stands_grown _ _ g e root _ c.args.goal s))

pub returns-in_ok-push-in-Inside-clause-turns : goal.returns-in_ok-push-in-Inside-clause-turns
returns-in_ok-push-in-Inside-clause-turns c = λ root s.
    let g = c.args.given.now in
    let e = c.entered.ensures.keeps in
    let step = subst (λ (x : Step). IsStep c.entered.new.nodes g c.args.goal x) c.in-Inside.is c.in_ok-id.ensures.enters in
    rw c.in_ok-push-in-Inside.ensures.items
    (turn_from _ _ g e root _ _ c.args.goal _ s (inside_turn _ g root _ c.args.goal c.in-Inside.body c.in_ok-depth-in-Inside.depth c.in_ok-depth-in-Inside.ensures step
    (stands_grown _ _ g e root _ c.args.goal s)))

pub returns-in_ok-push-in-Parts-clause-turns : goal.returns-in_ok-push-in-Parts-clause-turns
returns-in_ok-push-in-Parts-clause-turns c = λ root s.
    let g = c.args.given.now in
    let e = c.entered.ensures.keeps in
    let step = subst (λ (x : Step). IsStep c.entered.new.nodes g c.args.goal x) c.in-Parts.is c.in_ok-id.ensures.enters in
    rw c.in_ok-push-in-Parts.ensures.items
    (turn_from _ _ g e root _ _ c.args.goal _ s (parts_turn _ g root _ c.args.goal c.in-Parts.pair c.in-Parts.first c.in-Parts.second step
    (stands_grown _ _ g e root _ c.args.goal s)))
