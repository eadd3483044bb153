-- The walk stands at its start, and after each turn.
use Rattle.std.proofs.Common.{List, subst, refl}
use Rattle.shared_term.specs.declared.change.Frame.{Frame}
use Rattle.shared_term.specs.declared.change.State.{State}
use Rattle.shared_term.specs.declared.change.State.TheVariants.{Up}
use Rattle.shared_term.specs.Changes.{wanted}
use Rattle.shared_term.specs.Walks.{Stands}
use Rattle.shared_term.proofs.Growth.{extends-same, extends-further}
use Rattle.shared_term.proofs.Remembering.{passing_blank, passing_grown, lasting_grown}
use Rattle.shared_term.proofs.Waiting.{waits_up}
use Rattle.shared_term.proofs.walk.walked.Goals as goal

pub loop-state-init : goal.loop-state-init
loop-state-init c = record {
  keeps = extends-same c.args.nodes.now;
  lasting = c.requires.lasting;
  passing = passing_blank c.args.nodes.now c.args.given.now c.clear.new.self c.clear.ensures;
  stands = rw c.clear-2.ensures.items (record { standing = c.requires.asked; waits = refl });
}

pub returns-in_err-state-in-Down-clause-lasting : goal.returns-in_err-state-in-Down-clause-lasting
returns-in_err-state-in-Down-clause-lasting c = lasting_grown _ _ _ c.down.ensures.keeps c.loop-state.invariant.lasting

pub up-requires-clause-waits : goal.up-requires-clause-waits
up-requires-clause-waits c =
    let ns = c.loop-state.nodes in
    let g = c.args.given.now in
    let root = wanted c.args.nodes.now g c.args.start in
    let P : State → Type 0 = λ s. Stands ns g root c.loop-state.frames.items s in
    let Q : List Frame → Type 0 = λ fs. Stands ns g root fs (Up c.in-Up.id) in
    waits_up ns g root c.pop.new.self.items c.in-Some.frame c.in-Up.id (subst Q c.in-Some.ensures.items (subst P c.in-Up.is c.loop-state.invariant.stands))

pub loop-state-preserved-in_ok-state-in-Down : goal.loop-state-preserved-in_ok-state-in-Down
loop-state-preserved-in_ok-state-in-Down c =
    let g = c.args.given.now in
    let root = wanted c.args.nodes.now g c.args.start in
    let e = c.down.ensures.keeps in
    let P : State → Type 0 = λ s. Stands c.loop-state.nodes g root c.loop-state.frames.items s in
    let t = c.in_ok-state-in-Down.ensures.turns root (subst P c.in-Down.is c.loop-state.invariant.stands) in
    record {
      keeps = extends-further _ _ _ c.loop-state.invariant.keeps e;
      lasting = lasting_grown _ _ _ e c.loop-state.invariant.lasting;
      passing = passing_grown _ _ g _ e c.loop-state.invariant.passing;
      stands = t.stands;
    }
