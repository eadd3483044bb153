-- A turn by each case of the topmost frame.
use Rattle.std.proofs.Common.{◌++◌, ◌∷◌, [], subst, arith}
use Rattle.shared_term.specs.declared.change.Frame.{Frame}
use Rattle.shared_term.specs.declared.change.Frame.TheVariants.{Second, Body}
use Rattle.shared_term.specs.declared.change.State.TheVariants.{Up}
use Rattle.shared_term.specs.Walks.{Stands}
use Rattle.shared_term.proofs.Waiting.{second_turn, made_turn}
use Rattle.shared_term.proofs.walk.up.Goals as goal

pub returns-in_ok-push-in-First-clause-turns : goal.returns-in_ok-push-in-First-clause-turns
returns-in_ok-push-in-First-clause-turns c = λ root s.
    let g = c.args.given.now in
    let fs = c.args.frames.now.items in
    let ns = c.args.nodes.now in
    let P : Frame → Type 0 = λ f. Stands ns g root (fs ++ f ∷ []) (Up c.args.id) in
    rw (c.in_ok-push-in-First.ensures.items, c.in-First.is)
    (second_turn ns g root fs c.in-First.goal c.in-First.pair c.in-First.second c.args.id c.in_ok-depth-in-First.depth c.in_ok-depth-in-First.ensures (subst P c.in-First.is s))

pub returns-in_ok-made-in-Second-clause-turns : goal.returns-in_ok-made-in-Second-clause-turns
returns-in_ok-made-in-Second-clause-turns c = λ root s.
    let g = c.args.given.now in
    let fs = c.args.frames.now.items in
    let ns = c.args.nodes.now in
    let P : Frame → Type 0 = λ f. Stands ns g root (fs ++ f ∷ []) (Up c.args.id) in
    rw c.in-Second.is
    (made_turn ns c.made.new.nodes g c.made.ensures.keeps root fs (Second c.in-Second.goal c.in-Second.pair c.in-Second.first) c.args.id c.in_ok-made-in-Second.made (omega arith)
    (subst P c.in-Second.is s) c.in_ok-made-in-Second.ensures.there c.in_ok-made-in-Second.ensures.is)

pub returns-in_ok-made-in-Body-clause-turns : goal.returns-in_ok-made-in-Body-clause-turns
returns-in_ok-made-in-Body-clause-turns c = λ root s.
    let g = c.args.given.now in
    let fs = c.args.frames.now.items in
    let ns = c.args.nodes.now in
    let P : Frame → Type 0 = λ f. Stands ns g root (fs ++ f ∷ []) (Up c.args.id) in
    rw c.in-Body.is
    (made_turn ns c.made-in-Body.new.nodes g c.made-in-Body.ensures.keeps root fs (Body c.in-Body.goal) c.args.id c.in_ok-made-in-Body.made (omega arith)
    (subst P c.in-Body.is s) c.in_ok-made-in-Body.ensures.there c.in_ok-made-in-Body.ensures.is)
