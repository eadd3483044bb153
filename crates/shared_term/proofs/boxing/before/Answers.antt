-- A turn by the node at the place.
use Rattle.std.proofs.Common.{◌≡◌, ◌<◌, Option, subst, arith}
use Rattle.dk_model.specs.declared.NodeOf.TheVariants.{Abs}
use Rattle.shared_term.specs.declared.id.TermId.{TermId}
use Rattle.shared_term.specs.Pools.{IsWithin, term, terms, denoted}
use Rattle.shared_term.specs.declared.change.Pair.TheVariants.{Application, Abstraction, Product}
use Rattle.shared_term.proofs.Boxes.{parts_turn, body_turn}
use Rattle.shared_term.proofs.boxing.before.Goals as goal

pub returns-in_ok-push-in-App : goal.returns-in_ok-push-in-App
returns-in_ok-push-in-App c =
    let w = c.in-App.ensures.within in record {
      turns = rw c.in_ok-push-in-App.ensures.items
          (parts_turn c.args.nodes.now c.args.waiting.now.items c.args.id c.in-App.f c.in-App.a Application c.requires.there (omega (arith, w.0, c.requires.id)) (omega (arith, w.1, c.requires.id))
          c.in-App.ensures.denotes);
    }

pub returns-in_ok-push-in-Abs-None-default : goal.returns-in_ok-push-in-Abs-None-default
returns-in_ok-push-in-Abs-None-default c =
    let w : c.in-Abs-None-default.b.0 < c.args.id.0 = subst (λ (x : Option TermId). IsWithin c.args.id.0 (Abs x c.in-Abs-None-default.b)) c.in-Abs-None-default.field-0-is c.in-Abs-None-default.ensures.within in
    let e = subst (λ (x : Option TermId). term c.args.nodes.now c.args.id ≡ denoted (terms c.args.nodes.now) (Abs x c.in-Abs-None-default.b)) c.in-Abs-None-default.field-0-is c.in-Abs-None-default.ensures.denotes in record {
      turns = rw c.in_ok-push-in-Abs-None-default.ensures.items
          (body_turn c.args.nodes.now c.args.waiting.now.items c.args.id c.in-Abs-None-default.b c.requires.there (omega (arith, w, c.requires.id)) e);
    }

pub returns-in_ok-push-in-Abs-Some-default : goal.returns-in_ok-push-in-Abs-Some-default
returns-in_ok-push-in-Abs-Some-default c =
    let w = subst (λ (x : Option TermId). IsWithin c.args.id.0 (Abs x c.in-Abs-Some-default.b)) c.in-Abs-Some-default.field-0-is c.in-Abs-Some-default.ensures.within in
    let e = subst (λ (x : Option TermId). term c.args.nodes.now c.args.id ≡ denoted (terms c.args.nodes.now) (Abs x c.in-Abs-Some-default.b)) c.in-Abs-Some-default.field-0-is c.in-Abs-Some-default.ensures.denotes in record {
      turns = rw c.in_ok-push-in-Abs-Some-default.ensures.items
          (parts_turn c.args.nodes.now c.args.waiting.now.items c.args.id c.in-Abs-Some-default.n c.in-Abs-Some-default.b Abstraction c.requires.there (omega (arith, w.0, c.requires.id))
          (omega (arith, w.1, c.requires.id)) e);
    }

pub returns-in_ok-push-in-Prod : goal.returns-in_ok-push-in-Prod
returns-in_ok-push-in-Prod c =
    let w = c.in-Prod.ensures.within in record {
      turns = rw c.in_ok-push-in-Prod.ensures.items
          (parts_turn c.args.nodes.now c.args.waiting.now.items c.args.id c.in-Prod.a c.in-Prod.b Product c.requires.there (omega (arith, w.0, c.requires.id)) (omega (arith, w.1, c.requires.id))
          c.in-Prod.ensures.denotes);
    }
