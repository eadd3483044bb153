-- By the node of the head.
use Rattle.std.proofs.Common.{◌≡◌, Option, ap, subst, arith}
use Rattle.dk_model.specs.declared.NodeOf.TheVariants.{Abs}
use Rattle.shared_term.specs.declared.id.TermId.{TermId}
use Rattle.shared_term.specs.Pools.{term, terms, denoted}
use Rattle.signature_log.specs.Versions.{entries_of}
use Rattle.conversion.specs.Machine.{is_stuck}
use Rattle.conversion.proofs.Resting.{head_further, stuck_rests, symbol_rests}
use Rattle.conversion.proofs.state.PoolReducer.rests.Goals as goal

pub loop-f-preserved : goal.loop-f-preserved
loop-f-preserved c = record {
  over = head_further (term c.args.self.now.pool c.loop-f.head) _ _ (term c.args.self.now.pool c.args.whole) c.in-App.ensures.denoted c.loop-f.invariant.over;
  there = omega (arith, c.in-App.ensures.within, c.loop-f.invariant.there);
}

pub returns-in-Sym : goal.returns-in-Sym
returns-in-Sym c = λ h. symbol_rests (entries_of c.args.version.now) c.args.self.now.pool c.args.whole c.requires.whole (term c.args.self.now.pool c.loop-f.head) c.in-Sym.k
    c.loop-f.invariant.over c.in-Sym.ensures.denoted (c.stands.ensures h)

pub returns-in-Star : goal.returns-in-Star
returns-in-Star c = λ _. stuck_rests (entries_of c.args.version.now) c.args.self.now.pool c.args.whole c.requires.whole (term c.args.self.now.pool c.loop-f.head)
    c.loop-f.invariant.over (ap is_stuck c.in-Star.ensures.denoted)

pub returns-in-Kind : goal.returns-in-Kind
returns-in-Kind c = λ _. stuck_rests (entries_of c.args.version.now) c.args.self.now.pool c.args.whole c.requires.whole (term c.args.self.now.pool c.loop-f.head)
    c.loop-f.invariant.over (ap is_stuck c.in-Kind.ensures.denoted)

pub returns-in-Var : goal.returns-in-Var
returns-in-Var c = λ _. stuck_rests (entries_of c.args.version.now) c.args.self.now.pool c.args.whole c.requires.whole (term c.args.self.now.pool c.loop-f.head)
    c.loop-f.invariant.over (ap is_stuck c.in-Var.ensures.denoted)

pub returns-in-Rvar : goal.returns-in-Rvar
returns-in-Rvar c = λ _. stuck_rests (entries_of c.args.version.now) c.args.self.now.pool c.args.whole c.requires.whole (term c.args.self.now.pool c.loop-f.head)
    c.loop-f.invariant.over (ap is_stuck c.in-Rvar.ensures.denoted)

pub returns-in-Abs-Some-default : goal.returns-in-Abs-Some-default
returns-in-Abs-Some-default c =
    let ns = c.args.self.now.pool in
    let e = subst (λ (x : Option TermId). term ns c.loop-f.head ≡ denoted (terms ns) (Abs x c.in-Abs-Some-default.field-1)) c.in-Abs-Some-default.field-0-is c.in-Abs-Some-default.ensures.denoted in
    λ _. stuck_rests (entries_of c.args.version.now) ns c.args.whole c.requires.whole (term ns c.loop-f.head) c.loop-f.invariant.over (ap is_stuck e)

pub returns-in-Prod : goal.returns-in-Prod
returns-in-Prod c = λ _. stuck_rests (entries_of c.args.version.now) c.args.self.now.pool c.args.whole c.requires.whole (term c.args.self.now.pool c.loop-f.head)
    c.loop-f.invariant.over (ap is_stuck c.in-Prod.ensures.denoted)
