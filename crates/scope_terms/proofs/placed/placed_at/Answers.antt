use Rattle.std.proofs.Common.{refl}
use Rattle.shared_term.specs.Made.{stack}
use Rattle.scope_terms.specs.Answers.{IsFaultOf}
use Rattle.scope_terms.specs.Binding.{binders}
use Rattle.scope_terms.specs.Meanings.{term_sense}
use Rattle.scope_terms.proofs.Stages.{handed_on}
use Rattle.scope_terms.proofs.Standing.{begins, comes}
use Rattle.scope_terms.proofs.placed.placed_at.Goals as goal

pub placed_from-requires-clause-ready : goal.placed_from-requires-clause-ready
placed_from-requires-clause-ready c =
    let bound = c.args.bound.now in
    let old = stack c.args.making.now in
    record { outside = binders bound; below = old; stands = begins c.args.scope.now c.args.raw.now (binders bound) old bound refl }

pub returns-in_err-placed_from-clause-refused : goal.returns-in_err-placed_from-clause-refused
returns-in_err-placed_from-clause-refused c =
    let scope = c.args.scope.now in
    let raw = c.args.raw.now in
    let bound = c.args.bound.now in
    let old = stack c.args.making.now in
    handed_on c.from_residual.result c.in_err-placed_from.field-0.0 (IsFaultOf (term_sense scope bound raw))
    (c.in_err-placed_from.ensures.refused (binders bound) old (begins scope raw (binders bound) old bound refl)) c.from_residual.ensures.1

pub returns-clause-ok : goal.returns-clause-ok
returns-clause-ok c =
    let scope = c.args.scope.now in
    let raw = c.args.raw.now in
    let bound = c.args.bound.now in
    let old = stack c.args.making.now in
    comes scope raw (binders bound) old c.in_ok-placed_from.field-0 bound (stack c.placed_from.new.making) c.in_ok-placed_from.ensures.at_end refl
    (c.in_ok-placed_from.ensures.ok (binders bound) old (begins scope raw (binders bound) old bound refl))
