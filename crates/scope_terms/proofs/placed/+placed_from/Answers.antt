use Rattle.std.proofs.Common.{rules, ◌<◌, ◌+◌, ◌-◌, ◌∷◌, List, length, ap, refl, subst, sym, ◌∙◌, arith}
use Rattle.dk_model.specs.declared.code.Code.TheVariants.{E12}
use Rattle.dk_model.specs.declared.code.Fault.TheVariants.{Refused}
use Rattle.std.specs.Prelude.{ℕ, drop, slice_get, take}
use Rattle.std.proofs.lemmas.Option.{slice_get_within}
use Rattle.dk_model.specs.Trees.{Tree, star}
use Rattle.dk_parser.specs.RawViews.{written}
use Rattle.dk_parser.specs.Written.{written_name, written_qualified, written_star, written_wild}
use Rattle.dk_terms.specs.Postfix.{spelling}
use Rattle.dk_terms.specs.declared.operation.RawOperation.TheVariants as operation
use Rattle.shared_term.specs.Made.{stack}
use Rattle.scope_terms.specs.Answers.{IsFaultOf}
use Rattle.scope_terms.specs.Binding.{binders}
use Rattle.scope_terms.specs.Meanings.{named_term, qualified_term}
use Rattle.scope_terms.specs.Placing.{Pushes}
use Rattle.scope_terms.specs.Scopes.{Binder}
use Rattle.scope_terms.specs.Standing.{IsReady, Stands, under_binders}
use Rattle.scope_terms.proofs.Stages.{handed_on}
use Rattle.scope_terms.proofs.Standing.{application_stands, application_there, atom_fault, atom_stands, not_past, scope_stands, there_is, ends_there, wrap_is, wrap_stands, wrap_there}
use Rattle.scope_terms.proofs.placed.+placed_from.Goals as goal

pub returns-in_err-name_placed-in-Name-clause-refused : goal.returns-in_err-name_placed-in-Name-clause-refused
returns-in_err-name_placed-in-Name-clause-refused t c =
    let scope = c.args.scope.now in
    let term = c.args.term.now in
    let bound = c.args.bound.now in
    let at = c.loop-operation.at in
    let old = stack c.loop-operation.making in
    let it = operation.Name c.in-Name.span in
    let found = c.in-Some.ensures.lookup in
    let there = there_is term.operations c.as_slice-operations.result.now at c.in-Some.operation.now it c.as_slice-operations.ensures found.3.0 found.1 c.in-Name.is in
    let e = c.in_err-name_placed-in-Name.field-0.0 in
    let fault = subst (λ (n : List ℕ). IsFaultOf (named_term scope bound n) e) c.spelling.ensures c.in_err-name_placed-in-Name.ensures.refused in
    handed_on c.from_residual.result e (λ f. (outside : List Binder) (below : List Tree) → Stands scope term outside below c.args.at bound (stack c.args.making.now) → IsFaultOf (under_binders scope outside (written term)) f)
    (λ o b s. atom_fault scope term o b at bound it (written_name (spelling term.letters c.in-Name.span)) old e there refl fault (c.loop-operation.invariant.stands o b s)) c.from_residual.ensures.1

pub loop-operation-preserved-in-Name : goal.loop-operation-preserved-in-Name
loop-operation-preserved-in-Name t c =
    let scope = c.args.scope.now in
    let term = c.args.term.now in
    let bound = c.args.bound.now in
    let at = c.loop-operation.at in
    let old = stack c.loop-operation.making in
    let new = stack c.name_placed.new.making in
    let it = operation.Name c.in-Name.span in
    let found = c.in-Some.ensures.lookup in
    let there = there_is term.operations c.as_slice-operations.result.now at c.in-Some.operation.now it c.as_slice-operations.ensures found.3.0 found.1 c.in-Name.is in
    let further = c.loop-operation.invariant.further in
    let pushed = subst (λ (n : List ℕ). Pushes (named_term scope bound n) old new) c.spelling.ensures c.in_ok-name_placed-in-Name.ensures.ok in
    record {
      further = omega (arith, further);
      stands = λ o b s. atom_stands scope term o b at bound it (written_name (spelling term.letters c.in-Name.span)) old new there refl pushed (c.loop-operation.invariant.stands o b s);
    }

pub returns-in_err-qualified_placed-in-Qualified-clause-refused : goal.returns-in_err-qualified_placed-in-Qualified-clause-refused
returns-in_err-qualified_placed-in-Qualified-clause-refused t c =
    let scope = c.args.scope.now in
    let term = c.args.term.now in
    let bound = c.args.bound.now in
    let at = c.loop-operation.at in
    let old = stack c.loop-operation.making in
    let it = operation.Qualified c.in-Qualified.span c.in-Qualified.count in
    let letters = spelling term.letters c.in-Qualified.span in
    let found = c.in-Some.ensures.lookup in
    let there = there_is term.operations c.as_slice-operations.result.now at c.in-Some.operation.now it c.as_slice-operations.ensures found.3.0 found.1 c.in-Qualified.is in
    let e = c.in_err-qualified_placed-in-Qualified.field-0.0 in
    let fault = subst (λ (n : List ℕ). IsFaultOf (qualified_term scope n c.qualified.result.1.now) e) c.qualified.ensures.module_name c.in_err-qualified_placed-in-Qualified.ensures.refused in
    let fault = subst (λ (n : List ℕ). IsFaultOf (qualified_term scope (take c.in-Qualified.count letters) n) e) c.qualified.ensures.name fault in
    handed_on c.from_residual-in_err-qualified_placed-in-Qualified.result e (λ f. (outside : List Binder) (below : List Tree) → Stands scope term outside below c.args.at bound (stack c.args.making.now) → IsFaultOf (under_binders scope outside (written term)) f)
    (λ o b s. atom_fault scope term o b at bound it (written_qualified (take c.in-Qualified.count letters) (drop c.in-Qualified.count letters)) old e there refl fault (c.loop-operation.invariant.stands o b s)) c.from_residual-in_err-qualified_placed-in-Qualified.ensures.1

pub loop-operation-preserved-in-Qualified : goal.loop-operation-preserved-in-Qualified
loop-operation-preserved-in-Qualified t c =
    let scope = c.args.scope.now in
    let term = c.args.term.now in
    let bound = c.args.bound.now in
    let at = c.loop-operation.at in
    let old = stack c.loop-operation.making in
    let new = stack c.qualified_placed.new.making in
    let it = operation.Qualified c.in-Qualified.span c.in-Qualified.count in
    let letters = spelling term.letters c.in-Qualified.span in
    let found = c.in-Some.ensures.lookup in
    let there = there_is term.operations c.as_slice-operations.result.now at c.in-Some.operation.now it c.as_slice-operations.ensures found.3.0 found.1 c.in-Qualified.is in
    let further = c.loop-operation.invariant.further in
    let pushed = subst (λ (n : List ℕ). Pushes (qualified_term scope n c.qualified.result.1.now) old new) c.qualified.ensures.module_name c.in_ok-qualified_placed-in-Qualified.ensures.ok in
    let pushed = subst (λ (n : List ℕ). Pushes (qualified_term scope (take c.in-Qualified.count letters) n) old new) c.qualified.ensures.name pushed in
    record {
      further = omega (arith, further);
      stands = λ o b s. atom_stands scope term o b at bound it (written_qualified (take c.in-Qualified.count letters) (drop c.in-Qualified.count letters)) old new there refl pushed (c.loop-operation.invariant.stands o b s);
    }

pub loop-operation-preserved-in-Star : goal.loop-operation-preserved-in-Star
loop-operation-preserved-in-Star t c =
    let scope = c.args.scope.now in
    let term = c.args.term.now in
    let bound = c.args.bound.now in
    let at = c.loop-operation.at in
    let old = stack c.loop-operation.making in
    let new = stack c.star.new.self in
    let found = c.in-Some.ensures.lookup in
    let there = there_is term.operations c.as_slice-operations.result.now at c.in-Some.operation.now operation.Star c.as_slice-operations.ensures found.3.0 found.1 c.in-Star.is in
    let further = c.loop-operation.invariant.further in
    record {
      further = omega (arith, further);
      stands = λ o b s. atom_stands scope term o b at bound operation.Star written_star old new there refl (record { term = star; is = refl; made = c.in_ok-star-in-Star.ensures }) (c.loop-operation.invariant.stands o b s);
    }

pub returns-in-Wild-clause-refused : goal.returns-in-Wild-clause-refused
returns-in-Wild-clause-refused t c =
    let term = c.args.term.now in
    let at = c.loop-operation.at in
    let found = c.in-Some.ensures.lookup in
    let there = there_is term.operations c.as_slice-operations.result.now at c.in-Some.operation.now operation.Wild c.as_slice-operations.ensures found.3.0 found.1 c.in-Wild.is in
    λ o b s. atom_fault c.args.scope.now term o b at c.args.bound.now operation.Wild written_wild (stack c.loop-operation.making) (Refused E12) there refl refl (c.loop-operation.invariant.stands o b s)

pub applied-requires : goal.applied-requires
applied-requires t c =
    let scope = c.args.scope.now in
    let term = c.args.term.now in
    let at = c.loop-operation.at in
    let found = c.in-Some.ensures.lookup in
    let there = there_is term.operations c.as_slice-operations.result.now at c.in-Some.operation.now operation.Apply c.as_slice-operations.ensures found.3.0 found.1 c.in-Apply.is in
    let ready = c.requires.ready in
    application_there scope term ready.outside ready.below at c.args.bound.now (stack c.loop-operation.making) there (c.loop-operation.invariant.stands ready.outside ready.below ready.stands)

pub loop-operation-preserved-in-Apply : goal.loop-operation-preserved-in-Apply
loop-operation-preserved-in-Apply t c =
    let scope = c.args.scope.now in
    let term = c.args.term.now in
    let at = c.loop-operation.at in
    let found = c.in-Some.ensures.lookup in
    let there = there_is term.operations c.as_slice-operations.result.now at c.in-Some.operation.now operation.Apply c.as_slice-operations.ensures found.3.0 found.1 c.in-Apply.is in
    let further = c.loop-operation.invariant.further in
    record {
      further = omega (arith, further);
      stands = λ o b s. application_stands scope term o b at c.args.bound.now (stack c.loop-operation.making) (stack c.applied.new.making) there c.in_ok-applied-in-Apply.ensures (c.loop-operation.invariant.stands o b s);
    }

pub placed_from-requires : goal.placed_from-requires
placed_from-requires t c =
    let scope = c.args.scope.now in
    let term = c.args.term.now in
    let at = c.loop-operation.at in
    let inner = c.in_ok-under-in-Begin.under in
    let old = stack c.loop-operation.making in
    let it = operation.Begin c.in-Begin.opening in
    let found = c.in-Some.ensures.lookup in
    let there = there_is term.operations c.as_slice-operations.result.now at c.in-Some.operation.now it c.as_slice-operations.ensures found.3.0 found.1 c.in-Begin.is in
    let within = slice_get_within term.operations at it there in
    let further = c.loop-operation.invariant.further in
    let is = c.in_ok-under-in-Begin.ensures.is ∙ ap (λ b. b ∷ binders c.args.bound.now) c.binder_of.ensures in
    let down : length term.operations - (at + 1) < length term.operations - c.args.at = omega (arith, within, further) in
    let begun = c.requires.ready in
    let ready : IsReady scope term (at + 1) inner old = record {
      outside = begun.outside;
      below = begun.below;
      stands = scope_stands scope term begun.outside begun.below at c.args.bound.now inner c.in-Begin.opening old there is (c.loop-operation.invariant.stands begun.outside begun.below begun.stands);
    } in
    (search rules, (c.in_ok-under-in-Begin.ensures.told, ready))

pub returns-in_err-at-in-Begin-clause-refused : goal.returns-in_err-at-in-Begin-clause-refused
returns-in_err-at-in-Begin-clause-refused t c =
    let scope = c.args.scope.now in
    let term = c.args.term.now in
    let at = c.loop-operation.at in
    let inner = c.in_ok-under-in-Begin.under in
    let old = stack c.loop-operation.making in
    let it = operation.Begin c.in-Begin.opening in
    let found = c.in-Some.ensures.lookup in
    let there = there_is term.operations c.as_slice-operations.result.now at c.in-Some.operation.now it c.as_slice-operations.ensures found.3.0 found.1 c.in-Begin.is in
    let is = c.in_ok-under-in-Begin.ensures.is ∙ ap (λ b. b ∷ binders c.args.bound.now) c.binder_of.ensures in
    let e = c.in_err-at-in-Begin.field-0.0 in
    handed_on c.from_residual-in_err-at-in-Begin.result e (λ f. (outside : List Binder) (below : List Tree) → Stands scope term outside below c.args.at c.args.bound.now (stack c.args.making.now) → IsFaultOf (under_binders scope outside (written term)) f)
    (λ o b s. c.in_err-at-in-Begin.ensures.refused o b (scope_stands scope term o b at c.args.bound.now inner c.in-Begin.opening old there is (c.loop-operation.invariant.stands o b s))) c.from_residual-in_err-at-in-Begin.ensures.1

pub unreachable-requires : goal.unreachable-requires
unreachable-requires t c =
    let scope = c.args.scope.now in
    let term = c.args.term.now in
    let at = c.loop-operation.at in
    let end = c.in_ok-at-in-Begin.at in
    let inner = c.in_ok-under-in-Begin.under in
    let old = stack c.loop-operation.making in
    let it = operation.Begin c.in-Begin.opening in
    let found = c.in-Some.ensures.lookup in
    let there = there_is term.operations c.as_slice-operations.result.now at c.in-Some.operation.now it c.as_slice-operations.ensures found.3.0 found.1 c.in-Begin.is in
    let is = c.in_ok-under-in-Begin.ensures.is ∙ ap (λ b. b ∷ binders c.args.bound.now) c.binder_of.ensures in
    let past = ends_there (slice_get term.operations end) c.in_ok-at-in-Begin.ensures.at_end (sym c.wrap_at.ensures ∙ c.in_default-wrap_at.is) in
    let begun = c.requires.ready in
    let before = c.loop-operation.invariant.stands begun.outside begun.below begun.stands in
    not_past scope term begun.outside begun.below at end c.args.bound.now inner c.in-Begin.opening old (stack c.placed_from.new.making) past is before
    (c.in_ok-at-in-Begin.ensures.ok begun.outside begun.below (scope_stands scope term begun.outside begun.below at c.args.bound.now inner c.in-Begin.opening old there is before))

pub wrapped-requires : goal.wrapped-requires
wrapped-requires t c =
    let scope = c.args.scope.now in
    let term = c.args.term.now in
    let at = c.loop-operation.at in
    let end = c.in_ok-at-in-Begin.at in
    let inner = c.in_ok-under-in-Begin.under in
    let old = stack c.loop-operation.making in
    let it = operation.Begin c.in-Begin.opening in
    let wrap = c.in-Some-wrap_at.wrap in
    let found = c.in-Some.ensures.lookup in
    let there = there_is term.operations c.as_slice-operations.result.now at c.in-Some.operation.now it c.as_slice-operations.ensures found.3.0 found.1 c.in-Begin.is in
    let is = c.in_ok-under-in-Begin.ensures.is ∙ ap (λ b. b ∷ binders c.args.bound.now) c.binder_of.ensures in
    let ends = wrap_is (slice_get term.operations end) wrap (sym c.wrap_at.ensures ∙ c.in-Some-wrap_at.is) in
    let begun = c.requires.ready in
    let before = c.loop-operation.invariant.stands begun.outside begun.below begun.stands in
    wrap_there scope term begun.outside begun.below end inner wrap (stack c.placed_from.new.making) ends
    (c.in_ok-at-in-Begin.ensures.ok begun.outside begun.below (scope_stands scope term begun.outside begun.below at c.args.bound.now inner c.in-Begin.opening old there is before))

pub loop-operation-preserved : goal.loop-operation-preserved
loop-operation-preserved t c =
    let scope = c.args.scope.now in
    let term = c.args.term.now in
    let at = c.loop-operation.at in
    let end = c.in_ok-at-in-Begin.at in
    let inner = c.in_ok-under-in-Begin.under in
    let old = stack c.loop-operation.making in
    let it = operation.Begin c.in-Begin.opening in
    let wrap = c.in-Some-wrap_at.wrap in
    let found = c.in-Some.ensures.lookup in
    let there = there_is term.operations c.as_slice-operations.result.now at c.in-Some.operation.now it c.as_slice-operations.ensures found.3.0 found.1 c.in-Begin.is in
    let is = c.in_ok-under-in-Begin.ensures.is ∙ ap (λ b. b ∷ binders c.args.bound.now) c.binder_of.ensures in
    let ends = wrap_is (slice_get term.operations end) wrap (sym c.wrap_at.ensures ∙ c.in-Some-wrap_at.is) in
    let further = c.loop-operation.invariant.further in
    let longer = c.in_ok-at-in-Begin.ensures.further in
    record {
      further = omega (arith, further, longer);
      stands = λ o b s.
          wrap_stands scope term o b end c.args.bound.now inner c.in-Begin.opening wrap (stack c.placed_from.new.making) (stack c.wrapped.new.making) ends is c.in_ok-wrapped-in-Begin.ensures
          (c.in_ok-at-in-Begin.ensures.ok o b (scope_stands scope term o b at c.args.bound.now inner c.in-Begin.opening old there is (c.loop-operation.invariant.stands o b s)));
    }
