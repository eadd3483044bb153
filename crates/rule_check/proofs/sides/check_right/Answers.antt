use Rattle.std.proofs.Common.{◌∙◌, ap, sym as flip}
use Rattle.dk_model.specs.Bindings.{under}
use Rattle.signature_log.specs.Versions.{entries_of}
use Rattle.signature_log.proofs.Keeping.{keeps_further}
use Rattle.infer_check.proofs.Contexts.{owned_kept, types_kept}
use Rattle.infer_check.proofs.Moving.{checked_same, fit_is}
use Rattle.rule_check.specs.Founds.{terms_of}
use Rattle.rule_check.proofs.Founds.{bindings_kept, terms_kept}
use Rattle.rule_check.proofs.Moving.{none_bound, none_owned}
use Rattle.rule_check.proofs.sides.check_right.Goals as goal

pub copy_under-requires-clause-bindings : goal.copy_under-requires-clause-bindings
copy_under-requires-clause-bindings g c = bindings_kept c.args.r.now c.right_under.new.r c.in_ok-right.ensures.keeps c.args.ends.side.now.found.bindings c.requires.found.bindings

pub check-fits-requires-clause-ready : goal.check-fits-requires-clause-ready
check-fits-requires-clause-ready g c = let k = keeps_further c.args.r.now c.right_under.new.r c.copy_under.new.r c.in_ok-right.ensures.keeps c.in_ok-typ.ensures.keeps in record {
  context = record {
    rule_vars = owned_kept c.args.r.now c.copy_under.new.r c.args.types k c.requires.types;
    bound = none_owned g.R.Reducer.owns c.copy_under.new.r c.new.result c.new.ensures;
  };
  serving = c.in_ok-typ.ensures.serves (entries_of c.args.version.now) (c.in_ok-right.ensures.serves (entries_of c.args.version.now) c.requires.serves);
}

pub returns-clause-gives : goal.returns-clause-gives
returns-clause-gives g c =
    let D = g.R.Reducer.denotes in
    let r = c.args.r.now in
    let one = c.right_under.new.r in
    let two = c.copy_under.new.r in
    let b = c.args.ends.side.now.found.bindings in
    let typ = c.args.ends.side.now.typ in
    let j = c.in_ok-right.ensures.keeps in
    let l = c.in_ok-typ.ensures.keeps in
    let k = keeps_further r one two j l in
    fit_is c.check-fits.result c.check-fits.new.walk.left
    (flip (checked_same (entries_of c.args.version.now) c.args.left.now (types_kept r two c.args.types k c.requires.types) (none_bound D two c.new.result c.new.ensures)
    (l.same c.in_ok-right.right c.in_ok-right.ensures.makes.1 ∙ c.in_ok-right.ensures.makes.0)
    (c.in_ok-typ.ensures.makes.0 ∙ ap (λ s. under s (D one typ)) (terms_kept r one j b c.requires.found.bindings) ∙ ap (under (terms_of D r b)) (j.same typ c.requires.typ))))
    c.check-fits.ensures.gives
