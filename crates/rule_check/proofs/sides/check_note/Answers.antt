use Rattle.std.proofs.Common.{rules, ◌∙◌, ap, sym as flip}
use Rattle.dk_model.specs.Trees.{tree}
use Rattle.dk_model.specs.Erasure.{erased}
use Rattle.dk_model.specs.Bindings.{under}
use Rattle.dk_model.specs.Typing.{as_convertible}
use Rattle.dk_model.specs.declared.code.Code.TheVariants.{E34}
use Rattle.signature_log.specs.Versions.{entries_of}
use Rattle.infer_check.proofs.Moving.{fit_is}
use Rattle.rule_check.specs.Founds.{terms_of}
use Rattle.rule_check.proofs.Founds.{bindings_kept, terms_kept}
use Rattle.rule_check.proofs.sides.check_note.Goals as goal

pub copy_under-requires-clause-bindings : goal.copy_under-requires-clause-bindings
copy_under-requires-clause-bindings g c = bindings_kept c.args.r.now c.note_under.new.r c.in_ok-note-in-Some-Some.ensures.keeps c.args.noted.bindings.now c.requires.bindings

pub returns-in_ok-typ-in-Some-Some-clause-gives : goal.returns-in_ok-typ-in-Some-Some-clause-gives
returns-in_ok-typ-in-Some-Some-clause-gives g c =
    let S = entries_of c.args.version.now in
    let D = g.R.Reducer.denotes in
    let r = c.args.r.now in
    let mid = c.note_under.new.r in
    let two = c.copy_under.new.r in
    let b = c.args.noted.bindings.now in
    let s = terms_of D r b in
    let n = c.args.left.now in
    let k = c.in_ok-note-in-Some-Some.ensures.keeps in
    let l = c.in_ok-typ-in-Some-Some.ensures.keeps in
    let note = c.in_ok-note-in-Some-Some.ensures.makes in
    let typ = c.in_ok-typ-in-Some-Some.ensures.makes in
    let owned : g.R.Reducer.owns r c.in-Some-Some.typ = search rules in
    let first = l.same c.in_ok-note-in-Some-Some.note note.1 ∙ note.0 in
    let second = typ.0 ∙ ap (λ z. under z (D mid c.in-Some-Some.typ)) (terms_kept r mid k b c.requires.bindings) ∙ ap (under s) (k.same c.in-Some-Some.typ owned) in
    let p = fit_is c.as_convertible.result c.as_convertible.new.left
    (flip (ap (λ z. as_convertible S E34 z (D two c.in_ok-typ-in-Some-Some.typ) n) first ∙ ap (λ z. as_convertible S E34 (under s (erased (tree c.in-Some-Some.note))) z n) second)) c.as_convertible.ensures.gives in
    search rules
