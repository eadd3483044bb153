use Rattle.std.proofs.Common.{◌∙◌, sym as flip, refl}
use Rattle.signature_log.specs.Versions.{entries_of}
use Rattle.signature_log.proofs.Keeping.{keeps_further}
use Rattle.infer_check.proofs.Contexts.{context_kept}
use Rattle.infer_check.proofs.Moving.{fit_is, checked_same, rule_types_moved, bound_types_moved}
use Rattle.infer_check.proofs.Walks.{ready}
use Rattle.infer_check.proofs.checking.check.Goals as goal

pub check_taken-requires-clause-ready : goal.check_taken-requires-clause-ready
check_taken-requires-clause-ready g c =
    let S = entries_of c.args.version.now in
    let k = keeps_further c.args.r.now c.copy.new.self c.copy-2.new.self c.in_ok-term.ensures.keeps c.in_ok-expected.ensures.keeps in
    ready c.copy-2.new.self c.args.walk.now (context_kept c.args.r.now c.copy-2.new.self c.args.walk.now.context k c.requires.ready.context)
    (c.in_ok-expected.ensures.serves S (c.in_ok-term.ensures.serves S c.requires.ready.serving))

pub returns-clause-gives : goal.returns-clause-gives
returns-clause-gives g c =
    let r = c.args.r.now in
    let q = c.copy-2.new.self in
    let x = c.args.walk.now.context in
    let k = keeps_further r c.copy.new.self q c.in_ok-term.ensures.keeps c.in_ok-expected.ensures.keeps in
    let term = c.in_ok-expected.ensures.keeps.same c.in_ok-term.term c.in_ok-term.ensures.makes.1 ∙ c.in_ok-term.ensures.makes.0 in
    let typ = c.in_ok-expected.ensures.makes.0 ∙ c.in_ok-term.ensures.keeps.same c.args.expected.now c.requires.expected in
    fit_is c.check_taken.result c.check_taken.new.walk.left
    (flip (checked_same (entries_of c.args.version.now) c.args.walk.now.left (rule_types_moved r q k x x c.requires.ready.context refl) (bound_types_moved r q k x x c.requires.ready.context refl) term typ))
    c.check_taken.ensures.gives
