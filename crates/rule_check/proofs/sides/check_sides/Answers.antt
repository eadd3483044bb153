use Rattle.std.proofs.Common.{ap, map}
use Rattle.dk_model.specs.Signatures.{maybe_tree, plain_rule}
use Rattle.signature_log.specs.Versions.{entries_of}
use Rattle.infer_check.proofs.Moving.{fit_is}
use Rattle.rule_check.proofs.Founds.{found_kept}
use Rattle.rule_check.proofs.Terms.{sides_go_on}
use Rattle.rule_check.proofs.sides.check_sides.Goals as goal

pub check_terms-requires-clause-found : goal.check_terms-requires-clause-found
check_terms-requires-clause-found g c = found_kept c.args.r.now c.check_notes.new.r c.in_ok-check_notes.ensures.follows.keeps c.args.side.found c.requires.found

pub returns-clause-gives : goal.returns-clause-gives
returns-clause-gives g c = λ t. fit_is c.check_terms.result c.check_terms.new.left
    (sides_go_on (entries_of c.args.version.now) c.args.r.now c.check_notes.new.r c.in_ok-check_notes.ensures.follows.keeps (plain_rule c.args.rule.now) c.args.side c.requires.typ c.requires.found t
    (map maybe_tree c.as_slice.result.now) c.args.left.now c.check_notes.new.left (ap (map maybe_tree) c.as_slice.ensures) c.in_ok-check_notes.ensures.gives)
    c.check_terms.ensures.gives
