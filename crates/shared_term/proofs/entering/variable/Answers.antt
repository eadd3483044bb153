-- At a variable that others may take the place of.
use Rattle.std.proofs.Common.{◌∙◌, ◌-◌, sym, arith}
use Rattle.std.proofs.lemmas.Bool.Decides.{nat_tests}
use Rattle.shared_term.proofs.Together.{none_missing}
use Rattle.shared_term.proofs.Arguments.{all_found, all_placed}
use Rattle.shared_term.proofs.entering.variable.Goals as goal

pub overflow_sub-k-in-None : goal.overflow_sub-k-in-None
overflow_sub-k-in-None c =
    let h = none_missing c.args.given.now.terms.now (c.args.k - c.args.goal.depth) (sym c.from_last.ensures ∙ c.in-None.is) in
    omega (arith, h)

pub returns-in-Some-clause-enters : goal.returns-in-Some-clause-enters
returns-in-Some-clause-enters c =
    all_found c.args.nodes.now c.args.given.now c.args.goal c.args.k c.in-Some.by c.in-SubstituteAll.is c.requires.asked c.requires.is (grind (arith, nat_tests))
    (sym c.from_last.ensures ∙ c.in-Some.is)

pub returns-in-None-clause-enters : goal.returns-in-None-clause-enters
returns-in-None-clause-enters c =
    all_placed c.placed-in-None.new.nodes c.args.given.now c.args.goal c.args.k c.placed-in-None.result c.in-SubstituteAll.is
    (c.placed-in-None.ensures.keeps.keeps c.args.goal.id.0 c.requires.asked.0 ∙ c.requires.is) (grind (arith, nat_tests))
    (sym c.from_last.ensures ∙ c.in-None.is) c.placed-in-None.ensures.answer
