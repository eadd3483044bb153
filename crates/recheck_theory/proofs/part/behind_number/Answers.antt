use Rattle.std.proofs.Common.{refl}
use Rattle.certificate_lines.specs.declared.line.Line.TheVariants.{Part}
use Rattle.recheck_theory.proofs.Lines.{another_part}
use Rattle.recheck_theory.proofs.part.behind_number.Goals as goal

pub returns-in_err-line-clause-none : goal.returns-in_err-line-clause-none
returns-in_err-line-clause-none c = λ _. c.in_err-line.ensures.none refl (Part c.args.number)

pub returns-else-found-number-clause-none : goal.returns-else-found-number-clause-none
returns-else-found-number-clause-none c = λ _. another_part c.in_ok-line.line c.in-Part.found c.args.number c.args.bytes.now c.in_ok-line.rest.now
    c.in_ok-line.ensures.some c.in-Part.is c.if-found-number.false
