use Rattle.std.proofs.Common.{refl}
use Rattle.certificate_lines.specs.declared.line.Line.TheVariants.{First}
use Rattle.recheck_theory.proofs.Lines.{another_line}
use Rattle.recheck_theory.proofs.part.behind_first.Goals as goal

pub returns-in_err-line-clause-none : goal.returns-in_err-line-clause-none
returns-in_err-line-clause-none c = λ _. c.in_err-line.ensures.none refl First

pub returns-in_default-clause-none : goal.returns-in_default-clause-none
returns-in_default-clause-none c = λ _. another_line c.in_ok-line.line First c.args.bytes.now c.in_ok-line.rest.now c.in_ok-line.ensures.some c.in_default.not-First
