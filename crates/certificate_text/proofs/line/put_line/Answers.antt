use Rattle.certificate_lines.specs.declared.line.Line.TheVariants.{Joining, Equation, Rule}
use Rattle.certificate_text.proofs.Texts.{spelt, joining_text, equation_text, rule_text}
use Rattle.certificate_text.proofs.line.put_line.Goals as goal

pub returns-in-Joining-clause-put : goal.returns-in-Joining-clause-put
returns-in-Joining-clause-put g c = spelt c.args.line.now (Joining c.in-Joining.first c.in-Joining.second) (joining_text c.in-Joining.first c.in-Joining.second) c.in-Joining.is c.put_joining.ensures.put

pub returns-in-Equation-clause-put : goal.returns-in-Equation-clause-put
returns-in-Equation-clause-put g c = spelt c.args.line.now (Equation c.in-Equation.first c.in-Equation.second c.in-Equation.word)
    (equation_text c.in-Equation.first c.in-Equation.second c.in-Equation.word) c.in-Equation.is c.put_equation.ensures.put

pub returns-in-Rule-clause-put : goal.returns-in-Rule-clause-put
returns-in-Rule-clause-put g c = spelt c.args.line.now (Rule c.in-Rule.place c.in-Rule.number c.in-Rule.conditions)
    (rule_text c.in-Rule.place c.in-Rule.number c.in-Rule.conditions) c.in-Rule.is c.put_rule.ensures.put
