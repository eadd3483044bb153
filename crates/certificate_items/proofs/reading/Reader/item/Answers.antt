use Rattle.std.proofs.Common.{◌≡◌, Some, Err, ap, ◌∙◌}
use Rattle.certificate_lines.specs.declared.line.Line.TheVariants.{Reduction, Joining, Equation}
use Rattle.certificate_items.proofs.Firsts.{passed, reduction_missing, joining_missing, equation_missing, no_item}
use Rattle.certificate_items.proofs.reading.Reader.item.Goals as goal

pub returns-in_err-steps-in-Reduction-clause-none : goal.returns-in_err-steps-in-Reduction-clause-none
returns-in_err-steps-in-Reduction-clause-none c =
    let o : c.line.result ≡ Some (Reduction c.in-Reduction.count) = (c.in-Some.is ∙ ap Some c.in-Reduction.is) in
    λ e. reduction_missing c.in-Reduction.count c.line.result c.args.self.now.rest.now c.line.new.self.rest.now o (c.line.ensures.some, c.line.ensures.none)
    (c.in_err-steps-in-Reduction.ensures.none (ap Err (passed c.from_residual.result c.in_err-steps-in-Reduction.field-0.0 c.from_residual.ensures.1 e)))

pub returns-in_err-both-in-Joining-clause-none : goal.returns-in_err-both-in-Joining-clause-none
returns-in_err-both-in-Joining-clause-none c =
    let o : c.line.result ≡ Some (Joining c.in-Joining.first c.in-Joining.second) = (c.in-Some.is ∙ ap Some c.in-Joining.is) in
    λ e. joining_missing c.in-Joining.first c.in-Joining.second c.line.result c.args.self.now.rest.now c.line.new.self.rest.now o (c.line.ensures.some, c.line.ensures.none)
    (c.in_err-both-in-Joining.ensures.none
    (ap Err (passed c.from_residual-in_err-both-in-Joining.result c.in_err-both-in-Joining.field-0.0 c.from_residual-in_err-both-in-Joining.ensures.1 e)))

pub returns-in_err-both-in-Equation-clause-none : goal.returns-in_err-both-in-Equation-clause-none
returns-in_err-both-in-Equation-clause-none c =
    let o : c.line.result ≡ Some (Equation c.in-Equation.first c.in-Equation.second c.in-Equation.word) =
    (c.in-Some.is ∙ ap Some c.in-Equation.is) in
    λ e. equation_missing c.in-Equation.first c.in-Equation.second c.in-Equation.word c.line.result c.args.self.now.rest.now c.line.new.self.rest.now o
    (c.line.ensures.some, c.line.ensures.none)
    (c.in_err-both-in-Equation.ensures.none
    (ap Err (passed c.from_residual-in_err-both-in-Equation.result c.in_err-both-in-Equation.field-0.0 c.from_residual-in_err-both-in-Equation.ensures.1 e)))

pub returns-in_default-clause-none : goal.returns-in_default-clause-none
returns-in_default-clause-none c = λ e. no_item c.line.result c.args.self.now.rest.now c.line.new.self.rest.now (c.line.ensures.some, c.line.ensures.none)
    (λ n q. c.in_default.not-Some (Reduction n) q) (λ n m q. c.in_default.not-Some (Joining n m) q) (λ n m w q. c.in_default.not-Some (Equation n m w) q)
