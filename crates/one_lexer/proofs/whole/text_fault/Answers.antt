use Rattle.std.proofs.Common.{sym, subst, ◌∙◌, List, ℕ}
use Rattle.one_lexer.specs.Reading.{last_of}
use Rattle.one_lexer.proofs.Tells.{Told, all_fault, all_line, fault_fault, fault_line, told_new, told_token}
use Rattle.one_lexer.proofs.whole.text_fault.Goals as goal

pub loop-left-init : goal.loop-left-init
loop-left-init c = told_new c.args.limits c.args.text.now c.new-lexer.result (c.new-lexer.ensures.knows c.args.text.now) c.new-lexer.ensures.limits

pub loop-left-preserved : goal.loop-left-preserved
loop-left-preserved c =
    let t = c.loop-left.invariant in
    let takes = c.in-Token.ensures.takes c.args.text.now t.ts t.knows in
    subst (λ (x : List ℕ). Told c.args.limits c.args.text.now x c.finish.new.self) (sym c.split_at.ensures.back)
    (told_token c.args.limits c.args.text.now (last_of c.in-Token.left c.loop-left.rest.now) t.ts c.finish.new.self c.in-Token.field-0 takes (c.in-Token.ensures.limits ∙ t.limits_are))

pub returns-in-More-clause-fault : goal.returns-in-More-clause-fault
returns-in-More-clause-fault c =
    let t = c.loop-left.invariant in
    let takes = c.in-More.ensures.takes c.args.text.now t.ts t.knows in
    sym (all_fault c.args.limits c.finish.new.self.limits c.args.text.now t.ts c.finish.new.self.at.here.line (c.in-More.ensures.limits ∙ t.limits_are) takes.1)

pub returns-in-More-clause-line : goal.returns-in-More-clause-line
returns-in-More-clause-line c =
    let t = c.loop-left.invariant in
    let takes = c.in-More.ensures.takes c.args.text.now t.ts t.knows in
    c.line.ensures ∙ sym (all_line c.args.limits c.finish.new.self.limits c.args.text.now t.ts c.finish.new.self.at.here.line (c.in-More.ensures.limits ∙ t.limits_are) takes.1)

pub returns-in-Failed-clause-fault : goal.returns-in-Failed-clause-fault
returns-in-Failed-clause-fault c =
    let t = c.loop-left.invariant in
    let takes = c.in-Failed.ensures.takes c.args.text.now t.ts t.knows in
    sym (fault_fault c.args.limits c.finish.new.self.limits c.args.text.now t.ts c.in-Failed.code c.finish.new.self.at.here.line (c.in-Failed.ensures.limits ∙ t.limits_are) takes.1)

pub returns-in-Failed-clause-line : goal.returns-in-Failed-clause-line
returns-in-Failed-clause-line c =
    let t = c.loop-left.invariant in
    let takes = c.in-Failed.ensures.takes c.args.text.now t.ts t.knows in
    c.line-in-Failed.ensures
    ∙ sym (fault_line c.args.limits c.finish.new.self.limits c.args.text.now t.ts c.in-Failed.code c.finish.new.self.at.here.line (c.in-Failed.ensures.limits ∙ t.limits_are) takes.1)
