use Rattle.std.proofs.Common.{◌≡◌, Bool, false, rules, subst, sym}
use Rattle.one_lexer.specs.Steps.{ComesFrom}
use Rattle.one_lexer.proofs.lexer.Lexer.word.Goals as goal

pub returns-in-Some-clause-comes : goal.returns-in-Some-clause-comes
returns-in-Some-clause-comes c h before ts r =
    let opened : c.args.over ≡ false = search rules in
    subst (λ (b : Bool). ComesFrom b c.args.self.now.limits c.args.self.now.at c.args.bytes.now c.in-Some.next) (sym opened) (c.in-Some.ensures.comes h) before ts r
