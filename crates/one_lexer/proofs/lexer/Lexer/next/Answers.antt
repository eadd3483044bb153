use Rattle.one_lexer.proofs.Lexers.{fails_before, reads_between, reads_inside, reads_word}
use Rattle.one_lexer.proofs.lexer.Lexer.next.Goals as goal

pub returns-in-Between-clause-comes : goal.returns-in-Between-clause-comes
returns-in-Between-clause-comes c before ts k = c.read_next.ensures.comes before ts (reads_between c.args.over before c.args.bytes.now ts c.args.self.now k c.in-Between.is)

pub returns-in-Word-clause-comes : goal.returns-in-Word-clause-comes
returns-in-Word-clause-comes c before ts k =
    let w = reads_word c.args.over before c.args.bytes.now ts c.args.self.now c.in-Word.known k c.in-Word.is in
    c.word.ensures.comes w.1 before ts w.0

pub returns-in-Comment-clause-comes : goal.returns-in-Comment-clause-comes
returns-in-Comment-clause-comes c before ts k =
    c.read_inside.ensures.comes c.args.over before ts (reads_inside c.args.over before c.args.bytes.now ts c.args.self.now c.in-Comment.inside k c.in-Comment.is)

pub returns-in-Comment-clause-fewer : goal.returns-in-Comment-clause-fewer
returns-in-Comment-clause-fewer c = c.read_inside.ensures.fewer c.args.over

pub returns-in-Failed-clause-comes : goal.returns-in-Failed-clause-comes
returns-in-Failed-clause-comes c before ts k = fails_before c.args.over before c.args.bytes.now ts c.args.self.now c.in-Failed.code k c.in-Failed.is
