use Rattle.std.proofs.Common.{[]}
use Rattle.dk_model.specs.declared.code.Code.TheVariants.{E03}
use Rattle.one_lexer.proofs.Lexers.{comment_begun, comment_over, fails_before, has_fault, knows_failed, none_begun, reads_between, reads_inside, reads_word}
use Rattle.one_lexer.proofs.lexer.Lexer.end.Goals as goal

pub returns-in-Between-clause-takes : goal.returns-in-Between-clause-takes
returns-in-Between-clause-takes c before ts k =
    (k, none_begun c.args.over c.args.self.now.limits before ts c.args.self.now.at.here c.args.self.now.at.command (reads_between c.args.over before [] ts c.args.self.now k c.in-Between.is))

pub returns-in-Word-clause-takes : goal.returns-in-Word-clause-takes
returns-in-Word-clause-takes c before ts k = absurd ((reads_word c.args.over before [] ts c.args.self.now c.in-Word.field-0 k c.in-Word.is).1)

pub returns-then-over-clause-takes : goal.returns-then-over-clause-takes
returns-then-over-clause-takes c before ts k =
    let r = reads_inside c.args.over before [] ts c.args.self.now c.in-Comment.field-0 k c.in-Comment.is in
    let f = comment_over c.args.over c.args.self.now.limits before ts c.args.self.now.at.here c.args.self.now.at.command c.in-Comment.field-0 c.if-over.true r in
    (knows_failed c.args.over c.args.self.now.limits before ts c.args.self.now.at E03 f, has_fault c.args.over c.args.self.now.limits before ts c.args.self.now.at.here E03 f)

pub returns-else-over-clause-takes : goal.returns-else-over-clause-takes
returns-else-over-clause-takes c before ts k =
    let r = reads_inside c.args.over before [] ts c.args.self.now c.in-Comment.field-0 k c.in-Comment.is in
    (k, comment_begun c.args.over c.args.self.now.limits before ts c.args.self.now.at.here c.args.self.now.at.command c.in-Comment.field-0 c.if-over.false r)

pub returns-in-Failed-clause-takes : goal.returns-in-Failed-clause-takes
returns-in-Failed-clause-takes c before ts k =
    (k, has_fault c.args.over c.args.self.now.limits before ts c.args.self.now.at.here c.in-Failed.code (fails_before c.args.over before [] ts c.args.self.now c.in-Failed.code k c.in-Failed.is))
