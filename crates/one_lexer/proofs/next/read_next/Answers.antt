use Rattle.one_lexer.proofs.next.read_next.Goals as goal

pub returns-in-Blank-clause-comes : goal.returns-in-Blank-clause-comes
returns-in-Blank-clause-comes c = c.read_blank.ensures.comes c.args.over

pub returns-in-Blank-clause-fewer : goal.returns-in-Blank-clause-fewer
returns-in-Blank-clause-fewer c = c.read_blank.ensures.fewer c.args.over

pub returns-in-CommentOpen-clause-comes : goal.returns-in-CommentOpen-clause-comes
returns-in-CommentOpen-clause-comes c = c.read_comment.ensures.comes c.args.over

pub returns-in-CommentOpen-clause-fewer : goal.returns-in-CommentOpen-clause-fewer
returns-in-CommentOpen-clause-fewer c = c.read_comment.ensures.fewer c.args.over
