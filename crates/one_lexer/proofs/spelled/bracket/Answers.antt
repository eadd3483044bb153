use Rattle.std.proofs.Common.{rules, arith, ◌≡◌, ◌∷◌, [], ◌+◌, ap, sym, ◌∙◌}
use Rattle.dk_lexer.specs.declared.class.Class.TheVariants as class
use Rattle.dk_lexer.specs.Classes.{class_of}
use Rattle.dk_lexer.specs.Spelling.{blank}
use Rattle.one_lexer.proofs.Wholes.{bracket_comment, comment_none}
use Rattle.one_lexer.proofs.spelled.bracket.Goals as goal

pub returns-in-Closed : goal.returns-in-Closed
returns-in-Closed c =
    let at : c.args.rest.now ≡ c.in-Some.next.now ∷ c.in-Some.more.now = search rules in
    let semicolon : class_of c.in-Some.next.now ≡ class.Semicolon = search rules in
    let left : c.in-Closed.left ≡ c.in-Closed.left + 0 = omega arith in
    c.settled.ensures ∙ ap blank left ∙ c.in-Closed.ensures.goes_on [] ∙ comment_none 1 class.Other c.in-Some.more.now ∙ sym (bracket_comment c.in-Some.next.now c.args.rest.now c.in-Some.more.now at semicolon)

pub returns-in-Open : goal.returns-in-Open
returns-in-Open c =
    let at : c.args.rest.now ≡ c.in-Some.next.now ∷ c.in-Some.more.now = search rules in
    let semicolon : class_of c.in-Some.next.now ≡ class.Semicolon = search rules in
    c.settled-in-Open.ensures ∙ c.in-Open.ensures.goes_on [] ∙ comment_none 1 class.Other c.in-Some.more.now ∙ sym (bracket_comment c.in-Some.next.now c.args.rest.now c.in-Some.more.now at semicolon)
