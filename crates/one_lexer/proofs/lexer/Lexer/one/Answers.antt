use Rattle.std.proofs.Common.{◌++◌, ◌∷◌, [], sym, subst, List, ℕ}
use Rattle.one_lexer.specs.declared.lexer.Lexer.{Lexer}
use Rattle.one_lexer.specs.Lexers.{Knows}
use Rattle.one_lexer.specs.Reading.{last_of}
use Rattle.one_lexer.specs.Steps.{token_of}
use Rattle.one_lexer.proofs.Lexers.{has_fault, knows, knows_between, knows_failed, knows_inside, token_begun}
use Rattle.one_lexer.proofs.Places.{last_all}
use Rattle.one_lexer.proofs.lexer.Lexer.one.Goals as goal

pub returns-in-Token-clause-takes : goal.returns-in-Token-clause-takes
returns-in-Token-clause-takes c before ts k =
    knows_between c.args.over c.args.self.now.limits before (last_of c.in-Token.left c.args.bytes.now) (ts ++ token_of c.in-Token.spelt ∷ []) c.in-Token.behind (c.in-Token.ensures.comes before ts k)

pub returns-in-Blank-clause-takes : goal.returns-in-Blank-clause-takes
returns-in-Blank-clause-takes c before ts k =
    knows_between c.args.over c.args.self.now.limits before (last_of c.in-Blank.left c.args.bytes.now) ts c.in-Blank.behind (c.in-Blank.ensures.comes before ts k)

pub returns-in-Comment-clause-takes : goal.returns-in-Comment-clause-takes
returns-in-Comment-clause-takes c before ts k =
    knows_inside c.args.over c.args.self.now.limits before c.args.bytes.now ts c.args.self.now.at c.in-Comment.inside (c.in-Comment.ensures.comes before ts k)

pub returns-in-More-clause-takes : goal.returns-in-More-clause-takes
returns-in-More-clause-takes c before ts k =
    let new : Lexer = record { limits = c.args.self.now.limits; at = c.args.self.now.at; state = c.begun-self.result } in (
      subst (λ (x : List ℕ). Knows c.args.over before ts x new) (sym (last_all c.args.bytes.now)) (knows c.args.over before c.args.bytes.now ts new (c.begun-self.ensures c.args.over before ts k)),
      token_begun c.args.over c.args.self.now.limits before ts c.args.self.now.at.here c.in-More.ensures.fewer (c.in-More.ensures.comes before ts k),
    )

pub returns-in-Failed-clause-takes : goal.returns-in-Failed-clause-takes
returns-in-Failed-clause-takes c before ts k =
    let f = c.in-Failed.ensures.comes before ts k in
    (knows_failed c.args.over c.args.self.now.limits before ts c.args.self.now.at c.in-Failed.code f, has_fault c.args.over c.args.self.now.limits before ts c.args.self.now.at.here c.in-Failed.code f)
