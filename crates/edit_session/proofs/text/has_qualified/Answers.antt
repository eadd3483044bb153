use Rattle.std.proofs.Common.{List, ℕ, sym, subst, ◌∙◌}
use Rattle.one_lexer.specs.Reading.{last_of}
use Rattle.one_lexer.specs.Steps.{token_of}
use Rattle.edit_session.proofs.Given.{tokens_end}
use Rattle.edit_session.proofs.Reading.{Looked, looked_all, looked_found, looked_more, looked_none}
use Rattle.edit_session.proofs.text.has_qualified.Goals as goal

pub loop-token-init : goal.loop-token-init
loop-token-init c = looked_none c.args.limits c.args.text.now c.new-lexer.result (c.new-lexer.ensures.knows c.args.text.now) c.new-lexer.ensures.limits

pub loop-token-preserved : goal.loop-token-preserved
loop-token-preserved c =
    let h = c.loop-token.invariant in
    let text = c.args.text.now in
    subst (λ (z : List ℕ). Looked c.args.limits text z c.finish.new.self) (sym c.split_at.ensures.back)
    (looked_more c.finish.new.self (token_of c.in-Token.token) h (c.in-Token.ensures.takes text h.ts h.knows) c.in-Token.ensures.limits (sym c.is_qualified.ensures ∙ c.if-is_qualified.false))

pub returns-then-is_qualified : goal.returns-then-is_qualified
returns-then-is_qualified c =
    let h = c.loop-token.invariant in
    let text = c.args.text.now in
    looked_found (last_of c.in-Token.left c.loop-token.rest.now) c.finish.new.self (token_of c.in-Token.token) h (c.in-Token.ensures.takes text h.ts h.knows) c.in-Token.ensures.limits (sym c.is_qualified.ensures ∙ c.if-is_qualified.true)

pub returns : goal.returns
returns c =
    let h = c.loop-token.invariant in
    let text = c.args.text.now in
    looked_all c.finish.new.self h c.finish.ensures.limits (tokens_end text c.loop-token.rest.now h.ts c.finish.new.self c.finish.result c.in_default.not-Token (c.finish.ensures.takes text h.ts h.knows))
