use Rattle.std.proofs.Common.{◌≡◌, ap, arith, rules, subst, sym, ◌∙◌, false, true}
use Rattle.std.specs.Prelude.{Some, None}
use Rattle.dk_model.specs.declared.code.Code.{Code}
use Rattle.dk_lexer.specs.declared.token.TokenKind.TheVariants as kind
use Rattle.dk_lexer.specs.Spelling.{token}
use Rattle.dk_lexer.specs.Tokens.{Bound, begin_of, bound}
use Rattle.one_lexer.specs.Reading.{Fails}
use Rattle.one_lexer.proofs.Carries.{open_fails, open_waits}
use Rattle.one_lexer.proofs.next.read_letters.Goals as goal

pub returns-then-total-last-clause-comes : goal.returns-then-total-last-clause-comes
returns-then-total-last-clause-comes c h before ts r =
    let size = r.total in
    let begin = begin_of c.args.at.command c.args.at.here.offset in
    let yes : c.goes_on.result ≡ true = search rules in
    let some = c.goes_on.ensures.some yes in
    let at : bound c.args.limits (Some c.command_begin.result) ≡ bound c.args.limits (Some begin) = ap (λ (b : _). bound c.args.limits (Some b)) c.command_begin.ensures in
    let last : c.bound_of-last.result.0 ≡ (bound c.args.limits (Some begin)).last = c.bound_of-last.ensures.last ∙ ap (λ (b : Bound). b.last) at in
    let code : c.bound_of-last.result.1 ≡ (bound c.args.limits (Some begin)).code = c.bound_of-last.ensures.code ∙ ap (λ (b : Bound). b.code) at in
    subst (λ (x : Code). Fails false c.args.limits before ts c.args.at.here x) (sym code)
    (open_fails c.args.limits before c.args.bytes.now ts c.args.at.here c.args.at.command None (token kind.Profile c.args.bytes.now 0) r (omega (arith, some))
    (sym (c.goes_on.ensures.waits yes h c.args.limits.name_bytes)) tt (omega (arith, last, size, c.offset_at-total.ensures, c.if-total-last.true)))

pub returns-else-total-last-clause-comes : goal.returns-else-total-last-clause-comes
returns-else-total-last-clause-comes c h before ts r =
    let size = r.total in
    let begin = begin_of c.args.at.command c.args.at.here.offset in
    let yes : c.goes_on.result ≡ true = search rules in
    let some = c.goes_on.ensures.some yes in
    let at : bound c.args.limits (Some c.command_begin.result) ≡ bound c.args.limits (Some begin) = ap (λ (b : _). bound c.args.limits (Some b)) c.command_begin.ensures in
    let last : c.bound_of-last.result.0 ≡ (bound c.args.limits (Some begin)).last = c.bound_of-last.ensures.last ∙ ap (λ (b : Bound). b.last) at in
    open_waits c.args.limits before c.args.bytes.now ts c.args.at.here c.args.at.command None (token kind.Profile c.args.bytes.now 0) r (omega (arith, some))
    (sym (c.goes_on.ensures.waits yes h c.args.limits.name_bytes)) tt (omega (arith, last, size, c.offset_at-total.ensures, c.if-total-last.false))
