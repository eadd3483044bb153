use Rattle.std.proofs.Common.{[], List, ℕ, sym, subst}
use Rattle.one_lexer.proofs.Lexers.{knows_over}
use Rattle.one_lexer.specs.Steps.{token_of}
use Rattle.command_texts.proofs.Adding.{HasCut, cut_all, cut_more, cut_nothing}
use Rattle.command_texts.proofs.Reading.{file_cut}
use Rattle.command_texts.proofs.cutting.command_spans.Goals as goal

pub loop-token-init : goal.loop-token-init
loop-token-init c =
    let bytes = c.args.bytes.now in
    cut_nothing c.args.limits bytes c.new-lexer.result c.new-texts.result (knows_over bytes bytes [] c.new-lexer.result (c.new-lexer.ensures.knows bytes)) c.new-lexer.ensures.limits c.new-texts.ensures.ended c.new-texts.ensures.begun

pub loop-token-preserved : goal.loop-token-preserved
loop-token-preserved c =
    let h = c.loop-token.invariant in
    let bytes = c.args.bytes.now in
    subst (λ (z : List ℕ). HasCut c.args.limits bytes z c.finish.new.self c.token.new.self) (sym c.split_at.ensures.back)
    (cut_more c.finish.new.self c.token.new.self (token_of c.in-Token.token) h (c.in-Token.ensures.takes bytes h.ts h.knows) c.in-Token.ensures.limits c.in_ok-token.ensures)

pub returns : goal.returns
returns c =
    let h = c.loop-token.invariant in
    let bytes = c.args.bytes.now in
    record {
      cuts = λ commands e. file_cut c.args.limits bytes commands c.loop-token.texts.ended.items e
          (cut_all c.finish.new.self c.finish.result h c.finish.ensures.limits c.in_default.not-Token (c.finish.ensures.takes bytes h.ts h.knows));
    }
