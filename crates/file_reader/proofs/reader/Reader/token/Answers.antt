use Rattle.std.proofs.Common.{ℕ, List, ap, sym, subst, ◌∙◌}
use Rattle.one_lexer.specs.Lexers.{Knows}
use Rattle.one_lexer.specs.Reading.{last_of}
use Rattle.one_lexer.specs.Steps.{token_of}
use Rattle.file_reader.proofs.Taking.{all_read, token_lost}
use Rattle.file_reader.proofs.reader.Reader.token.Goals as goal

pub returns-in-Err-clause-takes : goal.returns-in-Err-clause-takes
returns-in-Err-clause-takes c = λ limits given done h.
    let k = subst (λ (x : List ℕ). Knows c.args.self.now.over given h.taken x c.args.self.now.lexer) (sym c.bytes.ensures) h.lexed.knows in
    token_lost h c.take_next.new.lexer c.in-Token.ensures.limits (last_of c.in-Token.left c.bytes.result.now) (token_of c.in-Token.spelt) c.due_line.result
    (c.in-Token.ensures.takes given h.taken k) (c.due_line.ensures limits h.taken h.parsed.has_read)

pub returns-in-Some-clause-takes : goal.returns-in-Some-clause-takes
returns-in-Some-clause-takes c = λ limits given done h.
    let k = subst (λ (x : List ℕ). Knows c.args.self.now.over given h.taken x c.args.self.now.lexer) (sym c.bytes.ensures) h.lexed.knows in
    let t = c.in-More.ensures.takes given h.taken k in
    let rest = ap (last_of c.in-More.left) c.bytes.ensures ∙ sym c.keep-in-More.ensures in
    c.in-Some.ensures limits given done (all_read h c.take_next.new.lexer c.in-More.ensures.limits c.keep-in-More.new.self
    (subst (λ (x : List ℕ). Knows c.args.self.now.over given h.taken x c.take_next.new.lexer) rest t.0) t.1)

pub returns-in-None-clause-takes : goal.returns-in-None-clause-takes
returns-in-None-clause-takes c = λ limits given done h.
    let k = subst (λ (x : List ℕ). Knows c.args.self.now.over given h.taken x c.args.self.now.lexer) (sym c.bytes.ensures) h.lexed.knows in
    let t = c.in-More.ensures.takes given h.taken k in
    let rest = ap (last_of c.in-More.left) c.bytes.ensures ∙ sym c.keep-in-More.ensures in
    let read = all_read h c.take_next.new.lexer c.in-More.ensures.limits c.keep-in-More.new.self
    (subst (λ (x : List ℕ). Knows c.args.self.now.over given h.taken x c.take_next.new.lexer) rest t.0) t.1 in
    (read, c.in-None.ensures limits given done read)
