use Rattle.std.proofs.Common.{sym, ◌∙◌}
use Rattle.one_lexer.proofs.PlainRuns.{plain_word}
use Rattle.one_lexer.proofs.quick.run_kind.Goals as goal

pub returns-else-may_be_word : goal.returns-else-may_be_word
returns-else-may_be_word c = sym (plain_word c.args.text.now (sym c.may_be_word.ensures ∙ c.if-may_be_word.false))
