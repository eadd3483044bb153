use Rattle.std.proofs.Common.{ℕ, not, ◌==◌, ap, arith, ◌∙◌}
use Rattle.one_lexer.proofs.NameBytes.{name_byte}
use Rattle.one_lexer.proofs.name.is_in_name.Goals as goal

pub returns : goal.returns
returns c = ap (λ (n : ℕ). not (n == 0)) c.name_mark.ensures ∙ (name_byte c.args.byte (omega arith)).0
