use Rattle.std.proofs.Common.{ℕ, ◌==◌, ap, arith, ◌∙◌}
use Rattle.one_lexer.proofs.NameBytes.{name_byte}
use Rattle.one_lexer.proofs.name.begins_name.Goals as goal

pub returns : goal.returns
returns c = ap (λ (n : ℕ). n == 1) c.name_mark.ensures ∙ (name_byte c.args.byte (omega arith)).1
