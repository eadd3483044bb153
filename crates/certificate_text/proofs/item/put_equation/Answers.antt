use Rattle.std.proofs.Common.{[], ◌∷◌}
use Rattle.certificate_lines.specs.declared.line.Line.TheVariants.{Equation}
use Rattle.checked_steps.specs.Items.{equation}
use Rattle.certificate_items.specs.Texts.{item_lines, both_lines}
use Rattle.certificate_items.specs.Views.{plain_steps, plain_word}
use Rattle.certificate_text.proofs.Texts.{lines_then, lines_stop, lines_short, equation_parts}
use Rattle.certificate_text.proofs.item.put_equation.Goals as goal

pub returns-in-Ok-clause-put : goal.returns-in-Ok-clause-put
returns-in-Ok-clause-put g c = lines_then (item_lines (equation (plain_word c.args.word) (plain_steps c.args.join.now.first) (plain_steps c.args.join.now.second))) (Equation c.len.result c.len-2.result c.args.word ∷ []) (both_lines (plain_steps c.args.join.now.first) (plain_steps c.args.join.now.second))
    (equation_parts c.args.word c.args.join.now.first c.args.join.now.second c.len.result c.len-2.result c.len.ensures c.len-2.ensures) c.in-Ok.ensures.put c.put_both.ensures.put

pub returns-in-Ok-clause-short : goal.returns-in-Ok-clause-short
returns-in-Ok-clause-short g c = lines_short c.put_both.result (item_lines (equation (plain_word c.args.word) (plain_steps c.args.join.now.first) (plain_steps c.args.join.now.second))) (Equation c.len.result c.len-2.result c.args.word ∷ []) (both_lines (plain_steps c.args.join.now.first) (plain_steps c.args.join.now.second))
    (equation_parts c.args.word c.args.join.now.first c.args.join.now.second c.len.result c.len-2.result c.len.ensures c.len-2.ensures) (c.put_line.ensures.short, tt) c.put_both.ensures.short

pub returns-in-Err-clause-put : goal.returns-in-Err-clause-put
returns-in-Err-clause-put g c = lines_stop (item_lines (equation (plain_word c.args.word) (plain_steps c.args.join.now.first) (plain_steps c.args.join.now.second))) (Equation c.len.result c.len-2.result c.args.word ∷ []) (both_lines (plain_steps c.args.join.now.first) (plain_steps c.args.join.now.second))
    (equation_parts c.args.word c.args.join.now.first c.args.join.now.second c.len.result c.len-2.result c.len.ensures c.len-2.ensures) c.in-Err.ensures.put
