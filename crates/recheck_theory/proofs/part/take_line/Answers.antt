use Rattle.std.proofs.Common.{◌∙◌, sym as flip}
use Rattle.certificate_items.proofs.Cutting.{line_cut}
use Rattle.recheck_theory.proofs.part.take_line.Goals as goal

pub returns-clause-some : goal.returns-clause-some
returns-clause-some c = line_cut c.args.bytes.now c.in_ok-end.end c.in_ok-line.line (flip c.newline.ensures.value ∙ c.in_ok-end.was) c.in_ok-line.ensures.some
