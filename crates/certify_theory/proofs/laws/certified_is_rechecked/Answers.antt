use Rattle.certificate_items.specs.Texts.{lines_text}
use Rattle.recheck_theory.specs.Laws.{certificate_lines}
use Rattle.certify_theory.proofs.laws.certified_is_rechecked.Goals as goal

pub returns : goal.returns
returns c = λ commands before after taken. (lines_text (certificate_lines taken.parts), taken.taken, c.certificates_are_rechecked.ensures commands taken.parts taken.certificate taken.short)
