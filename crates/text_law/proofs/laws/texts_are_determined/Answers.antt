use Rattle.text_law.proofs.Determined.{cut_once}
use Rattle.text_law.proofs.laws.texts_are_determined.Goals as goal

pub returns : goal.returns
returns c = cut_once
