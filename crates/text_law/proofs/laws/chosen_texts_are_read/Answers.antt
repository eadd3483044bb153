use Rattle.text_law.proofs.Choices.{chosen_read}
use Rattle.text_law.proofs.laws.chosen_texts_are_read.Goals as goal

pub returns : goal.returns
returns c = chosen_read
