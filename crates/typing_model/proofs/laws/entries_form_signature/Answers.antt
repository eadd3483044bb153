use Rattle.dk_model.specs.Verdicts.{entry_of, inferred_type}
use Rattle.typing_model.proofs.Formed.{none_formed, formed_more, command_entry}
use Rattle.typing_model.proofs.laws.entries_form_signature.Goals as goal

pub returns-clause-empty : goal.returns-clause-empty
returns-clause-empty c = none_formed

pub returns-clause-more : goal.returns-clause-more
returns-clause-more c = λ S command budget formed. formed_more S (entry_of S command (inferred_type S command budget)) formed (command_entry S formed command budget)
