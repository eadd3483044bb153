use Rattle.split_parts.proofs.Splits.{application_split, application_typed}
use Rattle.split_parts.proofs.laws.parts_are_the_whole.Goals as goal

pub returns-clause-parts : goal.returns-clause-parts
returns-clause-parts c = application_split

pub returns-clause-typ : goal.returns-clause-typ
returns-clause-typ c = application_typed
